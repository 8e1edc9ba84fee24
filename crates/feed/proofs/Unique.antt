-- Each promise decides the answer, the record and every lent table: any two that it allows coincide. Assumes nothing.
use Prim.Native.Nat.{ℕ}
use mathlib.Core.Path.{◌≡◌, sym, ap, ◌∙◌}
use mathlib.Core.List.{List}
use Rattle.rules.specs.declared.Record.{Record}
use Rattle.rules.specs.Layout.{Tracker, tracker}
use Rattle.rules.proofs.Tables.{each_same}
use Rattle.rules.proofs.Answers.{result_injective}
use Rattle.feed.specs.declared.Fed.{Fed}
use Rattle.feed.specs.Feed.{after_fed, feed_of}

pub feed_once : (bytes : List ℕ) (s : Tracker) (a b : Fed) (keptA keptB : Record)
    (locationsA countsA thresholdsA locationsB countsB thresholdsB : List ℕ)
    → after_fed a (tracker keptA locationsA countsA thresholdsA) ≡ feed_of bytes s
    → after_fed b (tracker keptB locationsB countsB thresholdsB) ≡ feed_of bytes s
    → (a ≡ b) × (keptA ≡ keptB) × (locationsA ≡ locationsB) × (countsA ≡ countsB) × (thresholdsA ≡ thresholdsB)
feed_once bytes s a b keptA keptB locationsA countsA thresholdsA locationsB countsB thresholdsB p q =
    let k = p ∙ sym q in
    let same : a.ending ≡ b.ending = result_injective a.ending b.ending (ap (λ z. z.result) k) in
    let e = each_same (ap (λ z. z.left.tables) k) in
    ((λ i. record { taken = (k i).taken; ending = same i }), ap (λ z. z.left.kept) k, e.0, e.1, e.2)
