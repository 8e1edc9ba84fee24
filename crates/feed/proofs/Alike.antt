-- Trackers that agree are fed alike. By `by_feeding`: each event is answered alike, and what it leaves agrees again. Assumes nothing.
use Prim.Native.Nat.{ℕ, ◌+◌}
use mathlib.Core.Path.{◌≡◌, refl, sym, ap, subst, ◌∙◌}
use mathlib.Core.List.{List, []}
use native.Mathlib.Omega.{arith}
use lib.ListN.{drop}
use borrow.Author.Tests.{ne_eqb}
use Rattle.rules.specs.Answers.{Result, refused, gives}
use Rattle.rules.specs.declared.Got.{Got}
use Rattle.rules.specs.Events.{read_of}
use Rattle.rules.specs.Layout.{Tracker}
use Rattle.rules.specs.Calls.{apply_of}
use Rattle.rules.proofs.Events.{taken}
use Rattle.demands.specs.Refusing.{Agree}
use Rattle.demands.proofs.Refusing.{agree_again}
use Rattle.feed.specs.declared.End.{End}
use Rattle.feed.specs.declared.End.TheVariants.{Whole, Inside}
use Rattle.feed.specs.Feed.{Feeding, stopped, further, after_event, feed_of}
use Rattle.feed.specs.Alike.{FedAlike, FeedAgrees}
use Rattle.feed.proofs.Laws.{feed_none, feed_reads, by_feeding}

-- both stop for the same reason
both_stop : (why : Result End) (s t : Tracker) (h : Feeding) → h ≡ stopped why t → Agree s t → FedAlike (stopped why s) h
both_stop why s t h is a = subst (FedAlike (stopped why s)) (sym is) (record { same_taken = refl; same_result = refl; agree = a })

further_alike : (n : ℕ) {f h : Feeding} → FedAlike f h → FedAlike (further n f) (further n h)
further_alike n a = record { same_taken = ap (λ m. n + m) a.same_taken; same_result = a.same_result; agree = a.agree }

-- the first event, of the other tracker: answered as it is of the first one
module _ (bytes : List ℕ) (g : Got) (e : read_of bytes ≡ gives g) (s t : Tracker) (a : Agree s t) where
  other_reads : feed_of bytes t ≡ after_event feed_of g.taken bytes (apply_of g.event s).result (apply_of g.event t).left
  other_reads =
      feed_reads bytes t (omega (arith, taken bytes e)) (gives g) e
      ∙ ap (λ r. after_event feed_of g.taken bytes r (apply_of g.event t).left) (sym ((agree_again s t a).apply_says g.event))

  still : (left : Tracker) → (apply_of g.event s).left ≡ left → Agree left (apply_of g.event t).left
  still left is = subst (λ z. Agree z (apply_of g.event t).left) is ((agree_again s t a).apply_leaves g.event)

pub feed_agrees : FeedAgrees
feed_agrees = by_feeding (λ bytes s f. (t : Tracker) → Agree s t → FedAlike f (feed_of bytes t))
    (λ s t a. both_stop (gives Whole) s t _ (feed_none [] t refl) a)
    (λ bytes s some e t a. both_stop (gives Inside) s t _ (feed_reads bytes t some (refused 7) e) a)
    (λ bytes s n other some e t a. both_stop (refused n) s t _ (feed_reads bytes t some (refused n) e ∙ rw (ne_eqb n 7 other)) a)
    (λ bytes s g n left e q t a.
    let other = (apply_of g.event t).left in
    both_stop (refused n) left other _
    (other_reads bytes g e s t a ∙ ap (λ o. after_event feed_of g.taken bytes o.result other) q.is)
    (still bytes g e s t a left (ap (λ o. o.left) q.is)))
    (λ bytes s g left e took h t a.
    let next = (apply_of g.event t).left in
    subst (FedAlike (further g.taken (feed_of (drop g.taken bytes) left)))
    (sym (other_reads bytes g e s t a ∙ ap (λ o. after_event feed_of g.taken bytes o.result next) took.is))
    (further_alike g.taken (h next (still bytes g e s t a left (ap (λ o. o.left) took.is)))))
