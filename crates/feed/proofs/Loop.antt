-- Feeding from a place of the bytes on: what each turn of the loop comes to. Each law puts the reading and the applying of one event in front of
-- the feeding of what is left. Assumes nothing.
use Prim.Native.Nat.{ℕ, ◌+◌, ◌-◌, ◌≤◌, ◌<◌}
use mathlib.Core.Path.{◌≡◌, sym, ap, ◌∙◌}
use mathlib.Core.List.{List}
use native.Mathlib.Nat.{add-zero}
use native.Mathlib.Omega.{arith}
use lib.ListN.{length, drop, length-drop}
use lib.Seq.{drop-drop}
use Rattle.rules.specs.Answers.{Result, refused, gives}
use Rattle.rules.specs.declared.Got.{Got}
use Rattle.rules.specs.Events.{read_of}
use Rattle.rules.specs.Layout.{Tracker}
use Rattle.rules.specs.Calls.{apply_of}
use Rattle.rules.proofs.Events.{taken}
use Rattle.feed.specs.declared.End.{End}
use Rattle.feed.specs.declared.End.TheVariants.{Whole}
use Rattle.feed.specs.Feed.{Feeding, stopped, further, unreadable, after_reading, feed_of}
use Rattle.feed.proofs.Laws.{taking, feed_none, feed_reads}
use Rattle.feed.proofs.Pieces.{further_zero, further_further}

-- so many bytes are taken, and what they left is fed the rest
pub record Going (bytes : List ℕ) (first : Tracker) (at : ℕ) (s : Tracker) : Type 0 where
  pub within : at ≤ length bytes
  pub is : feed_of bytes first ≡ further at (feed_of (drop at bytes) s)

pub going_none : (bytes : List ℕ) (s : Tracker) → Going bytes s 0 s
going_none bytes s = record { within = omega arith; is = sym (further_zero (feed_of bytes s)) }

-- stopped at a place
abbrev pub at_place : ℕ → Result End → Tracker → Feeding
at_place at why s = record { taken = at; result = why; left = s }

module _ {bytes : List ℕ} {first : Tracker} {at : ℕ} {s : Tracker} (w : Going bytes first at s) where
  stops : {why : Result End} {left : Tracker} → feed_of (drop at bytes) s ≡ stopped why left → at_place at why left ≡ feed_of bytes first
  stops {why} {left} e = sym (w.is ∙ ap (further at) e ∙ (λ i. at_place (add-zero at i) why left))

  pub at_end : length bytes ≤ at → at_place at (gives Whole) s ≡ feed_of bytes first
  at_end h = stops (feed_none (drop at bytes) s (rw length-drop (omega arith)))

  module _ (some : at < length bytes) where
    reads : (r : Result Got) → read_of (drop at bytes) ≡ r → feed_of (drop at bytes) s ≡ after_reading feed_of (drop at bytes) r s
    reads = feed_reads (drop at bytes) s (rw length-drop (omega arith))

    pub at_unread : (n : ℕ) → read_of (drop at bytes) ≡ refused n → at_place at (unreadable n) s ≡ feed_of bytes first
    at_unread n e = stops (reads (refused n) e)

    module _ (g : Got) (e : read_of (drop at bytes) ≡ gives g) where
      pub ahead : (0 < g.taken) × (g.taken ≤ length bytes - at)
      ahead = rw length-drop at (taken (drop at bytes) e)

      pub at_refused : (n : ℕ) (left : Tracker) → record { result = refused n; left = left } ≡ apply_of g.event s
          → at_place at (refused n) left ≡ feed_of bytes first
      at_refused n left q = stops (reads (gives g) e ∙ rw (← q))

      pub goes_on : (left : Tracker) → taking left ≡ apply_of g.event s → Going bytes first (at + g.taken) left
      goes_on left q = record {
        within = omega (arith, ahead, w.within);
        is =
            let f = feed_of (drop g.taken (drop at bytes)) left in
            let event : feed_of (drop at bytes) s ≡ further g.taken f = reads (gives g) e ∙ rw (← q) in
            w.is ∙ ap (further at) event ∙ further_further at g.taken f ∙ rw (drop-drop g.taken at bytes);
      }
