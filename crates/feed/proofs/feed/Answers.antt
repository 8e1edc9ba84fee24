use borrow.Author.Rules.{rules}
use native.Mathlib.Omega.{arith}
use mathlib.Core.List.{List}
use Prim.Native.Nat.{ℕ, ◌-◌, ◌<◌, ◌≤◌}
use mathlib.Core.Path.{◌≡◌, sym, ap, ◌∙◌}
use lib.ListN.{length, take, drop}
use Rattle.rules.specs.Answers.{Result, gives}
use Rattle.rules.specs.declared.Got.{Got}
use Rattle.rules.specs.Layout.{Tracker}
use Rattle.rules.specs.Events.{read_of}
use Rattle.rules.proofs.Tables.{from_place_lem}
use Rattle.apply.proofs.Applying.{skip_event_lem}
use Rattle.feed.proofs.Loop.{Going, at_end, at_unread, ahead, at_refused, goes_on}
use Rattle.feed.proofs.feed.Goals as goal

-- what was read at a place stands at the front of all that follows the place
found : (bytes : List ℕ) (at : ℕ) {r : Result Got} → r ≡ read_of (take (length bytes - at) (drop at bytes)) → read_of (drop at bytes) ≡ r
found bytes at e = sym (e ∙ ap read_of (from_place_lem bytes at))

-- an event that was read has bytes, and they are there
on : (bytes : List ℕ) (at : ℕ) {first s : Tracker} → Going bytes first at s → at < length bytes → (g : Got)
    → gives g ≡ read_of (take (length bytes - at) (drop at bytes)) → (0 < g.taken) × (g.taken ≤ length bytes - at)
on bytes at w some g e = ahead w some g (found bytes at e)

pub overflow_add-at : goal.overflow_add-at
overflow_add-at c = omega (arith, on c.args.bytes.now c.loop-at.at c.loop-at.invariant.3 c.loop-at-test.true _ c.in-Ok.ensures)

pub loop-at-smaller-in-Some : goal.loop-at-smaller-in-Some
loop-at-smaller-in-Some c = omega (arith, on c.args.bytes.now c.loop-at.at c.loop-at.invariant.3 c.loop-at-test.true _ c.in-Ok.ensures)

pub loop-at-preserved-in-Some : goal.loop-at-preserved-in-Some
loop-at-preserved-in-Some c = (
  c.loop-at.invariant.0,
  c.loop-at.invariant.1,
  c.loop-at.invariant.2,
  goes_on c.loop-at.invariant.3 c.loop-at-test.true c.in-Ok.field-0 (found c.args.bytes.now c.loop-at.at c.in-Ok.ensures) _
      (skip_event_lem c.in-Ok.field-0.event _ c.in-Some.ensures),
)

pub returns-in-Err-apply : goal.returns-in-Err-apply
returns-in-Err-apply c =
    at_refused c.loop-at.invariant.3 c.loop-at-test.true c.in-Ok.field-0 (found c.args.bytes.now c.loop-at.at c.in-Ok.ensures) _ _ c.in-Err-apply.ensures

pub overflow_add-at-in-Ok : goal.overflow_add-at-in-Ok
overflow_add-at-in-Ok c = omega (arith, on c.args.bytes.now c.loop-at.at c.loop-at.invariant.3 c.loop-at-test.true _ c.in-Ok.ensures)

pub loop-at-smaller : goal.loop-at-smaller
loop-at-smaller c = omega (arith, on c.args.bytes.now c.loop-at.at c.loop-at.invariant.3 c.loop-at-test.true _ c.in-Ok.ensures)

pub loop-at-preserved : goal.loop-at-preserved
loop-at-preserved c = (
  search rules,
  search rules,
  search rules,
  goes_on c.loop-at.invariant.3 c.loop-at-test.true c.in-Ok.field-0 (found c.args.bytes.now c.loop-at.at c.in-Ok.ensures) _
      (rw c.in_default-apply.is at c.apply.ensures),
)

pub returns-in-Err : goal.returns-in-Err
returns-in-Err c =
    rw c.unreadable.ensures (at_unread c.loop-at.invariant.3 c.loop-at-test.true _ (found c.args.bytes.now c.loop-at.at c.in-Err.ensures))

pub returns : goal.returns
returns c = at_end c.loop-at.invariant.3 (search rules)
