use borrow.Author.Tests.{lt-ltb, le-ltb}
use native.Mathlib.Omega.{arith}
use Rattle.live.proofs.Laws.{keep_in, keep_out}
use Rattle.live.proofs.keep_below.Goals as goal
use Rattle.live.proofs.keep_below.Goals.{then-hash_of-threshold, else-hash_of-threshold}

pub loop-i-preserved : goal.loop-i-preserved
loop-i-preserved c = elim c.if-hash_of-threshold.branch [
  | then-hash_of-threshold w ↦ rw (w.list-is, w.number-is)
      (keep_in _ _ _ _ _ c.loop-i.invariant (omega arith) (lt-ltb _ _ (rw c.hash_of.ensures at w.if-hash_of-threshold.true)))
  | else-hash_of-threshold w ↦ rw (w.list-is, w.number-is)
      (keep_out _ _ _ _ _ c.loop-i.invariant (omega arith) (le-ltb _ _ (rw c.hash_of.ensures at w.if-hash_of-threshold.false)))
]
