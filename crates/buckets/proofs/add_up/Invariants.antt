-- The sums of a range. The loop's invariant: the buckets before the turn's are not torn, and add up to raw and sum.
use Prim.Native.Nat.{◌+◌}
use lib.ListN.{length}
use Rattle.rules.specs.Layout.{buckets_of}
use Rattle.buckets.specs.Buckets.{SoFar}
use Rattle.buckets.proofs.add_up.Given as goal

abbrev pub invariant-loop-count : goal.invariant-loop-count
invariant-loop-count l = SoFar l.references l.threshold (l.from + length l.yielded) (buckets_of l.counts l.thresholds) l.raw l.sum
