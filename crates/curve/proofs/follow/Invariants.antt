-- The loop keeps `Followed`: what stands at the front of the buffer is what is left of the input so far. Each turn is one read, which is counted
-- with the bytes taken.
use Prim.Native.Nat.{◌+◌, ◌-◌, ◌<◌, ◌^◌}
use Rattle.rules.specs.Layout.{tracker, tables_of}
use Rattle.curve.specs.Program.{Followed}
use Rattle.curve.proofs.follow.Given as goal

abbrev pub invariant-loop-p : goal.invariant-loop-p
invariant-loop-p l = (l.p.left < 18) × (l.p.place + l.p.reads < 2 ^ 64)
    × Followed (tracker l.initial.p.kept l.initial.locations l.initial.counts l.initial.thresholds) l.p l.buffer (tables_of l.locations l.counts l.thresholds)

abbrev pub decreases-loop-p : goal.decreases-loop-p
decreases-loop-p l = 2 ^ 64 - (l.p.place + l.p.reads)
