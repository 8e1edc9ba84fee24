-- The loop keeps `Going`: so many bytes are taken, and what they left is fed the rest. Each turn is one event, and where the loop stops the
-- definition stops.
use Prim.Native.Nat.{◌-◌}
use mathlib.Core.Path.{◌≡◌}
use lib.ListN.{length}
use Rattle.rules.specs.Layout.{tracker}
use Rattle.feed.proofs.Loop.{Going}
use Rattle.feed.proofs.feed.Given as goal

abbrev pub invariant-loop-at : goal.invariant-loop-at
invariant-loop-at l = (length l.locations ≡ length l.initial.locations) × (length l.counts ≡ length l.initial.counts) × (length l.thresholds ≡ length l.initial.thresholds)
    × Going l.bytes (tracker l.initial.latest l.initial.locations l.initial.counts l.initial.thresholds) l.at (tracker l.latest l.locations l.counts l.thresholds)

abbrev pub decreases-loop-at : goal.decreases-loop-at
decreases-loop-at l = length l.bytes - l.at
