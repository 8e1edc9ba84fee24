-- The loop keeps `Counted`: the events so far and those of what is left make up the whole. Each turn is one step; a refusal ends the count.
use Prim.Native.Nat.{◌-◌}
use lib.ListN.{length}
use Rattle.std.proofs.Common.{◌≡◌}
use Rattle.reader.proofs.Laws.{Counted}
use Rattle.reader.proofs.whole_events.Given as goal

abbrev pub invariant-loop-events : goal.invariant-loop-events
invariant-loop-events l = (l.reader.src.now ≡ l.bytes) × Counted l.reader.src.now l.events l.reader.at

abbrev pub decreases-loop-events : goal.decreases-loop-events
decreases-loop-events l = length l.bytes - l.reader.at
