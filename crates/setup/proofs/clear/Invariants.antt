-- The loop keeps: the first i entries of both tables are filled, and the others are as they were.
use Rattle.rules.proofs.Tables.{Filled}
use Rattle.setup.proofs.clear.Given as goal

abbrev pub invariant-loop-i : goal.invariant-loop-i
invariant-loop-i l = Filled 0 l.initial.counts l.counts l.i × Filled l.start l.initial.thresholds l.thresholds l.i
