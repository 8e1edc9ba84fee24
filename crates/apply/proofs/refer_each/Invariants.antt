-- The loop keeps `Going`: so many references are made, and the rest are to make. Each turn is one reference, and one that is refused ends it.
use Rattle.rules.specs.Layout.{tracker}
use Rattle.rules.proofs.Spans.{Going}
use Rattle.apply.proofs.refer_each.Given as goal

abbrev pub invariant-loop-i : goal.invariant-loop-i
invariant-loop-i l =
    Going l.first l.number (tracker l.initial.kept l.initial.locations l.initial.counts l.initial.thresholds) l.i (tracker l.kept l.locations l.counts l.thresholds)
