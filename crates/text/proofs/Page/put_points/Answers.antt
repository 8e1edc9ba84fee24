use borrow.Author.Rules.{rules}
use mathlib.Core.Path.{◌≡◌}
use native.Mathlib.Omega.{arith}
use Rattle.text.proofs.Laws.{lines_none, lines_more}
use Rattle.text.proofs.Curves.{each_given}
use Rattle.text.proofs.Page.put_points.Goals as goal

pub loop-number-init : goal.loop-number-init
loop-number-init c = (omega arith, lines_none _ _ _ (omega (arith, c.requires.buckets_in_bounds)))

pub put_point-requires-clause-given : goal.put_point-requires-clause-given
put_point-requires-clause-given c = each_given c.requires.judges _ (search rules)

pub loop-number-preserved : goal.loop-number-preserved
loop-number-preserved c =
    let line = c.put_point.ensures in
    (omega (arith, line.upper_bound, c.loop-number.invariant.0), lines_more _ _ _ c.loop-number.invariant.1 line.puts)

pub returns-2-clause-puts : goal.returns-2-clause-puts
returns-2-clause-puts c =
    let last : c.loop-number.number ≡ c.args.kept.settings.buckets = omega arith in
    rw last at (lines_more _ _ _ c.loop-number.invariant.1 c.put_point.ensures.puts)
