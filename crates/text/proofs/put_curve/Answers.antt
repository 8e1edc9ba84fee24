-- What is answered to point 0 says what the curve is (`point_judges`): one with points, an empty one, or refused for the same reason.
use mathlib.Core.Path.{sym, ◌∙◌}
use Rattle.rules.specs.Layout.{buckets_of}
use Rattle.text.proofs.Curves.{point_judges, curve_refused}
use Rattle.text.proofs.put_curve.Goals as goal

pub put_given-requires : goal.put_given-requires
put_given-requires c = let a = c.args in
    rw (← c.in-Ok.ensures) at (point_judges a.kept (buckets_of a.counts.now a.thresholds.now))

pub put_given-requires-in-Err : goal.put_given-requires-in-Err
put_given-requires-in-Err c = let a = c.args in
    rw (← c.in-Err.ensures, sym c.is_empty.ensures ∙ c.if-is_empty.true) at
    (point_judges a.kept (buckets_of a.counts.now a.thresholds.now))

pub returns-in-Err-2 : goal.returns-in-Err-2
returns-in-Err-2 c = let a = c.args in
    curve_refused _ (rw (← c.in-Err.ensures, sym c.is_empty.ensures ∙ c.if-is_empty.false) at
    (point_judges a.kept (buckets_of a.counts.now a.thresholds.now)))
