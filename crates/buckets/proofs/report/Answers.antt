-- The report: the sums to the point, and on from there. What is torn in either part is torn in the whole.
use native.Mathlib.Omega.{arith}
use Rattle.std.proofs.lemmas.Result.{err_from_is_err_and}
use Rattle.rules.specs.Layout.{buckets_of}
use Rattle.rules.proofs.Bounds.{both_long}
use Rattle.buckets.proofs.Laws.{torn_more, so_far_none, report_short, report_torn, report_whole}
use Rattle.buckets.proofs.report.Goals as goal

pub returns-then-counts-needed : goal.returns-then-counts-needed
returns-then-counts-needed c = report_short _ _ _ _ _ c.if-counts-needed.true

pub add_up-requires : goal.add_up-requires
add_up-requires c =
    let a = c.args in
    let long = both_long a.needed (buckets_of a.counts.now a.thresholds.now) c.if-counts-needed.false in
    (omega arith, omega (arith, long.counts_long), omega (arith, long.thresholds_long), so_far_none _ _ _)

pub returns-in_err-hits : goal.returns-in_err-hits
returns-in_err-hits c =
    let passed = err_from_is_err_and c.from_residual.result c.from_residual.ensures.1 in
    rw (passed.1, passed.2, c.in_err-hits.ensures.0)
    (report_torn _ _ _ _ _ c.if-counts-needed.false (torn_more _ _ _ _ _ (omega arith) c.in_err-hits.ensures.1))

pub returns-in_err-total : goal.returns-in_err-total
returns-in_err-total c =
    let passed = err_from_is_err_and c.from_residual-in_err-total.result c.from_residual-in_err-total.ensures.1 in
    rw (passed.1, passed.2, c.in_err-total.ensures.0) (report_torn _ _ _ _ _ c.if-counts-needed.false c.in_err-total.ensures.1)

pub returns : goal.returns
returns c = report_whole _ _ _ _ _ c.if-counts-needed.false c.min-middle.ensures c.in_ok-hits.ensures c.in_ok-total.ensures
