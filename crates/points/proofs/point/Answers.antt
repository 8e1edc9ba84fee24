-- Each test that is passed shows one of the definition's conditions not to hold; the first that stops the call is the refusal. With all four
-- passed, the report's sums decide: torn in the report, or the point that `point_of` makes of them.
use native.Mathlib.Omega.{arith}
use mathlib.Core.Path.{sym, ◌∙◌}
use borrow.Author.Tests.{lt-ltb}
use Rattle.std.proofs.lemmas.Result.{err_from_is_err_and}
use Rattle.rules.proofs.Bounds.{whole}
use Rattle.rules.proofs.Calls.{point_torn, point_short, point_stale, point_number}
use Rattle.points.proofs.CurvePoints.{from_refused, from_sums_lem, sums_ordered}
use Rattle.points.proofs.point.Goals as goal

pub returns-then-torn : goal.returns-then-torn
returns-then-torn c = sym (point_torn _ _ _ _ (sym c.torn.ensures ∙ c.if-torn.true))

pub returns-then-buckets_too_short : goal.returns-then-buckets_too_short
returns-then-buckets_too_short c =
    sym (point_short _ _ _ _ (sym c.torn.ensures ∙ c.if-torn.false) (sym c.buckets_too_short.ensures ∙ c.if-buckets_too_short.true))

pub returns-then-is_stale : goal.returns-then-is_stale
returns-then-is_stale c =
    sym (point_stale _ _ _ _ (sym c.torn.ensures ∙ c.if-torn.false) (sym c.buckets_too_short.ensures ∙ c.if-buckets_too_short.false)
    (sym c.is_stale.ensures ∙ c.if-is_stale.true))

pub returns-then-s-number : goal.returns-then-s-number
returns-then-s-number c =
    sym (point_number _ _ _ _ (sym c.torn.ensures ∙ c.if-torn.false) (sym c.buckets_too_short.ensures ∙ c.if-buckets_too_short.false)
    (sym c.is_stale.ensures ∙ c.if-is_stale.false) (lt-ltb _ _ c.if-s-number.true))

pub overflow_cast-references : goal.overflow_cast-references
overflow_cast-references c = omega (arith, (whole c.args.kept (sym c.torn.ensures ∙ c.if-torn.false)).references_high)

pub point_of-requires : goal.point_of-requires
point_of-requires c =
    let not_torn = sym c.torn.ensures ∙ c.if-torn.false in
    let in_bounds = whole c.args.kept not_torn in (
      omega (arith, in_bounds.range.buckets_high),
      in_bounds.range.width_high,
      sums_ordered _ _ _ _ not_torn (sym c.buckets_too_short.ensures ∙ c.if-buckets_too_short.false)
          (sym c.is_stale.ensures ∙ c.if-is_stale.false) c.if-s-number.false _ c.in_ok-sums.ensures,
    )

pub returns-in_err-sums : goal.returns-in_err-sums
returns-in_err-sums c =
    let passed = err_from_is_err_and c.from_residual.result c.from_residual.ensures.1 in
    rw (passed.1, passed.2)
    (from_refused _ _ _ _ (sym c.torn.ensures ∙ c.if-torn.false) (sym c.buckets_too_short.ensures ∙ c.if-buckets_too_short.false)
    (sym c.is_stale.ensures ∙ c.if-is_stale.false) c.if-s-number.false c.in_err-sums.ensures)

pub returns : goal.returns
returns c =
    c.point_of.ensures
    ∙ from_sums_lem _ _ _ _ (sym c.torn.ensures ∙ c.if-torn.false) (sym c.buckets_too_short.ensures ∙ c.if-buckets_too_short.false)
    (sym c.is_stale.ensures ∙ c.if-is_stale.false) c.if-s-number.false _ c.in_ok-sums.ensures
