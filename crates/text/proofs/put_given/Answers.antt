-- Nothing refuses the curve, so its room decides. Where it has room, the first line stands at the front, and behind it `empty`, or the points
-- and `end`.
use borrow.Author.Rules.{rules}
use native.Mathlib.Omega.{arith}
use Rattle.text.proofs.Laws.{puts_then, left_so}
use Rattle.text.proofs.Curves.{judged_as, few_buckets, curve_short, empty_curve, points_curve}
use Rattle.text.proofs.put_given.Goals as goal

pub overflow_mul-points : goal.overflow_mul-points
overflow_mul-points c = omega (arith, few_buckets c.requires)

pub overflow_add-points-2 : goal.overflow_add-points-2
overflow_add-points-2 c = omega (arith, few_buckets c.requires)

pub overflow_add-points-3 : goal.overflow_add-points-3
overflow_add-points-3 c = omega (arith, few_buckets c.requires)

pub returns-then-out-points : goal.returns-then-out-points
returns-then-out-points c = curve_short _ c.requires c.if-out-points.true

pub returns-then-empty : goal.returns-then-empty
returns-then-empty c =
    let text = puts_then c.put_first_line.ensures.puts c.put.ensures in
    empty_curve _ c.if-out-points.false (judged_as c.requires c.if-empty.true) (left_so text.adds (search rules))

pub returns : goal.returns
returns c =
    let text = puts_then c.put_first_line.ensures.puts (puts_then c.put_points.ensures.puts c.put-2.ensures) in
    points_curve _ c.if-out-points.false (judged_as c.requires c.if-empty.false) (left_so text.adds (search rules))
