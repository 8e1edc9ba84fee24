use Prim.Native.Nat.{◌+◌}
use mathlib.Core.Path.{◌≡◌, refl, sym, ◌∙◌}
use mathlib.Core.List.{[], ◌∷◌, ◌++◌}
use lib.ListN.{length}
use native.Mathlib.Omega.{arith}
use Rattle.std.proofs.lemmas.List.{length_push}
use Rattle.rules.proofs.Bounds.{sound, product_fits, sound_rescaled}
use Rattle.buckets.proofs.Laws.{turn, torn_here, torn_over, so_far_more}
use Rattle.buckets.proofs.add_up.Goals as goal

pub returns-then-torn : goal.returns-then-torn
returns-then-torn c =
    let a = c.args in
    let here = turn a.counts.now a.thresholds.now a.from a.to _ _ _ c.next.new.self _ _ (cc) (cc) c.loop-count.yielded_by c.in-Some.is c.next.ensures.steps in
    (refl, torn_here _ _ _ _ _ here.below (rw (← here.count_is, ← here.own_is) (sym c.torn.ensures ∙ c.if-torn.true)))

pub overflow_add-raw : goal.overflow_add-raw
overflow_add-raw c =
    let known = sound _ _ _ _ (sym c.torn.ensures ∙ c.if-torn.false) in
    omega (arith, known.counted, c.loop-count.invariant.raw_high, c.ranges.references.fits)

pub returns-then-most-raw : goal.returns-then-most-raw
returns-then-most-raw c =
    let a = c.args in
    let here = turn a.counts.now a.thresholds.now a.from a.to _ _ _ c.next.new.self _ _ (cc) (cc) c.loop-count.yielded_by c.in-Some.is c.next.ensures.steps in
    (refl, torn_over _ _ _ _ _ _ here.below c.loop-count.invariant.raw_is (omega arith))

pub overflow_mul-sum : goal.overflow_mul-sum
overflow_mul-sum c =
    let known = sound _ _ _ _ (sym c.torn.ensures ∙ c.if-torn.false) in
    record { fits = product_fits known c.ranges.references.fits }

pub nonzero_div-sum : goal.nonzero_div-sum
nonzero_div-sum c =
    let known = sound _ _ _ _ (sym c.torn.ensures ∙ c.if-torn.false) in
    omega (arith, known.some)

pub overflow_add-sum : goal.overflow_add-sum
overflow_add-sum c =
    let known = sound _ _ _ _ (sym c.torn.ensures ∙ c.if-torn.false) in
    omega (
      arith,
      sound_rescaled known,
      known.counted,
      c.loop-count.invariant.raw_high,
      c.loop-count.invariant.sum_high,
      c.ranges.references.fits,
    )

pub loop-count-preserved : goal.loop-count-preserved
loop-count-preserved c =
    let a = c.args in
    let here = turn a.counts.now a.thresholds.now a.from a.to _ _ _ c.next.new.self _ _ (cc) (cc) c.loop-count.yielded_by c.in-Some.is c.next.ensures.steps in
    let more : a.from + length (c.loop-count.yielded ++ ((c.in-Some.field-0-0, c.in-Some.field-0-1) ∷ [])) ≡ a.from + length c.loop-count.yielded + 1 =
    omega (arith, length_push c.loop-count.yielded (c.in-Some.field-0-0, c.in-Some.field-0-1)) in
    rw (more, here.count_is, here.own_is)
    (so_far_more _ _ _ _ _ _ c.loop-count.invariant (rw (← here.count_is, ← here.own_is) (sym c.torn.ensures ∙ c.if-torn.false)) (omega (arith, here.count_is)))
