-- One reference recorded, or nothing changed: each test is one of the rule's. Past them the bucket is not torn (`known`), so that no product or
-- sum overflows.
use mathlib.Core.Path.{sym, ◌∙◌}
use native.Mathlib.Omega.{arith}
use borrow.Author.Tests.{le-leb, lt-leb}
use Rattle.buckets.specs.Buckets.{unrecordable, recorded_of}
use Rattle.rules.proofs.Bounds.{sound, product_fits, sound_rescaled}
use Rattle.buckets.proofs.record_in.Goals as goal

pub returns-then-counts-at : goal.returns-then-counts-at
unfolding recorded_of unrecordable
returns-then-counts-at c = rw (le-leb _ _ c.if-counts-at.true)

pub returns-then-thresholds-at : goal.returns-then-thresholds-at
unfolding recorded_of unrecordable
returns-then-thresholds-at c = rw (lt-leb _ _ c.if-counts-at.false, le-leb _ _ c.if-thresholds-at.true)

pub returns-then-torn : goal.returns-then-torn
unfolding recorded_of unrecordable
returns-then-torn c =
    rw (
      lt-leb _ _ c.if-counts-at.false,
      lt-leb _ _ c.if-thresholds-at.false,
      ← c.torn.ensures,
      c.if-torn.true,
    )

pub overflow_mul-counts : goal.overflow_mul-counts
overflow_mul-counts c =
    let known = sound _ _ _ _ (sym c.torn.ensures ∙ c.if-torn.false) in
    record { fits = product_fits known c.ranges.references.fits }

pub nonzero_div-counts : goal.nonzero_div-counts
nonzero_div-counts c =
    let known = sound _ _ _ _ (sym c.torn.ensures ∙ c.if-torn.false) in
    omega (arith, known.some)

pub overflow_add-counts : goal.overflow_add-counts
overflow_add-counts c =
    let known = sound _ _ _ _ (sym c.torn.ensures ∙ c.if-torn.false) in
    omega (arith, sound_rescaled known, known.counted, c.ranges.references.fits)

pub overflow_cast-thresholds : goal.overflow_cast-thresholds
overflow_cast-thresholds c =
    let known = sound _ _ _ _ (sym c.torn.ensures ∙ c.if-torn.false) in
    omega (arith, known.above, known.under)

pub returns : goal.returns
unfolding recorded_of unrecordable
returns c =
    rw (
      lt-leb _ _ c.if-counts-at.false,
      lt-leb _ _ c.if-thresholds-at.false,
      ← c.torn.ensures,
      c.if-torn.false,
    )
