-- The bucket is that of the scaled distance, by the promises of `scaled_distance` and `bucket_of`. It is recorded in before anything else is
-- written: where that is refused nothing has changed, and else the location moves to the front.
use Prim.Native.Nat.{ℕ, max}
use mathlib.Core.Path.{◌≡◌, ap, ◌∙◌}
use native.Mathlib.Omega.{arith}
use Rattle.std.proofs.lemmas.Result.{err_from_is_err_and}
use Rattle.rules.specs.declared.Record.{Record}
use Rattle.rules.specs.Reference.{widths, scaled_distance}
use Rattle.rules.specs.Layout.{profile_of}
use Rattle.rules.proofs.Bounds.{Whole}
use Rattle.live.proofs.Laws.{found_below}
use Rattle.refer.proofs.OneReference.{bounds, countable, threshold_some, nothing_recorded, again_done}
use Rattle.refer.proofs.again_at.Goals as goal

-- the bucket is that of the place's scaled distance
bucket_is : (kept : Record) (place : ℕ) {scaled bucket : ℕ} → Whole kept → scaled ≡ scaled_distance kept.threshold place
    → bucket ≡ (widths (max 1 kept.settings.width) kept.settings.buckets).bucket_of scaled
    → bucket ≡ (profile_of kept.settings).bucket_of (scaled_distance kept.threshold place)
bucket_is kept place {scaled = scaled} whole p q =
    let set = kept.settings in
    let some : max 1 set.width ≡ set.width = omega (arith, whole.range.width_low) in
    q ∙ ap (λ w. (widths w set.buckets).bucket_of scaled) some ∙ ap (profile_of set).bucket_of p

pub scaled_distance-distance-requires : goal.scaled_distance-distance-requires
scaled_distance-distance-requires c =
    let a = c.args in
    let b = bounds a.location a.kept.now a.locations.now a.counts.now a.thresholds.now c.requires.0 in
    let found = found_below a.location a.kept.now.live a.locations.now a.place c.requires.1 in (
      omega (arith, found.0, b.live_high, b.range.limit_high),
      threshold_some a.location a.kept.now a.locations.now a.counts.now a.thresholds.now c.requires.0,
    )

pub overflow_cast-references : goal.overflow_cast-references
overflow_cast-references c =
    let a = c.args in
    let b = bounds a.location a.kept.now a.locations.now a.counts.now a.thresholds.now c.requires.0 in
    omega (arith, b.references_high)

pub count-requires : goal.count-requires
count-requires c =
    let a = c.args in
    countable a.location a.kept.now a.locations.now a.counts.now a.thresholds.now c.requires.0

pub returns : goal.returns
returns c =
    let a = c.args in
    let b = bounds a.location a.kept.now a.locations.now a.counts.now a.thresholds.now c.requires.0 in
    rw c.count.ensures (again_done _ _ _ _ _ c.requires.0 _ c.requires.1
    _ (bucket_is a.kept.now a.place b c.scaled_distance-distance.ensures c.bucket_of-bucket.ensures)
    _ _ _ c.in_ok-record_in.ensures
    c.to_front.ensures)

pub returns-in_err-record_in : goal.returns-in_err-record_in
returns-in_err-record_in c =
    let a = c.args in
    let b = bounds a.location a.kept.now a.locations.now a.counts.now a.thresholds.now c.requires.0 in
    let passed = err_from_is_err_and c.from_residual.result c.from_residual.ensures.1 in
    rw (passed.1, passed.2) (nothing_recorded _ _ _ _ _ c.requires.0 _ c.requires.1
    _ (bucket_is a.kept.now a.place b c.scaled_distance-distance.ensures c.bucket_of-bucket.ensures)
    _ _ c.in_err-record_in.ensures)
