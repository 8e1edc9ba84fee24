-- What is known once a test on the record, the tables or a bucket was passed, and the other way round. Each test is a chain of `||`: `neither`
-- takes it apart link by link, and a link that is false is a bound. Assumes nothing.
use Prim.Native.Nat.{ℕ, ◌*◌, ◌^◌, ◌≤◌, ◌<◌}
use mathlib.Core.Path.{◌≡◌}
use mathlib.Core.Bool.{false, ◌||◌}
use native.Mathlib.Nat.{mul-le-mul_left, le_trans}
use native.Mathlib.Omega.{arith}
use lib.ListN.{length}
use lib.Dec.{eqb, ltb}
use borrow.Author.Tests.{eqb-false, ltb-false, ne_eqb, le-ltb}
use Rattle.rules.specs.declared.Settings.{Settings}
use Rattle.rules.specs.declared.Record.{Record}
use Rattle.rules.specs.Settings.{outside, out_of_range, Histogram, Tables, needed, full_rate, most_references, most_buckets, most_limit, most_width, one_reference}
use Rattle.rules.specs.Reference.{rescaled}
use Rattle.rules.specs.Conditions.{buckets_too_short, too_short, torn_record, torn_bucket}
use Rattle.rules.proofs.Tests.{neither}
use Rattle.rules.proofs.Buckets.{Long, rescaled_le}

-- settings in their ranges
pub record InRange (s : Settings) : Type 0 where
  pub limit_low : s.limit ≡ 0 → ⊥
  pub limit_high : s.limit ≤ most_limit
  pub start_low : s.start ≡ 0 → ⊥
  pub start_high : s.start ≤ full_rate
  pub width_low : s.width ≡ 0 → ⊥
  pub width_high : s.width ≤ most_width
  pub buckets_low : s.buckets ≡ 0 → ⊥
  pub buckets_high : s.buckets ≤ most_buckets
  pub kind_high : s.hashing.kind ≤ 1

inside : (most x : ℕ) → outside most x ≡ false → (x ≡ 0 → ⊥) × (x ≤ most)
inside most x e = let p = neither {a = eqb x 0} e in (eqb-false x 0 p.0, ltb-false most x p.1)

pub in_range : (s : Settings) → out_of_range s ≡ false → InRange s
unfolding out_of_range
in_range s e =
    let p5 = neither e in
    let p4 = neither p5.0 in
    let p3 = neither p4.0 in
    let p2 = neither p3.0 in
    let limit = inside most_limit s.limit p2.0 in
    let start = inside full_rate s.start p2.1 in
    let width = inside most_width s.width p3.1 in
    let buckets = inside most_buckets s.buckets p4.1 in
    record {
      limit_low = limit.0;
      limit_high = limit.1;
      start_low = start.0;
      start_high = start.1;
      width_low = width.0;
      width_high = width.1;
      buckets_low = buckets.0;
      buckets_high = buckets.1;
      kind_high = ltb-false 1 s.hashing.kind p5.1;
    }

-- a record that is not torn
pub record Whole (kept : Record) : Type 0 where
  pub settings_whole : out_of_range kept.settings ≡ false
  pub range : InRange kept.settings
  pub live_high : kept.live ≤ kept.settings.limit
  pub threshold_high : kept.threshold ≤ kept.settings.start
  pub sampled_high : kept.numbers.sampled ≤ kept.numbers.references
  pub references_high : kept.numbers.references ≤ most_references

pub whole : (kept : Record) → torn_record kept ≡ false → Whole kept
unfolding torn_record
whole kept e =
    let p = neither e in
    let p4 = neither p.1 in
    let p3 = neither p4.0 in
    let p2 = neither p3.0 in
    record {
      settings_whole = p.0;
      range = in_range kept.settings p.0;
      live_high = ltb-false kept.settings.limit kept.live p2.0;
      threshold_high = ltb-false kept.settings.start kept.threshold p2.1;
      sampled_high = ltb-false kept.numbers.references kept.numbers.sampled p3.1;
      references_high = ltb-false most_references kept.numbers.references p4.1;
    }

-- and the other way round
pub untorn : (kept : Record) → out_of_range kept.settings ≡ false → kept.live ≤ kept.settings.limit → kept.threshold ≤ kept.settings.start
    → kept.numbers.sampled ≤ kept.numbers.references → kept.numbers.references ≤ most_references → torn_record kept ≡ false
unfolding torn_record
untorn kept e l t n r = rw (e, le-ltb _ _ l, le-ltb _ _ t, le-ltb _ _ n, le-ltb _ _ r)

-- bucket tables that are long enough
pub both_long : (n : ℕ) (g : Histogram) → ltb (length g.counts) n || ltb (length g.thresholds) n ≡ false → Long n g
both_long n g e = let p = neither e in record {
  counts_long = ltb-false (length g.counts) n p.0;
  thresholds_long = ltb-false (length g.thresholds) n p.1;
}

pub buckets_long : (s : Settings) (g : Histogram) → buckets_too_short s g ≡ false → Long (needed s.buckets) g
buckets_long s g e = both_long (needed s.buckets) g e

-- lent tables that are long enough
pub record AllLong (s : Settings) (t : Tables) : Type 0 where
  pub locations_long : s.limit ≤ length t.locations
  pub buckets : Long (needed s.buckets) t.histogram

pub all_long : (s : Settings) (t : Tables) → too_short s t ≡ false → AllLong s t
all_long s t e = let p = neither e in record {
  locations_long = ltb-false (length t.locations) s.limit p.0;
  buckets = buckets_long s t.histogram p.1;
}

pub none_short : (s : Settings) (t : Tables) → AllLong s t → too_short s t ≡ false
none_short s t a = rw (le-ltb _ _ a.locations_long, le-ltb _ _ a.buckets.counts_long, le-ltb _ _ a.buckets.thresholds_long)

pub buckets_none_short : (s : Settings) (t : Tables) → too_short s t ≡ false → buckets_too_short s t.histogram ≡ false
buckets_none_short s t e = let l = (all_long s t e).buckets in rw (le-ltb _ _ l.counts_long, le-ltb _ _ l.thresholds_long)

-- a bucket that is not torn
pub record Sound (references t count threshold : ℕ) : Type 0 where
  pub some : threshold ≡ 0 → ⊥
  pub above : t ≤ threshold
  pub under : threshold ≤ full_rate
  pub counted : count ≤ one_reference * references

pub sound : (references t count threshold : ℕ) → torn_bucket references t count threshold ≡ false → Sound references t count threshold
unfolding torn_bucket
sound references t count threshold e =
    let p3 = neither e in
    let p2 = neither p3.0 in
    let p1 = neither p2.0 in
    record {
      some = eqb-false threshold 0 p1.0;
      above = ltb-false threshold t p1.1;
      under = ltb-false full_rate threshold p2.1;
      counted = ltb-false (one_reference * references) count p3.1;
    }

pub not_torn : (references t count threshold : ℕ) → Sound references t count threshold → torn_bucket references t count threshold ≡ false
unfolding torn_bucket
not_torn references t count threshold s = rw (ne_eqb threshold 0 s.some, le-ltb _ _ s.above, le-ltb _ _ s.under, le-ltb _ _ s.counted)

module _ {references t count threshold : ℕ} (s : Sound references t count threshold) where
  -- its count times the threshold fits 64 bits
  pub product_fits : references < 2 ^ 32 → count * t < 2 ^ 64
  product_fits h = omega (arith, mul-le-mul_left count (le_trans s.above s.under), s.counted)

  -- and rescaling never adds to it
  pub sound_rescaled : rescaled t count threshold ≤ count
  sound_rescaled = rescaled_le t count threshold s.above
