-- In a run from a fresh start no bucket is torn: one reference keeps every bucket's threshold and count within bounds. By the cases of a
-- reference: the bucket recorded in gets the present threshold and at most one reference more, the others stay. Assumes nothing.
use Prim.Native.Nat.{ℕ, ◌+◌, ◌*◌, ◌≤◌, ◌<◌}
use mathlib.Core.Path.{◌≡◌}
use mathlib.Core.List.{List, ◌∷◌}
use Rattle.std.specs.Prelude.{Option, Some, None}
use native.Mathlib.Omega.{arith}
use lib.ListN.{length}
use lib.Dec.{eqb, ltb}
use borrow.Author.Tests.{ltb-true, eqb-true, eqb-false}
use Rattle.rules.specs.declared.Settings.{Settings}
use Rattle.rules.specs.Lists.{has, upto}
use Rattle.rules.specs.Settings.{Histogram, Tables, needed, one_reference}
use Rattle.rules.specs.Reference.{Sample, Profile, under, scaled_distance, rescaled, count_at, threshold_at, record_in, bucket_for, within_limit, step}
use Rattle.rules.specs.Curve.{raw_to}
use Rattle.rules.specs.Layout.{fresh_tables}
use Rattle.rules.proofs.Tests.{cases}
use Rattle.rules.proofs.Buckets.{Long, long_record, rescaled_le, count_other, threshold_other}
use Rattle.rules.proofs.Buckets.{count_recorded, threshold_recorded, raw_recorded}
use Rattle.rules.proofs.Steps.{step_skipped, step_again, step_first, within_limit_histogram}
use Rattle.rules.proofs.Fresh.{fresh_long, fresh_count, fresh_threshold, fresh_raw}

-- the first n buckets, after so many references, under the threshold t
pub record Clean (n start references t : ℕ) (g : Histogram) : Type 0 where
  pub long : Long n g
  pub at_least_one : (j : ℕ) → j < n → 0 < threshold_at j g
  pub not_below : (j : ℕ) → j < n → t ≤ threshold_at j g
  pub not_above : (j : ℕ) → j < n → threshold_at j g ≤ start
  pub count_high : (j : ℕ) → j < n → count_at j g ≤ one_reference * references
  pub raw_high : raw_to n g ≤ one_reference * references

pub clean_fresh : (s : Settings) (t : Tables) → Long (needed s.buckets) t.histogram → 0 < s.start
    → Clean (needed s.buckets) s.start 0 s.start (fresh_tables s t).histogram
clean_fresh s t l p = record {
  long = fresh_long s t l;
  at_least_one = λ j h. rw (fresh_threshold s t l j h) p;
  not_below = λ j h. rw (fresh_threshold s t l j h) (omega arith);
  not_above = λ j h. rw (fresh_threshold s t l j h) (omega arith);
  count_high = λ j h. rw (fresh_count s t l j h) (omega arith);
  raw_high = rw (fresh_raw s t l (needed s.buckets) (omega arith)) (omega arith);
}

module _ (n start references t : ℕ) (g : Histogram) (c : Clean n start references t g) where
  -- a reference that is not sampled, or a threshold that falls
  pub clean_later : (u : ℕ) → u ≤ t → Clean n start (references + 1) u g
  clean_later u l = record {
    long = c.long;
    at_least_one = c.at_least_one;
    not_below = λ j h. omega (arith, c.not_below j h);
    not_above = c.not_above;
    count_high = λ j h. omega (arith, c.count_high j h);
    raw_high = omega (arith, c.raw_high);
  }

  -- a reference recorded in bucket j
  pub clean_record : 0 < t → t ≤ start → (j : ℕ) → j < n → (u : ℕ) → u ≤ t → Clean n start (references + 1) u (record_in t j g)
  clean_record p o j b u l = record {
    long = long_record t j g n c.long;
    at_least_one = λ i h. here i (λ z. 0 < z) p (c.at_least_one i h);
    not_below = λ i h. here i (λ z. u ≤ z) l (omega (arith, c.not_below i h));
    not_above = λ i h. here i (λ z. z ≤ start) o (c.not_above i h);
    count_high = λ i h. cases (eqb i j)
        (λ e. let q : i ≡ j = eqb-true i j e in rw q (omega (arith, count_recorded t j g in_counts, less, c.count_high j b)))
        (λ e. omega (arith, count_other t j g i (eqb-false i j e), c.count_high i h));
    raw_high = omega (arith, raw_recorded t j g in_counts n b, less, c.raw_high);
  }
    where
      in_counts : j < length g.counts
      in_counts = omega (arith, c.long.counts_long)

      less : rescaled t (count_at j g) (threshold_at j g) ≤ count_at j g
      less = rescaled_le t (count_at j g) (threshold_at j g) (c.not_below j b)

      here : (i : ℕ) (B : ℕ → Type 0) → B t → B (threshold_at i g) → B (threshold_at i (record_in t j g))
      here i B own other = cases (eqb i j)
          (λ e. let q : i ≡ j = eqb-true i j e in rw (q, threshold_recorded t j g (omega (arith, c.long.thresholds_long))) own)
          (λ e. rw (threshold_other t j g i (eqb-false i j e)) other)

-- a sampled reference is recorded in a needed bucket
pub bucket_needed : (f : Profile) → ((d : ℕ) → f.bucket_of d ≤ f.buckets) → (t : ℕ) (place : Option ℕ) → bucket_for f t place < needed f.buckets
bucket_needed f far t (Some d) = omega (arith, far (scaled_distance t d))
bucket_needed f far t None = omega arith

settled_low : (hash : ℕ → ℕ) (limit t : ℕ) (l : List ℕ) (g : Histogram) → (within_limit hash limit t l g).threshold ≤ t
unfolding within_limit
settled_low hash limit t l g = cases (ltb limit (length l)) (λ o. rw o (omega arith)) (λ o. rw o (omega arith))

-- the threshold never rises
pub step_falls : (hash : ℕ → ℕ) (limit : ℕ) (f : Profile) (x : ℕ) (s : Sample) → (step hash limit f x s).left.threshold ≤ s.threshold
step_falls hash limit f x s = cases (under hash s.threshold x)
    (λ e. cases (has x s.live)
    (λ m. rw (step_again hash limit f x s e m) (omega arith))
    (λ m. rw (step_first hash limit f x s e m) (settled_low hash limit s.threshold (x ∷ s.live) _)))
    (λ e. rw (step_skipped hash limit f x s e) (omega arith))

module _ (hash : ℕ → ℕ) (limit : ℕ) (f : Profile) (far : (d : ℕ) → f.bucket_of d ≤ f.buckets) (x : ℕ) (s : Sample) where
  -- one reference keeps the buckets clean
  pub clean_step : (start references : ℕ) → s.threshold ≤ start → Clean (needed f.buckets) start references s.threshold s.histogram
      → Clean (needed f.buckets) start (references + 1) (step hash limit f x s).left.threshold (step hash limit f x s).left.histogram
  clean_step start references o c = cases (under hash s.threshold x)
      (λ e. let p : 0 < s.threshold = omega (arith, ltb-true (hash x) s.threshold e) in
      cases (has x s.live)
      (λ m. rw (step_again hash limit f x s e m)
      (clean_record (needed f.buckets) start references s.threshold s.histogram c p o _
      (bucket_needed f far s.threshold (Some (length (upto x s.live)))) s.threshold (omega arith)))
      (λ m. rw (step_first hash limit f x s e m, within_limit_histogram hash limit s.threshold (x ∷ s.live))
      (clean_record (needed f.buckets) start references s.threshold s.histogram c p o _ (bucket_needed f far s.threshold None) _
      (settled_low hash limit s.threshold (x ∷ s.live) _))))
      (λ e. rw (step_skipped hash limit f x s e)
      (clean_later (needed f.buckets) start references s.threshold s.histogram c s.threshold (omega arith)))
