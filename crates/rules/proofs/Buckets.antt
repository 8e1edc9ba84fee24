-- Recording in one bucket: what the sums of a histogram become, and which buckets stay. A bucket is read back by the laws of `set`; the sums go
-- by induction on the number of buckets. Assumes nothing.
use Prim.Native.Nat.{ℕ, zero, suc, ◌+◌, ◌≤◌, ◌<◌}
use mathlib.Core.Path.{◌≡◌, refl, ap₂}
use mathlib.Core.Logic.{◌≢◌}
use native.Mathlib.Nat.{div-le_of_le-mul, mul-le-mul_left, mul_comm, le_trans, le_of_eq}
use native.Mathlib.Omega.{arith}
use lib.ListN.{length, length-set}
use lib.Seq.{get_or-set_same, get_or-set_other}
use lib.Dec.{eqb}
use borrow.Author.Tests.{eqb-true, eqb-false}
use Rattle.rules.specs.Settings.{Histogram, one_reference}
use Rattle.rules.specs.Reference.{rescaled, count_at, threshold_at, record_in}
use Rattle.rules.specs.Curve.{raw_to}
use Rattle.rules.proofs.Tests.{cases}

pub rescaled_le : (t c b : ℕ) → t ≤ b → rescaled t c b ≤ c
rescaled_le t c b l = div-le_of_le-mul b (le_trans (mul-le-mul_left c l) (le_of_eq (mul_comm c b)))

-- the two tables hold every bucket that is needed
pub record Long (n : ℕ) (g : Histogram) : Type 0 where
  pub counts_long : n ≤ length g.counts
  pub thresholds_long : n ≤ length g.thresholds

module _ (t j : ℕ) (g : Histogram) where
  pub long_record : (n : ℕ) → Long n g → Long n (record_in t j g)
  long_record n l = record {
    counts_long = omega (arith, l.counts_long, length-set g.counts j (rescaled t (count_at j g) (threshold_at j g) + one_reference));
    thresholds_long = omega (arith, l.thresholds_long, length-set g.thresholds j t);
  }

  -- buckets not recorded in stay as they were
  pub count_other : (i : ℕ) → i ≢ j → count_at i (record_in t j g) ≡ count_at i g
  count_other i d = get_or-set_other g.counts j i _ 0 d

  pub threshold_other : (i : ℕ) → i ≢ j → threshold_at i (record_in t j g) ≡ threshold_at i g
  threshold_other i d = get_or-set_other g.thresholds j i t 0 d

  pub count_recorded : j < length g.counts → count_at j (record_in t j g) ≡ rescaled t (count_at j g) (threshold_at j g) + one_reference
  count_recorded h = get_or-set_same g.counts j _ 0 h

  pub threshold_recorded : j < length g.thresholds → threshold_at j (record_in t j g) ≡ t
  threshold_recorded h = get_or-set_same g.thresholds j t 0 h

  -- the raw counts below n: only the bucket's own changes
  pub raw_before : (n : ℕ) → n ≤ j → raw_to n (record_in t j g) ≡ raw_to n g
  unfolding raw_to
  raw_before zero h = refl
  raw_before (suc n) h = ap₂ (λ a b. a + b) (raw_before n (omega arith)) (count_other n (omega arith))

  pub raw_recorded : j < length g.counts → (n : ℕ) → j < n
      → raw_to n (record_in t j g) + count_at j g ≡ raw_to n g + (rescaled t (count_at j g) (threshold_at j g) + one_reference)
  unfolding raw_to
  raw_recorded h zero b = omega arith
  raw_recorded h (suc n) b = cases (eqb n j)
      (λ e. let q : n ≡ j = eqb-true n j e in
      rw q (omega (arith, raw_before j (omega arith), count_recorded h)))
      (λ e. let o : n ≢ j = eqb-false n j e in
      omega (arith, raw_recorded h n (omega arith), count_other n o))
