-- The report's sums, by induction on the number of buckets: where no bucket is torn, none counts for more than its raw count. Assumes nothing.
use Prim.Native.Nat.{ℕ, zero, suc, ◌*◌, ◌≤◌, ◌<◌}
use mathlib.Core.Path.{◌≡◌}
use mathlib.Core.Logic.{⊎_elim}
use mathlib.Core.Bool.{false}
use native.Mathlib.Nat.{eq-or-lt_of_le}
use native.Mathlib.Omega.{arith}
use borrow.Author.Tests.{ltb-false}
use Rattle.rules.specs.Settings.{Histogram, needed, one_reference}
use Rattle.rules.specs.Reference.{count_at, threshold_at}
use Rattle.rules.specs.Curve.{sum_to, raw_to, total_of}
use Rattle.rules.specs.Conditions.{any_torn, torn_to, torn_report}
use Rattle.rules.proofs.Tests.{neither}
use Rattle.rules.proofs.Bounds.{sound, sound_rescaled}

-- the hits at a point are at most those at a later one
pub sum_rises : (t : ℕ) (g : Histogram) (i n : ℕ) → i ≤ n → sum_to t i g ≤ sum_to t n g
unfolding sum_to
sum_rises t g i zero h = let e : i ≡ 0 = omega arith in rw e (omega arith)
sum_rises t g i (suc n) h = ⊎_elim
    (λ (e : i ≡ suc n). rw e (omega arith))
    (λ (l : i < suc n). omega (arith, sum_rises t g i n (omega arith))) (eq-or-lt_of_le h)

module _ (references t : ℕ) (g : Histogram) where
  -- where no bucket is torn, they are at most the raw counts
  pub sum_raw : (n : ℕ) → any_torn references t n g ≡ false → sum_to t n g ≤ raw_to n g
  unfolding sum_to raw_to any_torn
  sum_raw zero e = omega arith
  sum_raw (suc n) e =
      let p = neither {a = any_torn references t n g} e in
      omega (arith, sum_raw n p.0, sound_rescaled (sound references t (count_at n g) (threshold_at n g) p.1))

  pub total_high : (buckets : ℕ) → torn_report references t buckets g ≡ false → total_of t buckets g ≤ one_reference * references
  unfolding torn_to
  total_high buckets e =
      let p = neither {a = any_torn references t (needed buckets) g} e in
      omega (arith, sum_raw (needed buckets) p.0, ltb-false (one_reference * references) (raw_to (needed buckets) g) p.1)
