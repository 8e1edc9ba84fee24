-- Document 01, "Points of the curve". Assumes nothing.
use Rattle.std.specs.Prelude.{ℕ, zero, suc, ◌+◌, ◌-◌, false}
use Rattle.std.specs.Float.Ieee.{round}
use Rattle.std.specs.Float.{binary64}
use Rattle.rules.specs.declared.Point.{Point}
use Rattle.rules.specs.declared.PlotPoint.{PlotPoint}
use Rattle.rules.specs.Settings.{Histogram, needed}
use Rattle.rules.specs.Reference.{Profile, rescaled, count_at, threshold_at}

-- the counts of the buckets below n, together, each as it is reported under t
unfoldable pub sum_to : (t n : ℕ) → Histogram → ℕ
sum_to t zero g = 0
sum_to t (suc n) g = sum_to t n g + rescaled t (count_at n g) (threshold_at n g)

-- the raw counts of the buckets below n, together
unfoldable pub raw_to : (n : ℕ) → Histogram → ℕ
raw_to zero g = 0
raw_to (suc n) g = raw_to n g + count_at n g

-- hits at point k: the sum of buckets 0 to k - 1
abbrev pub hits_at : (t k : ℕ) → Histogram → ℕ
hits_at t k g = sum_to t k g

-- the total: the sum over all buckets, far and first
abbrev pub total_of : (t buckets : ℕ) → Histogram → ℕ
total_of t buckets g = sum_to t (needed buckets) g

-- point k
abbrev pub curve_point : Profile → (t k : ℕ) → Histogram → Point
curve_point f t k g = record {
  size = f.size k;
  hits = hits_at t k g;
  misses = total_of t f.buckets g - hits_at t k g;
  total = total_of t f.buckets g;
}

-- a point as a pair of doubles: the size, and misses divided by total, rounded once
abbrev pub plot_point : Point → PlotPoint
plot_point p = record { size = round binary64 false p.size 1; ratio = round binary64 false p.misses p.total }
