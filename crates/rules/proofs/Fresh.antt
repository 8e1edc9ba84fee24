-- What a fresh start leaves in the bucket tables. Each is one value, repeated over the front of what was lent, so that every bucket reads as
-- that value; the raw counts' sum is 0 by induction. Assumes nothing.
use Prim.Native.Nat.{ℕ, zero, suc, ◌≤◌, ◌<◌}
use mathlib.Core.Path.{◌≡◌, refl, ◌∙◌}
use mathlib.Core.List.{List}
use native.Mathlib.Omega.{arith}
use lib.ListN.{length, get_or, replicate, length-replicate, get_or-replicate, get_or-append}
use Rattle.rules.specs.declared.Settings.{Settings}
use Rattle.rules.specs.Lists.{over}
use Rattle.rules.specs.Settings.{Histogram, Tables, needed, full_rate}
use Rattle.rules.specs.Reference.{count_at, threshold_at}
use Rattle.rules.specs.Curve.{raw_to}
use Rattle.rules.specs.Layout.{profile_of, fresh_tables}
use Rattle.rules.proofs.Tables.{over_length}
use Rattle.rules.proofs.Buckets.{Long}
use Rattle.rules.proofs.FullRate.{Exact}

over_replicate : (n v : ℕ) (xs : List ℕ) (j : ℕ) → j < n → get_or (over (replicate n v) xs) j 0 ≡ v
over_replicate n v xs j h = get_or-append (replicate n v) _ 0 j (rw length-replicate h) ∙ get_or-replicate n j v 0 h

long_over : (n v : ℕ) (xs : List ℕ) → n ≤ length xs → n ≤ length (over (replicate n v) xs)
long_over n v xs h = rw (over_length (replicate n v) xs (rw length-replicate h)) h

module _ (s : Settings) (t : Tables) (l : Long (needed s.buckets) t.histogram) where
  abbrev g : Histogram
  g = (fresh_tables s t).histogram

  pub fresh_long : Long (needed s.buckets) g
  fresh_long = record {
    counts_long = long_over (needed s.buckets) 0 t.histogram.counts l.counts_long;
    thresholds_long = long_over (needed s.buckets) s.start t.histogram.thresholds l.thresholds_long;
  }

  pub fresh_count : (j : ℕ) → j < needed s.buckets → count_at j g ≡ 0
  fresh_count j h = over_replicate (needed s.buckets) 0 t.histogram.counts j h

  pub fresh_threshold : (j : ℕ) → j < needed s.buckets → threshold_at j g ≡ s.start
  fresh_threshold j h = over_replicate (needed s.buckets) s.start t.histogram.thresholds j h

  pub fresh_raw : (n : ℕ) → n ≤ needed s.buckets → raw_to n g ≡ 0
  unfolding raw_to
  fresh_raw zero h = refl
  fresh_raw (suc n) h = omega (arith, fresh_raw n (omega arith), fresh_count n h)

  -- at full rate no reference was made yet, and none hit
  pub exact_fresh : s.start ≡ full_rate → Exact (profile_of s) (λ n. 0) 0 g
  exact_fresh p = record {
    long = fresh_long;
    flat = λ j h. fresh_threshold j h ∙ p;
    below = λ k h. fresh_raw k (omega arith);
    total = fresh_raw (needed s.buckets) (omega arith);
  }
