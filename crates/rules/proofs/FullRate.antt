-- Demand 2 at full rate over one reference: the histogram stays the least-recently-used caches', for any profile whose buckets are cut where its
-- point sizes say. Within the limit the threshold is still `full_rate` and the live list the whole recency list. So no count is rescaled, the
-- distance is the true one, and its bucket lies below point k just where the cache of that point's size hits. Assumes nothing.
use Prim.Native.Nat.{ℕ, zero, suc, ◌+◌, ◌*◌, ◌/◌, ◌^◌, ◌≤◌, ◌<◌}
use mathlib.Core.Path.{◌≡◌, refl, sym, ap, ap₂, ◌∙◌}
use mathlib.Core.Bool.{Bool, true}
use mathlib.Core.List.{List, ◌∷◌}
use Rattle.std.specs.Prelude.{Some}
use native.Mathlib.Nat.{mul-div_cancel, div-lt_iff_lt-mul, mul-le-mul_left}
use native.Mathlib.Omega.{arith}
use lib.ListN.{length}
use lib.Dec.{eqb, ltb, leb, lit<}
use borrow.Author.Tests.{lt-ltb, le-ltb, ltb-true, ltb-false, eqb-true, eqb-false, leb-true, leb-false}
use Rattle.rules.specs.declared.Settings.{Settings}
use Rattle.rules.specs.Lists.{keep, has, upto}
use Rattle.rules.specs.Settings.{Histogram, needed, full_rate, one_reference}
use Rattle.rules.specs.Reference.{Sample, Profile, widths, under, scaled_distance, rescaled, count_at, threshold_at, record_in, bucket_for, step}
use Rattle.rules.specs.Curve.{sum_to, raw_to}
use Rattle.rules.specs.Layout.{profile_of}
use Rattle.rules.specs.History.{recency, different, Largest}
use Rattle.rules.specs.Cache.{cached, one_if, hits}
use Rattle.rules.proofs.Tests.{cases}
use Rattle.rules.proofs.Lists.{keep_all}
use Rattle.rules.proofs.History.{has_recency, upto_recency}
use Rattle.rules.proofs.Cache.{hit_is}
use Rattle.rules.proofs.Buckets.{Long, long_record, raw_before, raw_recorded, threshold_other, threshold_recorded}
use Rattle.rules.proofs.Bounds.{InRange}
use Rattle.rules.proofs.Steps.{Tracked, step_again, step_first, within_limit_histogram}

-- a profile whose buckets are cut at the sizes of its points
pub record Cut (f : Profile) : Type 0 where
  pub far : (d : ℕ) → f.bucket_of d ≤ f.buckets
  pub cut : (d k : ℕ) → k ≤ f.buckets → ltb (f.bucket_of d) k ≡ ltb d (f.size k)

-- fixed widths are one
pub widths_cut : (width buckets : ℕ) → 0 < width → Cut (widths width buckets)
widths_cut width buckets pos = record {
  far = λ d. cases (leb buckets (d / width)) (λ e. rw e (omega arith)) (λ e. rw e (omega (arith, leb-false buckets (d / width) e)));
  cut = λ d k l. cases (leb buckets (d / width))
      (λ e. rw (e, le-ltb buckets k l) (sym (le-ltb d (k * width) (not_below d k (omega (arith, leb-true buckets (d / width) e))))))
      (λ e. rw e (same d k));
}
  where
    not_below : (d k : ℕ) → k ≤ d / width → k * width ≤ d
    not_below d k h = cases (ltb d (k * width))
        (λ e. absurd (let q : d / width < k = (div-lt_iff_lt-mul pos).1 (ltb-true d (k * width) e) in omega arith))
        (λ e. ltb-false d (k * width) e)

    same : (d k : ℕ) → ltb (d / width) k ≡ ltb d (k * width)
    same d k = cases (ltb (d / width) k)
        (λ e. rw e (sym (lt-ltb d (k * width) ((div-lt_iff_lt-mul pos).0 (ltb-true (d / width) k e)))))
        (λ e. rw e (sym (le-ltb d (k * width) (not_below d k (ltb-false (d / width) k e)))))

-- a record's own profile is one
pub profile_cut : (s : Settings) → InRange s → Cut (profile_of s)
profile_cut s r = widths_cut s.width s.buckets (omega (arith, r.width_low))

-- and a double holds each of its sizes
pub size_fits : (s : Settings) → InRange s → (k : ℕ) → k ≤ s.buckets → (profile_of s).size k < 2 ^ 53
size_fits s r k l = omega (arith, mul-le-mul_left k r.width_high, r.buckets_high)

-- what a histogram holds at full rate: of `references` references, `hit n` found their block in a cache of n blocks
pub record Exact (f : Profile) (hit : ℕ → ℕ) (references : ℕ) (g : Histogram) : Type 0 where
  pub long : Long (needed f.buckets) g
  pub flat : (j : ℕ) → j < needed f.buckets → threshold_at j g ≡ full_rate
  pub below : (k : ℕ) → k ≤ f.buckets → raw_to k g ≡ one_reference * hit (f.size k)
  pub total : raw_to (needed f.buckets) g ≡ one_reference * references

-- a report under fullRate then sums the raw counts
pub exact_report : (f : Profile) (hit : ℕ → ℕ) (m : ℕ) (g : Histogram) → Exact f hit m g → (n : ℕ) → n ≤ needed f.buckets
    → sum_to full_rate n g ≡ raw_to n g
unfolding sum_to raw_to
exact_report f hit m g e zero l = refl
exact_report f hit m g e (suc n) l =
    ap₂ (λ a b. a + b) (exact_report f hit m g e n (omega arith))
    (ap (rescaled full_rate (count_at n g)) (e.flat n l) ∙ mul-div_cancel (count_at n g) {n = full_rate} (lit< tt))

module _ (f : Profile) (hit : ℕ → ℕ) (m : ℕ) (g : Histogram) (e : Exact f hit m g) (j : ℕ) (b : j < needed f.buckets) where
  raw_more : (n : ℕ) → raw_to n (record_in full_rate j g) ≡ one_reference * one_if (ltb j n) + raw_to n g
  raw_more n =
      let c : j < length g.counts = omega (arith, e.long.counts_long) in
      let q : rescaled full_rate (count_at j g) (threshold_at j g) ≡ count_at j g =
      ap (rescaled full_rate (count_at j g)) (e.flat j b) ∙ mul-div_cancel (count_at j g) {n = full_rate} (lit< tt) in
      cases (ltb j n)
      (λ l. rw l (omega (arith, raw_recorded full_rate j g c n (ltb-true j n l))))
      (λ l. rw l (omega (arith, raw_before full_rate j g n (ltb-false j n l))))

  -- one more reference, into bucket j: the buckets below k are where the caches of size k hit
  pub exact_record : (now : ℕ → Bool) → ((k : ℕ) → k ≤ f.buckets → now (f.size k) ≡ ltb j k)
      → Exact f (λ n. one_if (now n) + hit n) (suc m) (record_in full_rate j g)
  exact_record now q = record {
    long = long_record full_rate j g (needed f.buckets) e.long;
    flat = λ i l. cases (eqb i j)
        (λ d. let s : i ≡ j = eqb-true i j d in rw s (threshold_recorded full_rate j g (omega (arith, e.long.thresholds_long))))
        (λ d. threshold_other full_rate j g i (eqb-false i j d) ∙ e.flat i l);
    below = λ k l. rw (q k l) (omega (arith, raw_more k, e.below k l));
    total = omega (arith, raw_more (needed f.buckets), ap (λ z. one_reference * one_if z) (lt-ltb j (needed f.buckets) b), e.total);
  }

module _ (hash : ℕ → ℕ) (all : (y : ℕ) → hash y < full_rate) where
  pub under_all : (y : ℕ) → under hash full_rate y ≡ true
  under_all y = lt-ltb (hash y) full_rate (all y)

  pub different_all : (past : List ℕ) → different (under hash full_rate) past ≡ length (recency past)
  different_all past = ap length (keep_all (under hash full_rate) under_all (recency past))

  -- with the limit not exceeded the threshold is still fullRate
  pub threshold_stays : (limit : ℕ) (past : List ℕ) (t : ℕ) → Largest hash limit full_rate past t → length (recency past) ≤ limit → t ≡ full_rate
  threshold_stays limit past t g n = cases (ltb t full_rate)
      (λ e. absurd (omega (arith, g.none_above full_rate (ltb-true t full_rate e) (omega arith), different_all past)))
      (λ e. omega (arith, ltb-false t full_rate e, g.at_most))

  module _ (limit : ℕ) (f : Profile) (c : Cut f) (x : ℕ) (past : List ℕ) (s : Sample) (tracked : Tracked hash limit full_rate past s)
      (n : length (recency past) ≤ limit) where
    still : s.threshold ≡ full_rate
    still = threshold_stays limit past s.threshold tracked.threshold_is n

    live_all : s.live ≡ recency past
    live_all = tracked.live_is ∙ ap (λ t. keep (under hash t) (recency past)) still ∙ keep_all (under hash full_rate) under_all (recency past)

    sampled_here : under hash s.threshold x ≡ true
    sampled_here = ap (λ t. under hash t x) still ∙ under_all x

    -- one reference keeps the histogram the caches'
    pub exact_step : (m : ℕ) → Exact f (λ n. hits n past) m s.histogram
        → Exact f (λ n. hits n (x ∷ past)) (suc m) (step hash limit f x s).left.histogram
    exact_step m e = cases (has x past)
        (λ w.
        let d : ℕ = length (recency (upto x past)) in
        let q : length (upto x s.live) ≡ d = ap (λ l. length (upto x l)) live_all ∙ ap length (upto_recency x past) in
        let j : bucket_for f s.threshold (Some (length (upto x s.live))) ≡ f.bucket_of d =
        (λ i. f.bucket_of (scaled_distance (still i) (q i))) ∙ ap f.bucket_of (mul-div_cancel d {n = full_rate} (lit< tt)) in
        rw (step_again hash limit f x s sampled_here (ap (has x) live_all ∙ has_recency x past ∙ w), j, still)
        (exact_record f (λ n. hits n past) m s.histogram e (f.bucket_of d) (omega (arith, c.far d)) (λ n. has x (cached n past))
        (λ k l. hit_is (f.size k) x past ∙ rw w (sym (c.cut d k l)))))
        (λ w.
        rw (
          step_first hash limit f x s sampled_here (ap (has x) live_all ∙ has_recency x past ∙ w),
          within_limit_histogram hash limit s.threshold (x ∷ s.live),
          still,
        )
        (exact_record f (λ n. hits n past) m s.histogram e (f.buckets + 1) (omega arith) (λ n. has x (cached n past))
        (λ k l. hit_is (f.size k) x past ∙ rw w (sym (le-ltb (f.buckets + 1) k (omega arith))))))
