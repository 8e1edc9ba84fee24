-- Points of a run: what is refused, and demand 2 at full rate. The buckets of a run are clean, so none is torn at a report, and the refusals
-- that are left are a point off the curve and an empty curve. That the histogram is the caches' goes by induction on the run, each reference by
-- `FullRate`'s `exact_step`. Assumes nothing.
use Prim.Native.Nat.{ℕ, zero, suc, ◌-◌, ◌*◌, ◌≤◌}
use mathlib.Core.Path.{◌≡◌, refl, ap, subst, ◌∙◌}
use mathlib.Core.Bool.{false}
use mathlib.Core.List.{List, [], ◌∷◌}
use native.Mathlib.Omega.{arith}
use lib.ListN.{length}
use borrow.Author.Tests.{eq-eqb, ne_eqb, le-ltb}
use Rattle.rules.specs.Settings.{Histogram, needed, full_rate, one_reference}
use Rattle.rules.specs.Curve.{sum_to, total_of}
use Rattle.rules.specs.Answers.{gives}
use Rattle.rules.specs.Layout.{Tracker, sample_of, hash_for, profile_of}
use Rattle.rules.specs.Conditions.{buckets_too_short, any_torn, torn_to}
use Rattle.rules.specs.Calls.{point_of}
use Rattle.rules.specs.History.{recency, Largest}
use Rattle.rules.specs.Cache.{hits}
use Rattle.rules.proofs.Tests.{or_neither}
use Rattle.rules.proofs.Lists.{length_without}
use Rattle.rules.proofs.Hash.{hash_below}
use Rattle.rules.proofs.History.{recency_once}
use Rattle.rules.proofs.Bounds.{whole, not_torn, all_long, buckets_none_short}
use Rattle.rules.proofs.Clean.{Clean}
use Rattle.rules.proofs.Steps.{Tracked}
use Rattle.rules.proofs.Calls.{own_shape_lem}
use Rattle.rules.proofs.FullRate.{profile_cut, Exact, exact_report, exact_step, threshold_stays}
use Rattle.rules.proofs.Fresh.{exact_fresh}
use Rattle.demands.specs.Runs.{Run}
use Rattle.demands.specs.Statements.{size_at, FullRate, OnlyPointOrEmpty}
use Rattle.demands.proofs.Invariant.{invariant, by_run}

-- clean buckets are not torn at a report
none_torn : (n start references t : ℕ) (g : Histogram) → start ≤ full_rate → Clean n start references t g → (m : ℕ) → m ≤ n
    → any_torn references t m g ≡ false
unfolding any_torn
none_torn n start references t g p c zero h = refl
none_torn n start references t g p c (suc m) h = or_neither (none_torn n start references t g p c m (omega arith)) (not_torn _ _ _ _ (record {
  some = λ e. omega (arith, c.at_least_one m h);
  above = c.not_below m h;
  under = omega (arith, c.not_above m h);
  counted = c.count_high m h;
}))

pub only_point_or_empty : OnlyPointOrEmpty
unfolding point_of torn_to
only_point_or_empty past s k run =
    let v = invariant run in
    let set = s.kept.settings in
    let t : any_torn s.kept.numbers.references s.kept.threshold (needed set.buckets) s.tables.histogram ≡ false =
    none_torn (needed set.buckets) set.start _ _ s.tables.histogram (whole s.kept v.record_whole).range.start_high v.clean
    (needed set.buckets) (omega arith) in
    let n : buckets_too_short set s.tables.histogram ≡ false = buckets_none_short set s.tables v.tables_long in
    rw (v.record_whole, n, own_shape_lem s.kept, t, le-ltb _ _ v.clean.raw_high)

-- ---- demand 2 at full rate

-- the recency list never gets shorter
recency_grows : (x : ℕ) (past : List ℕ) → length (recency past) ≤ length (recency (x ∷ past))
recency_grows x past = length_without x (recency past) (recency_once past)

-- in such a run the histogram is the caches'
ExactIn : (past : List ℕ) → Tracker → Type 0
ExactIn past s = s.kept.settings.start ≡ full_rate → length (recency past) ≤ s.kept.settings.limit
    → Exact (profile_of s.kept.settings) (λ n. hits n past) (length past) s.tables.histogram

exact : {past : List ℕ} {s : Tracker} → Run past s → ExactIn past s
unfolding ExactIn
exact run = by_run (λ past s rs. ExactIn past s)
    (λ h f. subst (ExactIn []) f.is (λ p n. exact_fresh f.given f.over (all_long f.given f.over f.long).buckets p))
    (λ past s x rs run a e p n.
    let v = invariant run in
    let set = s.kept.settings in
    let tracked : Tracked (hash_for set) set.limit full_rate past (sample_of s) =
    subst (λ z. Tracked (hash_for set) set.limit z past (sample_of s)) p v.tracked in
    let m : length (recency past) ≤ set.limit = omega (arith, recency_grows x past) in
    exact_step (hash_for set) (hash_below set.hashing) set.limit (profile_of set)
    (profile_cut set (whole s.kept v.record_whole).range) x past (sample_of s) tracked m (length past) (e p m)) run

pub full_rate_lem : FullRate
unfolding ExactIn
full_rate_lem past s run p n k l =
    let v = invariant run in
    let set = s.kept.settings in
    let g = s.tables.histogram in
    let e = exact run p n in
    let still : s.kept.threshold ≡ full_rate =
    threshold_stays (hash_for set) (hash_below set.hashing) set.limit past s.kept.threshold
    (subst (λ z. Largest (hash_for set) set.limit z past s.kept.threshold) p v.tracked.threshold_is) n in
    let total : total_of s.kept.threshold set.buckets g ≡ one_reference * length past =
    ap (λ t. sum_to t (needed set.buckets) g) still ∙ exact_report (profile_of set) _ _ g e (needed set.buckets) (omega arith) ∙ e.total in
    let below : sum_to s.kept.threshold k g ≡ one_reference * hits (size_at s k) past =
    ap (λ t. sum_to t k g) still ∙ exact_report (profile_of set) _ _ g e k (omega arith) ∙ e.below k l in
    record {
      some_made = λ m. only_point_or_empty past s k run
          ∙ rw (le-ltb _ _ l, ne_eqb (total_of s.kept.threshold set.buckets g) 0 (λ z. omega arith))
          (λ i. gives (record { size = size_at s k; hits = below i; misses = total i - below i; total = total i }));
      none_made = λ q. only_point_or_empty past s k run
          ∙ rw (le-ltb _ _ l, eq-eqb (total_of s.kept.threshold set.buckets g) 0 (total ∙ ap (λ z. one_reference * length z) q));
    }
