-- The bench table. A row of given calls computes, so `refl` proves it. Row d speaks of every later reference: a run whose threshold is 0 goes on
-- as one (`zero_later`), and there nothing is sampled and every sum is 0. Row h, of any tables long enough, is setup's cases. Assumes nothing.
use Prim.Native.Nat.{ℕ, zero, suc, ◌+◌, ◌/◌, ◌≤◌}
use mathlib.Core.Path.{◌≡◌, refl, sym, ap, subst, ◌∙◌}
use mathlib.Core.Bool.{false}
use mathlib.Core.List.{List, [], ◌∷◌}
use native.Mathlib.Nat.{mul-zero, zero-div}
use native.Mathlib.Omega.{arith}
use borrow.Author.Tests.{le-ltb, eq-eqb}
use Rattle.rules.specs.declared.Settings.{Settings}
use Rattle.rules.specs.Settings.{Histogram, Tables, with_defaults, out_of_range, hash_of}
use Rattle.rules.specs.Reference.{first_from, largest, within_limit, sampled_step, step, rescaled, count_at, threshold_at}
use Rattle.rules.specs.declared.Reply.{Reply}
use Rattle.rules.specs.declared.Reply.TheVariants.{Skipped}
use Rattle.rules.specs.Curve.{sum_to, raw_to}
use Rattle.rules.specs.Answers.{refused, gives}
use Rattle.rules.specs.Events.{read_of}
use Rattle.rules.specs.Layout.{Tracker, sample_of, hash_for, profile_of, fresh_record}
use Rattle.rules.specs.Conditions.{too_short, torn_record, torn_bucket, any_torn, torn_to}
use Rattle.rules.specs.Calls.{setup_of, step_of, refer_of, point_of, going_on, refer_all}
use Rattle.rules.proofs.Clean.{step_falls}
use Rattle.rules.proofs.Hash.{hash_zero}
use Rattle.rules.proofs.Calls.{refer_accept, refer_either, setup_accept, setup_range}
use Rattle.demands.specs.Runs.{Run, setup, refer}
use Rattle.demands.specs.Bench.{kind0, zeros, point_at, case_d, BenchTable}
use Rattle.demands.proofs.Tracking.{whole_answers}
use Rattle.demands.proofs.Points.{only_point_or_empty}

-- ---- with T at 0

sum_zero : (n : ℕ) (g : Histogram) → sum_to 0 n g ≡ 0
unfolding sum_to
sum_zero zero g = refl
sum_zero (suc n) g =
    let q : rescaled 0 (count_at n g) (threshold_at n g) ≡ 0 = ap (λ z. z / threshold_at n g) (mul-zero (count_at n g)) ∙ zero-div (threshold_at n g) in
    omega (arith, sum_zero n g)

pub zero_empty : (past : List ℕ) (s : Tracker) → Run past s → s.kept.threshold ≡ 0 → (k : ℕ) → k ≤ s.kept.settings.buckets
    → point_at s k ≡ refused 9
zero_empty past s run z k h =
    only_point_or_empty past s k run
    ∙ rw (le-ltb _ _ h, eq-eqb _ 0 (ap (λ t. sum_to t (s.kept.settings.buckets + 2) s.tables.histogram) z ∙ sum_zero _ s.tables.histogram))

pub zero_skips : (past : List ℕ) (s : Tracker) → Run past s → s.kept.threshold ≡ 0 → (x : ℕ) (r : Reply) → (refer_of x s).result ≡ gives r
    → r ≡ Skipped
zero_skips past s run z x r e =
    whole_answers past s (refer_of x s).left x r run (λ i. record { result = e i; left = (refer_of x s).left })
    ∙ rw (le-ltb (hash_for s.kept.settings x) s.kept.threshold (omega arith))

-- later references leave a run with T at 0, on the same settings
pub record Zero (s : Settings) (h : Tracker) : Type 0 where
  pub past : List ℕ
  pub run : Run past h
  pub is_zero : h.kept.threshold ≡ 0
  pub same : h.kept.settings ≡ s

pub zero_later : (s : Settings) (later : List ℕ) (h : Tracker) → Zero s h → Zero s (refer_all later h).left
unfolding refer_all
zero_later s [] h z = z
zero_later s (x ∷ later) h z = refer_either x h
    (λ a. let e = refer_accept x h a in
    let next : Zero s (refer_of x h).left = record {
      past = x ∷ z.past;
      run = refer z.run (λ i. record { result = ap (λ o. o.result) e i; left = (refer_of x h).left });
      is_zero =
          ap (λ o. o.left.kept.threshold) e
          ∙ (let q : (step_of x h).left.threshold ≡ 0 =
          omega (
            arith,
            step_falls (hash_for h.kept.settings) h.kept.settings.limit (profile_of h.kept.settings) x (sample_of h),
            z.is_zero,
          ) in q);
      same = ap (λ o. o.left.kept.settings) e ∙ z.same;
    } in
    subst (Zero s) (sym (ap (λ o. (going_on o.result (refer_of x h).left (refer_all later (refer_of x h).left)).left) e))
    (zero_later s later (refer_of x h).left next))
    (λ n e. subst (Zero s) (sym (ap (λ o. (going_on o.result o.left (refer_all later o.left)).left) e)) z)

-- ---- the table

case_d_lem : Zero (with_defaults (kind0 1 16 0 0)) case_d
unfolding setup_of refer_of refer_all torn_record out_of_range with_defaults hash_of first_from largest within_limit sampled_step step torn_bucket
case_d_lem = record { past = 16777216 ∷ 0 ∷ []; run = refer (refer (setup (kind0 1 16 0 0) zeros refl) refl) refl; is_zero = refl; same = refl }

skips : (later : List ℕ) (x : ℕ) (r : Reply) → (refer_of x (refer_all later case_d).left).result ≡ gives r → r ≡ Skipped
skips later x r e = let z = zero_later _ later case_d case_d_lem in zero_skips z.past _ z.run z.is_zero x r e

empty : (later : List ℕ) (k : ℕ) → k ≤ 256 → point_at (refer_all later case_d).left k ≡ refused 9
unfolding with_defaults
empty later k h = let z = zero_later _ later case_d case_d_lem in
    zero_empty z.past _ z.run z.is_zero k (omega (arith, ap (λ s. s.buckets) z.same))

limits : (t : Tables) → too_short (with_defaults (kind0 8192 0 0 0)) t ≡ false
    → ((setup_of (kind0 8192 0 0 0) t).result ≡ gives (fresh_record (with_defaults (kind0 8192 0 0 0))))
    × ((setup_of (kind0 8193 0 0 0) t).result ≡ refused 1)
limits t l = (
  ap (λ b. b.result) (setup_accept (kind0 8192 0 0 0) t (unfold out_of_range with_defaults in refl) l),
  ap (λ b. b.result) (setup_range (kind0 8193 0 0 0) t (unfold out_of_range with_defaults in refl)),
)

pub bench : BenchTable
unfolding setup_of refer_of refer_all torn_record out_of_range with_defaults hash_of first_from largest within_limit sampled_step step
    torn_bucket point_of torn_to any_torn raw_to sum_to read_of
bench = record {
  a = ((refl, refl), refl, refl, refl, refl, refl);
  b = ((refl, refl), refl, refl, refl, refl, refl, refl, refl, refl, refl, refl);
  c = ((refl, refl), refl, refl, refl, refl);
  d = ((refl, refl), refl, skips, empty);
  e = refl;
  f = ((refl, refl), refl, refl, refl, refl, refl);
  g = (refl, refl);
  h = limits;
  i = hash_zero;
  j = refl;
  k = refl;
  l = λ b1 b2 b3 b4 b5 b6 b7. refl;
}
