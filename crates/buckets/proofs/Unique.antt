-- Any two results that a promise of this crate allows coincide: what is answered, and every lent table at exit. Assumes nothing.
use Prim.Native.Nat.{ℕ}
use mathlib.Core.Path.{◌≡◌, sym, ap, ◌∙◌}
use mathlib.Core.List.{List}
use Rattle.std.specs.declared.result.Result as told
use Rattle.rules.specs.declared.Refusal.{Refusal}
use Rattle.rules.specs.Settings.{Histogram}
use Rattle.rules.specs.Answers.{result_of}
use Rattle.rules.specs.Order.{outcome}
use Rattle.rules.specs.Layout.{buckets_of}
use Rattle.rules.proofs.Answers.{result_injective}
use Rattle.buckets.specs.declared.Sums.{Sums}
use Rattle.buckets.specs.Buckets.{recorded_of, report_of}

module _ (references t : ℕ) (g : Histogram) where
  pub record_in_unique : (j : ℕ) (r s : told.Result (Unit {0}) Refusal) (counts thresholds counts' thresholds' : List ℕ)
      → outcome (result_of r) (buckets_of counts thresholds) ≡ recorded_of references t j g
      → outcome (result_of s) (buckets_of counts' thresholds') ≡ recorded_of references t j g
      → (r ≡ s) × (counts ≡ counts') × (thresholds ≡ thresholds')
  record_in_unique j r s counts thresholds counts' thresholds' e f =
      let h = e ∙ sym f in
      (result_injective r s (ap (λ k. k.result) h), ap (λ k. k.left.counts) h, ap (λ k. k.left.thresholds) h)

  pub report_unique : (n point : ℕ) (r s : told.Result Sums Refusal) → result_of r ≡ report_of references t n point g
      → result_of s ≡ report_of references t n point g → r ≡ s
  report_unique n point r s e f = result_injective r s (e ∙ sym f)
