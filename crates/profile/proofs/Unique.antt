-- Any two results that a promise of this crate allows coincide. Assumes nothing.
use Prim.Native.Nat.{ℕ, max}
use mathlib.Core.Path.{◌≡◌, sym, ◌∙◌}
use Rattle.rules.specs.Reference.{widths}

module _ (width : ℕ) where
  pub bucket_of_once : (buckets d a b : ℕ) → a ≡ (widths (max 1 width) buckets).bucket_of d → b ≡ (widths (max 1 width) buckets).bucket_of d → a ≡ b
  bucket_of_once buckets d a b e f = e ∙ sym f

  pub size_of_once : (point a b : ℕ)
      → ((buckets : ℕ) → a ≡ (widths width buckets).size point) → ((buckets : ℕ) → b ≡ (widths width buckets).size point) → a ≡ b
  size_of_once point a b e f = e 0 ∙ sym (f 0)
