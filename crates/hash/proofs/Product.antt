-- A product modulo 2^64, by halves of 32 bits: multiplied out, the product of the upper halves is a multiple of 2^64, and of the two mixed
-- products only the lower halves count. Assumes nothing.
use Rattle.std.proofs.Common.{◌≡◌, ℕ, ◌+◌, ◌*◌, ◌/◌, ◌%◌, ◌^◌, ◌<◌, sym, refl, ap, ◌∙◌, lt_of_le_of_lt, le_of_lt, add_assoc, mul_assoc, mul_comm, add-mul, add_comm, mul-le-mul_left, mul-lt-mul_of_pos_right, mul-add, mul_left_comm, arith, pow_pos, pow-add}
use mathlib.Core.Path.{subst⁻¹}
use native.Mathlib.Nat.{add_left_comm}
use lib.Pow.{split}

-- a product of two numbers of k bits has twice as many
pub below : (k : ℕ) {a b : ℕ} → a < 2 ^ k → b < 2 ^ k → a * b < 2 ^ (k + k)
below k {a} {b} ha hb =
    subst⁻¹ (λ (n : ℕ). a * b < n) (pow-add 2 k k)
    (lt_of_le_of_lt (mul-le-mul_left a (le_of_lt hb)) (mul-lt-mul_of_pos_right ha (pow_pos k)))

-- what the four products are worth modulo 2^64
columns : (a b c d : ℕ) → ((b + c) % 2 ^ 64 % 2 ^ 32 * 2 ^ 32 + d) % 2 ^ 64 ≡ (a * (2 ^ 32 * 2 ^ 32) + b * 2 ^ 32 + c * 2 ^ 32 + d) % 2 ^ 64
columns a b c d = omega arith

expand : (p a₀ a₁ b₀ b₁ : ℕ) → (a₁ * p + a₀) * (b₁ * p + b₀) ≡ a₁ * b₁ * (p * p) + a₁ * b₀ * p + a₀ * b₁ * p + a₀ * b₀
expand p a₀ a₁ b₀ b₁ = simp (mul-add, add-mul, mul_assoc, mul_comm, mul_left_comm, add_assoc, add_comm, add_left_comm) refl

-- what the program adds up is the product
pub halves : (x m : ℕ)
    → ((x / 2 ^ 32 * (m % 2 ^ 32) + x % 2 ^ 32 * (m / 2 ^ 32)) % 2 ^ 64 % 2 ^ 32 * 2 ^ 32 + x % 2 ^ 32 * (m % 2 ^ 32)) % 2 ^ 64 ≡ x * m % 2 ^ 64
halves x m =
    columns (x / 2 ^ 32 * (m / 2 ^ 32)) (x / 2 ^ 32 * (m % 2 ^ 32)) (x % 2 ^ 32 * (m / 2 ^ 32)) (x % 2 ^ 32 * (m % 2 ^ 32))
    ∙ ap (λ (n : ℕ). n % 2 ^ 64) (sym (expand (2 ^ 32) (x % 2 ^ 32) (x / 2 ^ 32) (m % 2 ^ 32) (m / 2 ^ 32)))
    ∙ (λ i. split x 32 i * split m 32 i % 2 ^ 64)
