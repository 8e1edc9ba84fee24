-- The quotient of two whole numbers that a format holds is the exact quotient, rounded once; and no number that is rounded is a NaN. Assumes
-- nothing.
use Prim.Native.Nat.{ℕ, zero, suc, ◌+◌, ◌*◌, ◌≤◌, ◌<◌, ◌^◌}
use mathlib.Core.Path.{◌≡◌, refl, sym, ap, ◌∙◌, subst}
use mathlib.Core.Bool.{Bool, true, false}
use native.Mathlib.Nat.{mul_comm, mul_assoc, mul-one, mul-pos, pos_of_ne-zero, zero-mul, lt_irrefl}
use borrow.Author.Tests.{ne_eqb}
use lib.Dec.{ltb}
use lib.Ieee.{Float, nan, inf, fin, Format, binary64, up, down, prec, emax, low, odd, units, round, div}
use lib.Ieee.Fits.{up_pos, down_pos}
use lib.Ieee.Exact.{HasValue}
use lib.Ieee.Scale.{round_same}
use lib.Ieee.Back.{round_whole}
use Rattle.rules.specs.declared.Point.{Point}
use Rattle.rules.specs.Curve.{plot_point}
use Rattle.rules.proofs.Tests.{cases}

-- the same fraction, with the two powers of two brought to the other side
cross : (m n u v e d a b : ℕ) → m * u * 1 ≡ a * e → n * v * 1 ≡ b * d → m * u * d * b ≡ a * (n * v * e)
cross m n u v e d a b p q =
    let p' : m * u ≡ a * e = sym (mul-one _) ∙ p in
    let q' : n * v ≡ b * d = sym (mul-one _) ∙ q in
    rw (p', q') (mul_assoc (a * e) d b ∙ mul_assoc a e (d * b) ∙ ap (λ (z : ℕ). a * z) (mul_comm e (d * b) ∙ ap (λ (z : ℕ). z * e) (mul_comm d b)))

div_at : (f : Format) (x y : Float) (a b : ℕ) → HasValue x false a 1 → HasValue y false b 1 → 0 < b → div f x y ≡ round f false a b
unfolding div
div_at f nan y a b h k pb = absurd h
div_at f (inf s) y a b h k pb = absurd h
div_at f (fin s m e) nan a b h k pb = absurd k
div_at f (fin s m e) (inf t) a b h k pb = absurd k
div_at f (fin s m e) (fin t n d) a b h k pb =
    let some : n ≡ 0 → ⊥ = λ z. lt_irrefl 0 (subst (λ (w : ℕ). 0 < w) (sym k.1 ∙ rw z (simp zero-mul)) (mul-pos pb (down_pos d))) in
    simp (ne_eqb n 0 some, h.0, k.0)
    (round_same f false (m * up e * down d) (n * up d * down e) a b (mul-pos (mul-pos (pos_of_ne-zero some) (up_pos d)) (down_pos e)) pb
    (cross m n (up e) (up d) (down e) (down d) a b h.1 k.1))

pub quotient : (f : Format) (a b : ℕ) → a ≤ 2 ^ prec f → b ≤ 2 ^ prec f → 0 < b → div f (round f false a 1) (round f false b 1) ≡ round f false a b
quotient f a b ha hb pb = div_at f (round f false a 1) (round f false b 1) a b (round_whole f false a ha) (round_whole f false b hb) pb

-- ---- no number that is rounded is a NaN

abbrev is_nan : Float → Bool
is_nan nan = true
is_nan (inf s) = false
is_nan (fin s m e) = false

odd_not_nan : (d : ℕ) (s : Bool) (q k l : ℕ) → is_nan (odd d s q k l) ≡ false
unfolding odd
odd_not_nan d s zero k l = refl
odd_not_nan d s (suc q) k l = refl

units_not_nan : (f : Format) (s : Bool) (q k : ℕ) → is_nan (units f s q k) ≡ false
unfolding units
units_not_nan f s q k = cases (ltb (q * 2 ^ k) (2 ^ (low f + suc (emax f)))) (λ e. rw e (odd_not_nan (suc (prec f)) s q k (low f))) (λ e. rw e)

round_not_nan : (f : Format) (s : Bool) (num den : ℕ) → is_nan (round f s num den) ≡ false
unfolding round
round_not_nan f s num den = units_not_nan f s _ _

-- so neither number of a plotted point is
pub not_nan : (p : Point) → (is_nan (plot_point p).size ≡ false) × (is_nan (plot_point p).ratio ≡ false)
not_nan p = (round_not_nan binary64 false p.size 1, round_not_nan binary64 false p.misses p.total)
