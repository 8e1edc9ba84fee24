-- Any two results that a promise of this crate allows coincide: the number got, and the bytes at exit. Assumes nothing.
use Prim.Native.Nat.{ℕ}
use mathlib.Core.Path.{◌≡◌, sym, ◌∙◌}
use mathlib.Core.List.{List}
use Rattle.little_endian.specs.InBytes.{got_from, put_into}

module _ (n at : ℕ) (s : List ℕ) where
  pub get_once : (a b : ℕ) → a ≡ got_from n at s → b ≡ got_from n at s → a ≡ b
  get_once a b e f = e ∙ sym f

  pub put_once : (x : ℕ) (a b : List ℕ) → a ≡ put_into n at x s → b ≡ put_into n at x s → a ≡ b
  put_once x a b e f = e ∙ sym f
