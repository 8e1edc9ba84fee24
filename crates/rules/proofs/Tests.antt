-- Laws of tests, each by the cases true and false. Assumes nothing.
use mathlib.Core.Path.{◌≡◌, refl}
use mathlib.Core.Bool.{Bool, true, false, ◌||◌, true≢false, false≢true}

-- a test is true or false, with the equation in hand
pub cases {ℓ} : {C : Type ℓ} (b : Bool) → (b ≡ true → C) → (b ≡ false → C) → C
cases true f g = f refl
cases false f g = g refl

-- no test is both
pub clash {ℓ} : {C : Type ℓ} {b : Bool} → b ≡ true → b ≡ false → C
clash e f = absurd (let z : true ≡ false = cc in true≢false z)

pub neither : {a b : Bool} → a || b ≡ false → (a ≡ false) × (b ≡ false)
neither {a} {b} = both_false a b
  where
    both_false : (a b : Bool) → a || b ≡ false → (a ≡ false) × (b ≡ false)
    both_false true b e = absurd (true≢false e)
    both_false false b e = (refl, e)

pub or_left : (a b : Bool) → a ≡ true → a || b ≡ true
or_left true b e = refl
or_left false b e = absurd (false≢true e)

pub or_right : (a b : Bool) → b ≡ true → a || b ≡ true
or_right true b e = refl
or_right false b e = e

pub or_neither : {a b : Bool} → a ≡ false → b ≡ false → a || b ≡ false
or_neither e f = rw (e, f)
