-- What is returned is decided by what it says: a function undoes the reading, which finds a refusal by its number. Assumes nothing.
use Prim.Native.Nat.{ℕ, ◌<◌}
use mathlib.Core.Path.{◌≡◌, refl, sym, ap, ◌∙◌}
use mathlib.Core.Bool.{cond}
use native.Mathlib.Omega.{arith}
use lib.Dec.{eqb}
use Rattle.std.specs.Prelude.{Ok, Err}
use Rattle.std.specs.declared.result.Result as told
use Rattle.rules.specs.declared.Refusal.{Refusal}
use Rattle.rules.specs.declared.Refusal.TheVariants as refusal
use Rattle.rules.specs.Answers.{Result, refused, gives, number, number_of, result_of}

-- what undoes a reading makes it injective
pub undone : {A B : Type 0} (f : A → B) (g : B → A) → ((a : A) → g (f a) ≡ a) → (a b : A) → f a ≡ f b → a ≡ b
undone f g e a b q = sym (e a) ∙ ap g q ∙ e b

-- the same results are of the same value, or number
pub gives_same : {A : Type 0} {a b : A} → gives a ≡ gives b → a ≡ b
gives_same e = cc

pub refused_same : {A : Type 0} {m n : ℕ} → ◌≡◌ {A = Result A} (refused m) (refused n) → m ≡ n
refused_same e = cc

-- the refusal of a number
named : ℕ → Refusal
named n =
    cond (eqb n 1) refusal.Settings
    (cond (eqb n 2) refusal.Tables
    (cond (eqb n 3) refusal.Torn
    (cond (eqb n 4) refusal.Full
    (cond (eqb n 5) refusal.Stale
    (cond (eqb n 6) refusal.Point
    (cond (eqb n 7) refusal.Short
    (cond (eqb n 8) refusal.Kind
    (cond (eqb n 9) refusal.Empty refusal.Overrun))))))))

named_number : (r : Refusal) → named (number r) ≡ r
unfolding named
named_number refusal.Settings = refl
named_number refusal.Tables = refl
named_number refusal.Torn = refl
named_number refusal.Full = refl
named_number refusal.Stale = refl
named_number refusal.Point = refl
named_number refusal.Short = refl
named_number refusal.Kind = refl
named_number refusal.Empty = refl
named_number refusal.Overrun = refl

pub number_injective : (a b : Refusal) → number a ≡ number b → a ≡ b
number_injective = undone number named named_number

-- no refusal is numbered 0, so that 0 may stand for accepted
pub number_some : (r : Refusal) → number r ≡ 0 → ⊥
number_some refusal.Settings e = omega arith
number_some refusal.Tables e = omega arith
number_some refusal.Torn e = omega arith
number_some refusal.Full e = omega arith
number_some refusal.Stale e = omega arith
number_some refusal.Point e = omega arith
number_some refusal.Short e = omega arith
number_some refusal.Kind e = omega arith
number_some refusal.Empty e = omega arith
number_some refusal.Overrun e = omega arith

pub number_refused : {A : Type 0} (s : Result A) → 0 < number_of s → s ≡ refused (number_of s)
number_refused (refused n) h = refl
number_refused (gives a) h = absurd (omega arith)

-- what was returned, back from what it says: refusals by their number
back : {A : Type 0} → Result A → told.Result A Refusal
back (refused n) = Err (named n)
back (gives a) = Ok a

back_result : {A : Type 0} (r : told.Result A Refusal) → back (result_of r) ≡ r
unfolding back
back_result (Ok a) = refl
back_result (Err why) = ap Err (named_number why)

pub result_injective : {A : Type 0} (a b : told.Result A Refusal) → result_of a ≡ result_of b → a ≡ b
result_injective = undone result_of back back_result
