-- Laws of any order of refusals, by induction on the order: its first condition holds, or the rest decides. Assumes nothing.
use Prim.Native.Nat.{ℕ, zero, suc}
use mathlib.Core.Path.{◌≡◌, refl, subst}
use mathlib.Core.List.{List, [], ◌∷◌, ◌++◌}
use native.Mathlib.Omega.{arith}
use Rattle.rules.specs.Answers.{Result, refused, gives}
use Rattle.rules.specs.Order.{Judged, says, leaves, NoneHolds, FirstAt, refusal_at}
use Rattle.rules.proofs.Tests.{cases}
use Rattle.rules.proofs.Answers.{number_some}

-- nothing is both refused and accepted
pub not_both : {A : Type 0} {said : Result A} {n : ℕ} {a : A} → said ≡ refused n → said ≡ gives a → ⊥
not_both e f = let z : ◌≡◌ {A = ℕ} 0 1 = cc in omega arith

-- either no condition holds, or one is the first that does
pub either : {C : Type 0} (order : List Judged) → (NoneHolds order → C) → ((i : ℕ) → FirstAt i order → C) → C
either [] accept refuse = accept tt
either (j ∷ order) accept refuse = cases j.holds
    (λ h. refuse 0 h)
    (λ h. either order (λ w. accept (h, w)) (λ i f. refuse (suc i) (h, f)))

pub says_given : {A : Type 0} (order : List Judged) (a : A) → NoneHolds order → says order a ≡ gives a
says_given [] a w = refl
says_given (j ∷ order) a w = rw w.0 (says_given order a w.1)

pub says_refused : {A : Type 0} (i : ℕ) (order : List Judged) (a : A) → FirstAt i order → says order a ≡ refused (refusal_at i order)
says_refused i [] a f = absurd f
says_refused zero (j ∷ order) a f = rw f
says_refused (suc i) (j ∷ order) a f = rw f.0 (says_refused i order a f.1)

pub leaves_first : {S : Type 0} (i : ℕ) (order : List Judged) (was after : S) → FirstAt i order → leaves order was after ≡ was
leaves_first i [] was after f = absurd f
leaves_first zero (j ∷ order) was after f = rw f
leaves_first (suc i) (j ∷ order) was after f = rw f.0 (leaves_first i order was after f.1)

-- what is accepted has no condition that holds
pub says_accepted : {A : Type 0} (order : List Judged) (a : A) {b : A} → says order a ≡ gives b → NoneHolds order
says_accepted order a e = either order (λ w. w) (λ i f. absurd (not_both (says_refused i order a f) e))

-- a refusal leaves all untouched
pub leaves_was : {A S : Type 0} (order : List Judged) (a : A) (was after : S) (n : ℕ) → says order a ≡ refused n → leaves order was after ≡ was
leaves_was order a was after n e = either order (λ w. absurd (not_both e (says_given order a w))) (λ i f. leaves_first i order was after f)

-- what holds between two states before, and after, holds between what two calls leave that judge alike
pub leaves_both : {S : Type 0} (P : S → S → Type 0) (order order' : List Judged) (was after was' after' : S)
    → order ≡ order' → P was was' → P after after'
    → P (leaves order was after) (leaves order' was' after')
leaves_both P order order' was after was' after' e p q = subst (λ l. P (leaves order was after) (leaves l was' after')) e (in_one_order order)
  where
    in_one_order : (l : List Judged) → P (leaves l was after) (leaves l was' after')
    in_one_order [] = q
    in_one_order (j ∷ l) = cases j.holds (λ h. rw h p) (λ h. rw h (in_one_order l))

-- an order after an order: the first that holds of the one before decides, or else the one behind
pub says_before : {A B : Type 0} (order rest : List Judged) (a : A) (b : B) {n : ℕ} → says order a ≡ refused n → says (order ++ rest) b ≡ refused n
says_before [] rest a b e = absurd (not_both e refl)
says_before (j ∷ order) rest a b e = cases j.holds
    (λ h. let q = rw h at e in rw h (cc))
    (λ h. rw h (says_before order rest a b (rw h at e)))

pub says_behind : {A : Type 0} (order rest : List Judged) (a : A) → NoneHolds order → says (order ++ rest) a ≡ says rest a
says_behind [] rest a w = refl
says_behind (j ∷ order) rest a w = rw w.0 (says_behind order rest a w.1)

-- no refusal is numbered 0
pub says_some : {A : Type 0} (order : List Judged) (a : A) → says order a ≡ refused 0 → ⊥
says_some [] a e = not_both e refl
says_some (j ∷ order) a e = cases j.holds
    (λ h. number_some j.refusal (let q = rw h at e in cc))
    (λ h. says_some order a (rw h at e))
