-- Document 01, "Refusal numbers": a call by the order of its refusals. Assumes nothing.
use Rattle.std.specs.Prelude.{ℕ, zero, suc, ◌≡◌, Bool, true, false, cond, List, [], ◌∷◌}
use Rattle.rules.specs.declared.Refusal.{Refusal}
use Rattle.rules.specs.Answers.{Result, refused, gives, number}

-- what a call answers, and what it leaves of what it was lent
pub record Outcome (A S : Type 0) : Type 0 where
  pub result : Result A
  pub left : S

abbrev pub outcome : {A S : Type 0} → Result A → S → Outcome A S
outcome result left = record { result = result; left = left }

-- a refusal, with whether its condition holds
pub record Judged : Type 0 where
  pub refusal : Refusal
  pub holds : Bool

abbrev pub ◌when◌ : Refusal → Bool → Judged
r when b = record { refusal = r; holds = b }

infix 30 ◌when◌
-- the first refusal whose condition holds, by its number; or, where none does, what the call is for
abbrev pub says : {A : Type 0} → List Judged → A → Result A
says [] a = gives a
says (j ∷ order) a = cond j.holds (refused (number j.refusal)) (says order a)

-- a refusal leaves everything as it was
abbrev pub leaves : {S : Type 0} → List Judged → (was after : S) → S
leaves [] was after = after
leaves (j ∷ order) was after = cond j.holds was (leaves order was after)

-- the call that refuses in this order: it gives a and leaves `after` where no condition holds
abbrev pub by_order : {A S : Type 0} → List Judged → A → (was after : S) → Outcome A S
by_order order a was after = outcome (says order a) (leaves order was after)

-- no condition holds
abbrev pub NoneHolds : List Judged → Type 0
NoneHolds [] = Unit {0}
NoneHolds (j ∷ order) = (j.holds ≡ false) × NoneHolds order

-- the condition at place i holds, and none before it
abbrev pub FirstAt : (i : ℕ) → List Judged → Type 0
FirstAt i [] = ⊥
FirstAt zero (j ∷ order) = j.holds ≡ true
FirstAt (suc i) (j ∷ order) = (j.holds ≡ false) × FirstAt i order

-- the number of the refusal at place i
abbrev pub refusal_at : (i : ℕ) → List Judged → ℕ
refusal_at i [] = 0
refusal_at zero (j ∷ order) = number j.refusal
refusal_at (suc i) (j ∷ order) = refusal_at i order
