-- Laws of a history's recency list, by induction on the history. A reference puts its location in front and takes it out of the rest, which is a
-- `keep`: the laws of `Lists` do each step. Assumes nothing.
use Prim.Native.Nat.{ℕ, ◌≤◌}
use mathlib.Core.Path.{◌≡◌, refl, ap, ◌∙◌}
use mathlib.Core.Bool.{Bool, true, false, not}
use mathlib.Core.List.{List, [], ◌∷◌}
use native.Mathlib.Omega.{arith}
use lib.Dec.{eqb}
use Rattle.rules.specs.Lists.{keep, has, upto, without}
use Rattle.rules.specs.History.{recency, different}
use Rattle.rules.proofs.Tests.{cases}
use Rattle.rules.proofs.Lists.{keep_keep, keep_without_out, has_keep, has_without, upto_keep, Once, once_keep, length_without, differ}

pub recency_once : (past : List ℕ) → Once (recency past)
recency_once [] = tt
recency_once (x ∷ past) = (has_without x (recency past), once_keep (λ y. not (eqb x y)) (recency past) (recency_once past))

pub has_recency : (x : ℕ) (past : List ℕ) → has x (recency past) ≡ has x past
has_recency x [] = refl
has_recency x (y ∷ past) =
    cases (eqb x y) (λ e. rw e) (λ e. rw e (has_keep (λ z. not (eqb y z)) x (differ x y e) (recency past) ∙ has_recency x past))

-- what stands before x in the recency list is the recency list of what came after x's previous reference
pub upto_recency : (x : ℕ) (past : List ℕ) → upto x (recency past) ≡ recency (upto x past)
upto_recency x [] = refl
upto_recency x (y ∷ past) = cases (eqb x y)
    (λ e. rw e)
    (λ e. rw e (ap (λ r. y ∷ r) (upto_keep (λ z. not (eqb y z)) x (differ x y e) (recency past) ∙ ap (without y) (upto_recency x past))))

-- as if nothing that fails p had been referenced
pub keep_recency : (p : ℕ → Bool) (past : List ℕ) → keep p (recency past) ≡ recency (keep p past)
keep_recency p [] = refl
keep_recency p (x ∷ past) = cases (p x)
    (λ e. rw e (ap (λ r. x ∷ r) (keep_keep p (λ y. not (eqb x y)) (recency past) ∙ ap (without x) (keep_recency p past))))
    (λ e. rw e (keep_without_out p x e (recency past) ∙ keep_recency p past))

-- the recency list after x, seen through p
pub recent_in : (p : ℕ → Bool) (x : ℕ) (past : List ℕ) → p x ≡ true → keep p (recency (x ∷ past)) ≡ x ∷ without x (keep p (recency past))
recent_in p x past e = rw e (ap (λ r. x ∷ r) (keep_keep p (λ y. not (eqb x y)) (recency past)))

pub recent_out : (p : ℕ → Bool) (x : ℕ) (past : List ℕ) → p x ≡ false → keep p (recency (x ∷ past)) ≡ keep p (recency past)
recent_out p x past e = rw e (keep_without_out p x e (recency past))

-- one more reference never lessens a number of different locations
pub different_grows : (p : ℕ → Bool) (x : ℕ) (past : List ℕ) → different p past ≤ different p (x ∷ past)
different_grows p x past = cases (p x)
    (λ e. rw (recent_in p x past e) (length_without x (keep p (recency past)) (once_keep p (recency past) (recency_once past))))
    (λ e. rw (recent_out p x past e) (omega arith))
