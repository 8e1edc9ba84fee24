-- The recency list holds exactly the referenced locations, each once, ordered by last reference. By induction on the history: the newest was
-- referenced last of all, and every other's last reference is one further back. Assumes nothing.
use Prim.Native.Nat.{ℕ, suc}
use mathlib.Core.Path.{◌≡◌, refl, sym, subst, ◌∙◌}
use mathlib.Core.Bool.{true, false, not}
use mathlib.Core.List.{List, [], ◌∷◌}
use native.Mathlib.Omega.{arith}
use lib.Dec.{eqb}
use borrow.Author.Tests.{eqb-true, eqb-false, eq-eqb, ne_eqb}
use Rattle.rules.specs.Lists.{has, without}
use Rattle.rules.specs.History.{recency}
use Rattle.rules.proofs.Tests.{cases, clash}
use Rattle.rules.proofs.Lists.{has_without, has_keep, differ}
use Rattle.rules.proofs.History.{has_recency}
use Rattle.demands.specs.Statements.{last_reference, ByLastReference, Recency}

-- what is left without x is another than x, and was there
other_than : (x y : ℕ) (l : List ℕ) → has y (without x l) ≡ true → (eqb y x ≡ false) × (has y l ≡ true)
other_than x y l h = cases (eqb y x)
    (λ e. clash (subst (λ z. has z (without x l) ≡ true) (eqb-true y x e) h) (has_without x l))
    (λ e. (e, sym (has_keep (λ z. not (eqb x z)) y (differ y x e) l) ∙ h))

-- one reference later every other location's last reference is one further back
later : (x y : ℕ) (past : List ℕ) → eqb y x ≡ false → last_reference (x ∷ past) y ≡ suc (last_reference past y)
later x y past e = rw e

by_last : (x : ℕ) (past l : List ℕ) → ByLastReference past l → ByLastReference (x ∷ past) (without x l)
by_last x past [] o = tt
by_last x past (z ∷ l) o = cases (eqb x z)
    (λ e. simp e (by_last x past l o.1))
    (λ e. simp e (
      (λ y h. let k = other_than x y l h in
          let d : eqb z x ≡ false = ne_eqb z x (λ q. eqb-false x z e (sym q)) in
          omega (arith, later x z past d, later x y past k.0, o.0 y k.1)),
      by_last x past l o.1,
    ))

ordered : (past : List ℕ) → ByLastReference past (recency past)
ordered [] = tt
ordered (x ∷ past) = (
  (λ y h. let k = other_than x y (recency past) h in rw (eq-eqb x x refl) (omega (arith, later x y past k.0))),
  by_last x past (recency past) (ordered past),
)

pub recency_is : (past : List ℕ) → Recency past
recency_is past = record { exactly = λ x. has_recency x past; ordered = ordered past }
