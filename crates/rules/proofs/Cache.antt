-- The cache of n blocks holds the first n of the recency list, so a reference hits where its distance is below n. By induction on the history:
-- touching the first n of a list leaves the first n of the list with the block moved to its front (`touch_take`). Assumes nothing.
use Prim.Native.Nat.{ℕ, zero, suc}
use mathlib.Core.Path.{◌≡◌, refl, sym, ap, ◌∙◌}
use mathlib.Core.Bool.{true, false, cond}
use mathlib.Core.List.{List, [], ◌∷◌}
use native.Mathlib.Omega.{arith}
use lib.ListN.{length, take}
use lib.Seq.{take-take}
use lib.Dec.{eqb, ltb, leb-suc-suc, leb-suc-zero}
use borrow.Author.Tests.{lt-ltb}
use Rattle.rules.specs.Lists.{has, upto, erase}
use Rattle.rules.specs.History.{recency}
use Rattle.rules.specs.Cache.{touch, cached}
use Rattle.rules.proofs.Tests.{cases}
use Rattle.rules.proofs.Lists.{erase_without}
use Rattle.rules.proofs.History.{recency_once, has_recency, upto_recency}

has_take : (x n : ℕ) (l : List ℕ) → has x (take n l) ≡ cond (has x l) (ltb (length (upto x l)) n) false
has_take x zero l = cases (has x l) (λ e. rw (e, leb-suc-zero)) (λ e. rw e)
has_take x (suc n) [] = refl
has_take x (suc n) (y ∷ l) = cases (eqb x y)
    (λ e. simp (e, lt-ltb 0 (suc n) (omega arith)))
    (λ e. simp (e, leb-suc-suc) (has_take x n l))

erase_take : (x n : ℕ) (l : List ℕ) → has x (take (suc n) l) ≡ true → erase x (take (suc n) l) ≡ take n (erase x l)
erase_take x n [] t = cc
erase_take x zero (y ∷ l) t = cases (eqb x y) (λ e. simp e) (λ e. cc (simp e at t))
erase_take x (suc n) (y ∷ l) t = cases (eqb x y)
    (λ e. simp e)
    (λ e. simp e (ap (λ r. y ∷ r) (erase_take x n l (simp e at t))))

take_erase : (x n : ℕ) (l : List ℕ) → has x (take (suc n) l) ≡ false → take n (erase x l) ≡ take n l
take_erase x zero l t = refl
take_erase x (suc n) [] t = refl
take_erase x (suc n) (y ∷ l) t = cases (eqb x y)
    (λ e. cc (simp e at t))
    (λ e. simp e (ap (λ r. y ∷ r) (take_erase x n l (simp e at t))))

touch_take : (n x : ℕ) (l : List ℕ) → touch n (take n l) x ≡ take n (x ∷ erase x l)
touch_take zero x l = refl
touch_take (suc n) x l = cases (has x (take (suc n) l))
    (λ e. rw e (ap (λ r. x ∷ r) (erase_take x n l e)))
    (λ e. rw e (ap (λ r. x ∷ r) (take-take n (suc n) l (omega arith) ∙ sym (take_erase x n l e))))

pub cached_is : (n : ℕ) (past : List ℕ) → cached n past ≡ take n (recency past)
cached_is zero [] = refl
cached_is (suc n) [] = refl
cached_is n (x ∷ past) =
    ap (λ z. touch n z x) (cached_is n past) ∙ touch_take n x (recency past)
    ∙ ap (λ z. take n (x ∷ z)) (erase_without x (recency past) (recency_once past))

pub hit_is : (n x : ℕ) (past : List ℕ) → has x (cached n past) ≡ cond (has x past) (ltb (length (recency (upto x past))) n) false
hit_is n x past = rw (cached_is, has_take, has_recency, upto_recency)
