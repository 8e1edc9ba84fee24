-- Places in the live list. The first place of x is the number of entries before it, by induction on the list; a move to the front takes x out
-- there. Assumes nothing.
use Prim.Native.Nat.{ℕ, zero, suc, ◌+◌, ◌≤◌, ◌<◌}
use mathlib.Core.Path.{◌≡◌, refl, sym, ap, ◌∙◌}
use mathlib.Core.Bool.{true, false, cond}
use mathlib.Core.List.{List, [], ◌∷◌, ◌++◌}
use Rattle.std.specs.Prelude.{Some, None}
use native.Mathlib.Nat.{not-suc-le-zero, le_of_suc-le-suc}
use native.Mathlib.Omega.{arith}
use lib.ListN.{length, take, drop, length-append, length-take, length-drop, take-append-drop}
use lib.Dec.{eqb}
use borrow.Author.Tests.{eqb-true, eqb-false, eq-eqb, ne_eqb}
use Rattle.rules.specs.Lists.{has, upto, erase, over}
use Rattle.rules.specs.Reference.{first_from, first_place, to_front}
use Rattle.rules.proofs.Tests.{cases, clash}

-- either way round
eqb_swap : (x y : ℕ) → eqb y x ≡ eqb x y
eqb_swap x y = cases (eqb x y)
    (λ e. rw e (eq-eqb y x (sym (eqb-true x y e))))
    (λ e. rw e (ne_eqb y x (λ q. eqb-false x y e (sym q))))

-- the place, counted from the list's own first, is how many entries stand before x
pub place_from : (i x : ℕ) (l : List ℕ) → first_from i x l ≡ cond (has x l) (Some (i + length (upto x l))) None
unfolding first_from
place_from i x [] = refl
place_from i x (y ∷ l) = cases (eqb x y)
    (λ e. simp (eqb_swap x y, e) (ap Some (let q : i ≡ i + 0 = omega arith in q)))
    (λ e. simp (eqb_swap x y, e)
    (place_from (suc i) x l
    ∙ ap (λ n. cond (has x l) (Some n) None) (let q : suc i + length (upto x l) ≡ i + suc (length (upto x l)) = omega arith in q)))

pub place_in : (x : ℕ) (l : List ℕ) → has x l ≡ true → first_place x l ≡ Some (length (upto x l))
place_in x l e = place_from 0 x l ∙ rw e (ap Some (let q : 0 + length (upto x l) ≡ length (upto x l) = omega arith in q))

pub place_out : (x : ℕ) (l : List ℕ) → has x l ≡ false → first_place x l ≡ None
place_out x l e = place_from 0 x l ∙ rw e

pub place_lt : (x : ℕ) (l : List ℕ) → has x l ≡ true → length (upto x l) < length l
place_lt x [] t = clash t refl
place_lt x (y ∷ l) t = cases (eqb x y) (λ e. rw e (omega arith)) (λ e. rw e (omega (arith, place_lt x l (simp e at t))))

-- a place that was found is in the list
pub found_lt : (x : ℕ) (l : List ℕ) (d : ℕ) → first_place x l ≡ Some d → d < length l
found_lt x l d e = cases (has x l)
    (λ h. let q : length (upto x l) ≡ d = cc (place_in x l h) in omega (arith, place_lt x l h))
    (λ h. absurd (let z : ◌≡◌ {A = ℕ} 0 1 = cc (place_out x l h) in omega arith))

-- x out of its place and to the front
pub front_erase : (x : ℕ) (l : List ℕ) → has x l ≡ true → to_front (length (upto x l)) x l ≡ x ∷ erase x l
front_erase x l t = ap (λ r. x ∷ r) (split l t)
  where
    split : (l : List ℕ) → has x l ≡ true → take (length (upto x l)) l ++ drop (suc (length (upto x l))) l ≡ erase x l
    split [] t = clash t refl
    split (y ∷ l) t = cases (eqb x y) (λ e. simp e) (λ e. simp e (ap (λ r. y ∷ r) (split l (simp e at t))))

pub front_length : (d x : ℕ) (l : List ℕ) → d < length l → length (to_front d x l) ≡ length l
front_length d x l h = simp (length-append, length-take, length-drop) (omega arith)

-- a move to the front within the first n of a table
cut : (xs : List ℕ) (n d : ℕ) → d < n → n ≤ length xs → (take d (take n xs) ++ drop (suc d) (take n xs)) ++ drop n xs ≡ take d xs ++ drop (suc d) xs
cut [] n d h k = absurd (let z : ⊥ = omega arith in z)
cut (x ∷ xs) zero d h k = absurd (not-suc-le-zero h)
cut (x ∷ xs) (suc n) zero h k = take-append-drop n xs
cut (x ∷ xs) (suc n) (suc d) h k = ap (λ (l : List ℕ). x ∷ l) (cut xs n d (le_of_suc-le-suc h) (le_of_suc-le-suc k))

pub front_over : (x d n : ℕ) (xs : List ℕ) → d < n → n ≤ length xs → to_front d x xs ≡ over (to_front d x (take n xs)) xs
front_over x d n xs h k =
    let m : length (to_front d x (take n xs)) ≡ n =
    front_length d x (take n xs) (rw length-take (omega arith)) ∙ length-take n xs ∙ (let q : _ ≡ n = omega arith in q) in
    ap (λ (l : List ℕ). x ∷ l) (sym (cut xs n d h k)) ∙ ap (λ (j : ℕ). to_front d x (take n xs) ++ drop j xs) (sym m)

-- a new location in front of the first n of a table, and what stood after them
pub front_new : (x n : ℕ) (xs : List ℕ) → n < length xs → to_front n x xs ≡ over (x ∷ take n xs) xs
front_new x n xs h = ap (λ (j : ℕ). x ∷ (take n xs ++ drop j xs)) (ap suc (sym (length-take n xs ∙ (let q : _ ≡ n = omega arith in q))))
