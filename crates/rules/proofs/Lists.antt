-- Laws of the list functions, each by induction on the list, and by cases on whether its first entry passes the test. Assumes nothing.
use Prim.Native.Nat.{ℕ, suc, ◌≤◌}
use mathlib.Core.Path.{◌≡◌, refl, sym, ap, subst}
use mathlib.Core.Bool.{Bool, true, false, not, cond}
use mathlib.Core.List.{List, [], ◌∷◌, ◌++◌}
use native.Mathlib.Omega.{arith}
use lib.ListN.{length}
use lib.Dec.{eqb}
use borrow.Author.Tests.{eqb-true, eqb-false, ne_eqb}
use Rattle.rules.specs.Lists.{keep, has, upto, erase, without}
use Rattle.rules.proofs.Tests.{cases}

-- ---- the entries that pass a test

pub keep_keep : (p q : ℕ → Bool) (l : List ℕ) → keep p (keep q l) ≡ keep q (keep p l)
keep_keep p q [] = refl
keep_keep p q (y ∷ l) = cases (p y)
    (λ e. cases (q y) (λ f. simp (e, f) (ap (λ r. y ∷ r) (keep_keep p q l))) (λ f. simp (e, f) (keep_keep p q l)))
    (λ e. cases (q y) (λ f. simp (e, f) (keep_keep p q l)) (λ f. simp (e, f) (keep_keep p q l)))

pub keep_append : (p : ℕ → Bool) (a b : List ℕ) → keep p (a ++ b) ≡ keep p a ++ keep p b
keep_append p [] b = refl
keep_append p (y ∷ a) b = cases (p y) (λ e. simp e (ap (λ r. y ∷ r) (keep_append p a b))) (λ e. simp e (keep_append p a b))

pub keep_length : (p : ℕ → Bool) (l : List ℕ) → length (keep p l) ≤ length l
keep_length p [] = omega arith
keep_length p (y ∷ l) = cases (p y) (λ e. rw e (omega (arith, keep_length p l))) (λ e. rw e (omega (arith, keep_length p l)))

pub keep_all : (p : ℕ → Bool) → ((y : ℕ) → p y ≡ true) → (l : List ℕ) → keep p l ≡ l
keep_all p a [] = refl
keep_all p a (y ∷ l) = rw a (ap (λ r. y ∷ r) (keep_all p a l))

-- p is the narrower test
pub keep_narrow : (p q : ℕ → Bool) → ((y : ℕ) → p y ≡ true → q y ≡ true) → (l : List ℕ) → keep p (keep q l) ≡ keep p l
keep_narrow p q w [] = refl
keep_narrow p q w (y ∷ l) = cases (p y)
    (λ e. simp (e, w y e) (ap (λ r. y ∷ r) (keep_narrow p q w l)))
    (λ e. cases (q y) (λ f. simp (e, f) (keep_narrow p q w l)) (λ f. simp (e, f) (keep_narrow p q w l)))

-- x fails p: taking x out beforehand changes nothing
pub keep_without_out : (p : ℕ → Bool) (x : ℕ) → p x ≡ false → (l : List ℕ) → keep p (without x l) ≡ keep p l
keep_without_out p x n [] = refl
keep_without_out p x n (y ∷ l) = cases (eqb x y)
    (λ e. let f : p y ≡ false = subst (λ z. p z ≡ false) (eqb-true x y e) n in simp (e, f) (keep_without_out p x n l))
    (λ e. simp e (ap (λ r. cond (p y) (y ∷ r) r) (keep_without_out p x n l)))

-- ---- whether x is an entry

pub has_keep : (p : ℕ → Bool) (x : ℕ) → p x ≡ true → (l : List ℕ) → has x (keep p l) ≡ has x l
has_keep p x t [] = refl
has_keep p x t (y ∷ l) = cases (eqb x y)
    (λ e. let f : p y ≡ true = subst (λ z. p z ≡ true) (eqb-true x y e) t in simp (e, f))
    (λ e. cases (p y) (λ f. simp (e, f) (has_keep p x t l)) (λ f. simp (e, f) (has_keep p x t l)))

pub has_keep_false : (p : ℕ → Bool) (x : ℕ) (l : List ℕ) → has x l ≡ false → has x (keep p l) ≡ false
has_keep_false p x [] n = refl
has_keep_false p x (y ∷ l) n = cases (eqb x y)
    (λ e. cc (simp e at n))
    (λ e. cases (p y) (λ f. simp (e, f) (has_keep_false p x l (simp e at n))) (λ f. simp f (has_keep_false p x l (simp e at n))))

pub has_without : (x : ℕ) (l : List ℕ) → has x (without x l) ≡ false
has_without x [] = refl
has_without x (z ∷ l) = cases (eqb x z)
    (λ e. simp e (has_without x l))
    (λ e. simp e (has_without x l))

pub without_out : (x : ℕ) (l : List ℕ) → has x l ≡ false → without x l ≡ l
without_out x [] n = refl
without_out x (y ∷ l) n = cases (eqb x y)
    (λ e. cc (simp e at n))
    (λ e. simp e (ap (λ r. y ∷ r) (without_out x l (simp e at n))))

pub upto_keep : (p : ℕ → Bool) (x : ℕ) → p x ≡ true → (l : List ℕ) → upto x (keep p l) ≡ keep p (upto x l)
upto_keep p x t [] = refl
upto_keep p x t (y ∷ l) = cases (eqb x y)
    (λ e. let f : p y ≡ true = subst (λ z. p z ≡ true) (eqb-true x y e) t in simp (e, f))
    (λ e. cases (p y) (λ f. simp (e, f) (ap (λ r. y ∷ r) (upto_keep p x t l))) (λ f. simp (e, f) (upto_keep p x t l)))

-- ---- no entry twice

abbrev pub Once : List ℕ → Type 0
Once [] = Unit {0}
Once (y ∷ l) = (has y l ≡ false) × Once l

pub once_keep : (p : ℕ → Bool) (l : List ℕ) → Once l → Once (keep p l)
once_keep p [] o = tt
once_keep p (y ∷ l) o = cases (p y)
    (λ e. rw e (has_keep_false p y l o.0, once_keep p l o.1))
    (λ e. rw e (once_keep p l o.1))

pub erase_without : (x : ℕ) (l : List ℕ) → Once l → erase x l ≡ without x l
erase_without x [] o = refl
erase_without x (y ∷ l) o = cases (eqb x y)
    (λ e. simp e (sym (without_out x l (rw (eqb-true x y e) o.0))))
    (λ e. simp e (ap (λ r. y ∷ r) (erase_without x l o.1)))

pub length_erase : (x : ℕ) (l : List ℕ) → has x l ≡ true → suc (length (erase x l)) ≡ length l
length_erase x [] t = cc
length_erase x (y ∷ l) t = cases (eqb x y)
    (λ e. simp e)
    (λ e. simp e (ap suc (length_erase x l (simp e at t))))

pub length_without : (x : ℕ) (l : List ℕ) → Once l → length l ≤ suc (length (without x l))
length_without x l o = cases (has x l)
    (λ e. rw (← erase_without x l o) (omega (arith, length_erase x l e)))
    (λ e. rw (without_out x l e) (omega arith))

pub differ : (x y : ℕ) → eqb x y ≡ false → not (eqb y x) ≡ true
differ x y e = ap not (ne_eqb y x (λ q. eqb-false x y e (sym q)))
