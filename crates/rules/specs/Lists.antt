-- Finite lists of numbers, and what the rules do with them. Assumes nothing.
use Rattle.std.specs.Prelude.{ℕ, Bool, true, false, not, cond, List, [], ◌∷◌, ◌++◌, length, drop, eqb}

-- the entries that pass a test, in order
abbrev pub keep : (ℕ → Bool) → List ℕ → List ℕ
keep p [] = []
keep p (y ∷ l) = cond (p y) (y ∷ keep p l) (keep p l)

-- whether x is an entry
abbrev pub has : ℕ → List ℕ → Bool
has x [] = false
has x (y ∷ l) = cond (eqb x y) true (has x l)

-- the entries before the first x, all of them if there is none
abbrev pub upto : ℕ → List ℕ → List ℕ
upto x [] = []
upto x (y ∷ l) = cond (eqb x y) [] (y ∷ upto x l)

-- all but the first x
abbrev pub erase : ℕ → List ℕ → List ℕ
erase x [] = []
erase x (y ∷ l) = cond (eqb x y) l (y ∷ erase x l)

-- all but every x
abbrev pub without : ℕ → List ℕ → List ℕ
without x l = keep (λ y. not (eqb x y)) l

-- a list written over the front of a table: all after it as it was
abbrev pub over : List ℕ → List ℕ → List ℕ
over new old = new ++ drop (length new) old
