-- What is done to a list of locations that fills its slice. Assumes nothing.
use Rattle.std.specs.Prelude.{ℕ, cond, List, ◌∷◌, ltb, length}
use Rattle.rules.specs.Lists.{over}
use Rattle.rules.specs.Reference.{to_front, keep_below, lowered}
use Rattle.live.specs.declared.Lowered.{Lowered}

-- x moved from place d to the front; nothing changes if the place is past the end
unfoldable pub moved_to_front : (d x : ℕ) → List ℕ → List ℕ
moved_to_front d x xs = cond (ltb d (length xs)) (to_front d x xs) xs

-- how many entries are kept, and the slice afterwards
pub record Remaining : Type 0 where
  pub number : ℕ
  pub table : List ℕ

abbrev pub remaining : ℕ → List ℕ → Remaining
remaining number table = record { number = number; table = table }

-- the entries whose hash is below t are kept
abbrev pub remaining_of : (ℕ → ℕ) → (t : ℕ) → List ℕ → Remaining
remaining_of hash t xs = remaining (length (keep_below hash t xs)) (over (keep_below hash t xs) xs)

-- the threshold and the number of locations after a lowering, and the table or slice afterwards
pub record Lowering : Type 0 where
  pub result : Lowered
  pub table : List ℕ

abbrev pub lowering : Lowered → List ℕ → Lowering
lowering result table = record { result = result; table = table }

-- the entries of a list whose hash is below t, over the front of the table
abbrev pub staying : (ℕ → ℕ) → (t : ℕ) → (list table : List ℕ) → Lowering
staying hash t l xs = lowering (record { threshold = t; live = length (keep_below hash t l) }) (over (keep_below hash t l) xs)

-- x in front of the list: the threshold falls, and the entries whose hash is below it are kept
abbrev pub lowering_of : (ℕ → ℕ) → (t x : ℕ) → List ℕ → Lowering
lowering_of hash t x xs = staying hash (lowered hash t (x ∷ xs)) (x ∷ xs) xs
