-- A least-recently-used cache of a fixed number of blocks, all equal, fed a trace: the right-hand side of demand 2. It names no
-- tracker. Assumes nothing.
use Rattle.std.specs.Prelude.{ℕ, ◌+◌, Bool, cond, List, [], ◌∷◌, take}
use Rattle.rules.specs.Lists.{has, erase}

-- one reference to block x: a hit moves x to the front; a miss puts x in front, and a full cache evicts its last
abbrev pub touch : (blocks : ℕ) → List ℕ → ℕ → List ℕ
touch blocks held x = cond (has x held) (x ∷ erase x held) (take blocks (x ∷ held))

-- the blocks held after a trace, latest first; the trace's latest reference stands first
abbrev pub cached : (blocks : ℕ) → List ℕ → List ℕ
cached blocks [] = []
cached blocks (x ∷ past) = touch blocks (cached blocks past) x

abbrev pub one_if : Bool → ℕ
one_if hit = cond hit 1 0

-- the references of a trace that found their block in the cache
abbrev pub hits : (blocks : ℕ) → List ℕ → ℕ
hits blocks [] = 0
hits blocks (x ∷ past) = one_if (has x (cached blocks past)) + hits blocks past
