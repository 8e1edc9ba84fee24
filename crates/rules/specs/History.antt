-- What a history of references is by itself, latest first: the right-hand sides of demand 3. No tracker is named here. Assumes nothing.
use Rattle.std.specs.Prelude.{ℕ, ◌≤◌, ◌<◌, Bool, List, [], ◌∷◌, ltb, length}
use Rattle.rules.specs.Lists.{keep, upto, without}

-- a reference, as a history has it: a location, and nothing beside it
abbrev pub Reference : Type 0
Reference = ℕ

-- its location, and those of a history: the statements about runs come to locations through these two
abbrev pub location : Reference → ℕ
location x = x

abbrev pub locations : List Reference → List ℕ
locations past = past

-- the recency list: the different locations, latest first
abbrev pub recency : List ℕ → List ℕ
recency [] = []
recency (x ∷ past) = x ∷ without x (recency past)

-- how many different locations of a history pass a test
abbrev pub different : (ℕ → Bool) → List ℕ → ℕ
different p past = length (keep p (recency past))

-- the distance of x: how many different other locations that pass a test were referenced since its previous reference
abbrev pub distance : (ℕ → Bool) → ℕ → List ℕ → ℕ
distance p x past = different p (upto x past)

-- t is the largest whole number not above start below which at most limit different locations of the history hash
pub record Largest (hash : ℕ → ℕ) (limit start : ℕ) (past : List ℕ) (t : ℕ) : Type 0 where
  pub at_most : t ≤ start
  pub holds : different (λ x. ltb (hash x) t) past ≤ limit
  pub none_above : (u : ℕ) → t < u → u ≤ start → limit < different (λ x. ltb (hash x) u) past
