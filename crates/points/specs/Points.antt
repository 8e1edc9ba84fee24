-- What the functions for a point pass to each other. Assumes nothing.
use Rattle.std.specs.Prelude.{ℕ, ◌-◌, cond, eqb}
use Rattle.rules.specs.declared.Settings.{Settings}
use Rattle.rules.specs.declared.Point.{Point}
use Rattle.buckets.specs.declared.Sums.{Sums}
use Rattle.rules.specs.Answers.{Result, refused, gives}
use Rattle.rules.specs.Layout.{profile_of}

-- point k, from the sums of a report
abbrev pub from_sums : Settings → (k : ℕ) → Sums → Result Point
from_sums s k sums =
    cond (eqb sums.total 0) (refused 9)
    (gives (record { size = (profile_of s).size k; hits = sums.hits; misses = sums.total - sums.hits; total = sums.total }))
