-- The largest hash. The loop's invariant: it is the largest of those passed.
use mathlib.Core.Path.{◌≡◌}
use lib.ListN.{take}
use Rattle.rules.specs.Settings.{hash_of}
use Rattle.rules.specs.Reference.{largest}
use Rattle.live.proofs.largest_hash.Given as goal

abbrev pub invariant-loop-location : goal.invariant-loop-location
invariant-loop-location l = l.most ≡ largest (hash_of l.hashing) (take l.location-index l.list)
