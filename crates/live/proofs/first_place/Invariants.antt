-- The search. The loop's invariant: the first place in the list is the first place from here on.
use mathlib.Core.Path.{◌≡◌}
use Prim.Native.Nat.{◌-◌}
use lib.ListN.{length, drop}
use Rattle.rules.specs.Reference.{first_from}
use Rattle.live.proofs.first_place.Given as goal

abbrev pub invariant-loop-place : goal.invariant-loop-place
invariant-loop-place l = first_from 0 l.location l.list ≡ first_from l.place l.location (drop l.place l.list)

abbrev pub decreases-loop-place : goal.decreases-loop-place
decreases-loop-place l = length l.list - l.place
