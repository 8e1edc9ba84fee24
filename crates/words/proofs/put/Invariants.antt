-- The loop keeps: the first i words are the record's, and the others are as they were.
use mathlib.Core.Path.{◌≡◌}
use lib.ListN.{length, take}
use Rattle.rules.specs.Lists.{over}
use Rattle.words.proofs.put.Given as goal

abbrev pub invariant-loop-i : goal.invariant-loop-i
invariant-loop-i l = (length l.words ≡ length l.initial.words) × (l.words ≡ over (take l.i l.new) l.initial.words)
