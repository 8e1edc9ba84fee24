-- The entries that stay. The loop's invariant: those of the first i stand over the front.
use Rattle.rules.specs.Settings.{hash_of}
use Rattle.rules.specs.Reference.{under}
use Rattle.live.proofs.Laws.{Keeping}
use Rattle.live.proofs.keep_below.Given as goal

abbrev pub invariant-loop-i : goal.invariant-loop-i
invariant-loop-i l = Keeping (under (hash_of l.hashing) l.threshold) l.initial.list l.list l.number l.i
