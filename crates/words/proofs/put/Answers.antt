use mathlib.Core.Path.{sym, ap, ◌∙◌}
use native.Mathlib.Omega.{arith}
use lib.ListN.{length, length-set}
use borrow.Author.Tests.{ltb-false}
use Rattle.words.proofs.Laws.{one_more}
use Rattle.words.proofs.put.Goals as goal

pub loop-i-preserved : goal.loop-i-preserved
loop-i-preserved c = (
  rw length-set c.loop-i.invariant.0,
  one_more _ _ _ _ (ap length c.words_of-new.ensures) (ltb-false _ 9 (sym c.too_few.ensures ∙ c.if-too_few.false)) (omega arith) c.loop-i.invariant.1,
)
