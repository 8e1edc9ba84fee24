-- Each test that stops it shows a condition of the definition to hold; with none, the reference is counted and no more.
use native.Mathlib.Omega.{arith}
use mathlib.Core.Path.{sym, ◌∙◌}
use Rattle.refer.proofs.OneReference.{room_for}
use Rattle.refer.proofs.skip.Goals as goal

pub count-requires : goal.count-requires
count-requires c = room_for _ _ (sym c.torn.ensures ∙ c.if-torn.false) (sym c.is_full.ensures ∙ c.if-is_full.false) (omega arith)
