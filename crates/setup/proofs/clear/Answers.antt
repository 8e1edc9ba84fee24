use native.Mathlib.Omega.{arith}
use Rattle.rules.proofs.Tables.{fill_more}
use Rattle.setup.proofs.clear.Goals as goal

pub loop-i-preserved : goal.loop-i-preserved
loop-i-preserved c =
    let turn = c.loop-i.invariant in
    (fill_more _ _ _ _ (omega arith) turn.0, fill_more _ _ _ _ (omega arith) turn.1)
