-- Words that are too few are refused; else the words' own record is skipped, or the call is `refer` of it, and its record is stored by what
-- is given.
use mathlib.Core.Path.{sym, ◌∙◌}
use Rattle.rules.specs.Layout.{tables_of}
use Rattle.refer.proofs.OneReference.{skip_is}
use Rattle.driver.specs.Calls.{held}
use Rattle.driver.proofs.Laws.{refer_skipped, refer_stored}
use Rattle.driver.proofs.rockgingham_refer.Goals as goal

pub returns-in-Some : goal.returns-in-Some
returns-in-Some c =
    let a = c.args in
    refer_skipped _ (held a.words.now (tables_of a.locations.now a.counts.now a.thresholds.now))
    (sym c.too_few.ensures ∙ c.if-too_few.false)
    (skip_is _ _ _ _ _
    (rw c.record_of-kept.ensures at c.in-Some.ensures))
    c.from-in-Some.ensures c.store_if.ensures

pub returns : goal.returns
returns c =
    let a = c.args in
    refer_stored _ (held a.words.now (tables_of a.locations.now a.counts.now a.thresholds.now)) _
    (sym c.too_few.ensures ∙ c.if-too_few.false)
    (rw c.record_of-kept.ensures at c.refer-answer.ensures)
    c.into.ensures (rw c.is_ok.ensures.value at c.store_if-2.ensures)
