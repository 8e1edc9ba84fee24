-- The digits that `decimal` makes are the number's decimal, and at most 20 (`decimal_spelled`).
use borrow.Author.Rules.{rules}
use mathlib.Core.Path.{◌∙◌}
use Rattle.text.proofs.Laws.{decimal_spelled}
use Rattle.text.proofs.Page.put_number.Goals as goal

pub returns-clause-puts : goal.returns-clause-puts
returns-clause-puts c =
    let made = c.decimal-count in
    let told = decimal_spelled made.result c.args.n (search rules) made.ensures.len in
    rw (← (made.ensures.digits ∙ told.are)) c.put.ensures
