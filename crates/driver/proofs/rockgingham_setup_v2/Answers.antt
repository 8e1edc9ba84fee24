-- Words that are too few are told as the settings allow; else the call is `setup` of the settings passed, and what it answers is stored.
use mathlib.Core.Path.{sym, ◌∙◌}
use Rattle.driver.proofs.Laws.{setup_stored}
use Rattle.driver.proofs.rockgingham_setup_v2.Goals as goal

pub returns : goal.returns
returns c =
    setup_stored _ _ (sym c.too_few.ensures ∙ c.if-too_few.false)
    (rw c.from-settings.ensures at c.setup-started.ensures) c.store_started.ensures
