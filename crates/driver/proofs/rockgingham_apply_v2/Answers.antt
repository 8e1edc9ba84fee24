-- Words that are too few are refused. Else by what `read` answered: an event, which is fed alone; or a refusal, which is handed on.
use mathlib.Core.Path.{sym, ◌∙◌}
use lib.Seq.{length-take-le}
use Rattle.rules.specs.Layout.{tables_of}
use Rattle.rules.proofs.Events.{taken}
use Rattle.driver.specs.Calls.{held}
use Rattle.driver.proofs.Laws.{apply_fed}
use Rattle.driver.proofs.rockgingham_apply_v2.Goals as goal

pub slice_bounds-feed_stored-end : goal.slice_bounds-feed_stored-end
slice_bounds-feed_stored-end c = sym (length-take-le _ _ (taken _ (sym c.in-Ok.ensures)).1)

pub returns-in-Ok : goal.returns-in-Ok
returns-in-Ok c =
    let a = c.args in
    apply_fed _ (held a.words.now (tables_of a.locations.now a.counts.now a.thresholds.now))
    (sym c.too_few.ensures ∙ c.if-too_few.false)
    (sym c.in-Ok.ensures) c.feed_stored.ensures
    c.into-in-Ok.ensures
