-- The settings after defaults are judged: out of range, tables too short, and else the fresh start that `begin` makes.
use mathlib.Core.Path.{sym, ◌∙◌}
use Rattle.setup.proofs.Laws.{started_is, setup_no_range, setup_no_room, setup_made}
use Rattle.setup.proofs.setup.Goals as goal

pub returns-then-out_of_range : goal.returns-then-out_of_range
returns-then-out_of_range c = setup_no_range _ _ c.with_defaults-s.ensures _ (sym c.out_of_range.ensures ∙ c.if-out_of_range.true)

pub returns-then-too_short : goal.returns-then-too_short
returns-then-too_short c =
    setup_no_room _ _ c.with_defaults-s.ensures _ (sym c.out_of_range.ensures ∙ c.if-out_of_range.false) (sym c.too_short.ensures ∙ c.if-too_short.true)

pub returns : goal.returns
returns c =
    started_is _ c.begin.ensures.value c.begin.ensures.thresholds_value
    ∙ setup_made _ _ c.with_defaults-s.ensures _ (sym c.out_of_range.ensures ∙ c.if-out_of_range.false) (sym c.too_short.ensures ∙ c.if-too_short.false)
