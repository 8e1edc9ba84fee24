-- The record is judged: torn, tables too short for its settings, and else the fresh start that `begin` makes of them.
use mathlib.Core.Path.{sym, ◌∙◌}
use Rattle.setup.proofs.Laws.{started_is}
use Rattle.rules.specs.Layout.{tables_of}
use Rattle.rules.proofs.Bounds.{whole, buckets_none_short}
use Rattle.rules.proofs.Calls.{restart_torn, restart_short, restart_accept}
use Rattle.setup.proofs.restart.Goals as goal

pub returns-then-torn : goal.returns-then-torn
returns-then-torn c = sym (restart_torn _ _ (sym c.torn.ensures ∙ c.if-torn.true))

pub returns-then-too_short : goal.returns-then-too_short
returns-then-too_short c =
    let not_torn = sym c.torn.ensures ∙ c.if-torn.false in
    sym (restart_short _ _ not_torn (sym c.too_short.ensures ∙ c.if-too_short.true))

pub begin-requires : goal.begin-requires
begin-requires c =
    let a = c.args in
    let not_torn = sym c.torn.ensures ∙ c.if-torn.false in
    ((whole _ not_torn).settings_whole, buckets_none_short a.kept.settings (tables_of a.locations.now a.counts.now a.thresholds.now) (sym c.too_short.ensures ∙ c.if-too_short.false))

pub returns : goal.returns
returns c =
    let not_torn = sym c.torn.ensures ∙ c.if-torn.false in
    started_is _ c.begin.ensures.value c.begin.ensures.thresholds_value
    ∙ sym (restart_accept _ _ not_torn (sym c.too_short.ensures ∙ c.if-too_short.false))
