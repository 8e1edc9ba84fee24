-- First whether the event overruns, then its size: a buffer that is too short is refused, and else `put` fills it.
use mathlib.Core.Path.{sym, ◌∙◌}
use Rattle.rules.proofs.Events.{write_overrun, write_short, write_done}
use Rattle.writing.proofs.write.Goals as goal

pub returns-then-overruns-clause-buffer_after : goal.returns-then-overruns-clause-buffer_after
returns-then-overruns-clause-buffer_after c = sym (write_overrun _ _ (sym c.overruns.ensures ∙ c.if-overruns.true))

pub returns-then-buffer-filled-clause-buffer_after : goal.returns-then-buffer-filled-clause-buffer_after
returns-then-buffer-filled-clause-buffer_after c =
    sym (write_short _ _ (sym c.overruns.ensures ∙ c.if-overruns.false) (rw (← c.size-filled.ensures) c.if-buffer-filled.true))

pub returns-clause-buffer_after : goal.returns-clause-buffer_after
returns-clause-buffer_after c =
    write_done _ _ (sym c.overruns.ensures ∙ c.if-overruns.false) c.size-filled.ensures c.if-buffer-filled.false c.put.ensures
