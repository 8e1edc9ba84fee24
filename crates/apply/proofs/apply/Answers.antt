-- By the kind of the event.
use mathlib.Core.Path.{sym, ◌∙◌}
use Rattle.std.proofs.lemmas.Result.{err_from_is_err_and}
use Rattle.apply.proofs.Applying.{restart_done, restart_refused, setup_done, setup_refused, span_refused, location_refers, span_asks}
use Rattle.apply.proofs.apply.Goals as goal
use Rattle.apply.proofs.apply.Goals.{in-Location, in-Span+else-overruns}

pub returns-then-overruns : goal.returns-then-overruns
returns-then-overruns c = rw c.in-Span.is (span_refused _ _ _ (sym c.overruns.ensures ∙ c.if-overruns.true))

pub returns-in_err-kept-in-Restart : goal.returns-in_err-kept-in-Restart
returns-in_err-kept-in-Restart c =
    let passed = err_from_is_err_and c.from_residual.result c.from_residual.ensures.1 in
    rw (passed.1, passed.2, c.in-Restart.is) (restart_refused _ _ _ c.in_err-kept-in-Restart.ensures)

pub returns-in-Restart : goal.returns-in-Restart
returns-in-Restart c = rw c.in-Restart.is (restart_done _ _ _ c.in_ok-kept-in-Restart.ensures)

pub returns-in_err-kept-in-Setup : goal.returns-in_err-kept-in-Setup
returns-in_err-kept-in-Setup c =
    let passed = err_from_is_err_and c.from_residual-in_err-kept-in-Setup.result c.from_residual-in_err-kept-in-Setup.ensures.1 in
    rw (passed.1, passed.2, c.in-Setup.is) (setup_refused _ _ _ _ (rw c.from.ensures at c.in_err-kept-in-Setup.ensures))

pub returns-in-Setup : goal.returns-in-Setup
returns-in-Setup c = rw c.in-Setup.is (setup_done _ _ _ _ (rw c.from.ensures at c.in_ok-kept-in-Setup.ensures))

pub returns : goal.returns
returns c = elim c.match-event.branch [
  | in-Location w ↦ rw w.in-Location.is (location_refers _ _ (rw w.first-is at c.refer_each.ensures))
  | in-Span+else-overruns w ↦ rw w.in-Span.is
      (span_asks _ _ _ (sym w.overruns.ensures ∙ w.if-overruns.false) (rw (w.first-is, w.blocks_in.ensures) at c.refer_each.ensures))
]
