-- The first byte is the kind, and each kind's reader promises what the definition gives for it; with no byte, and for any other kind, the
-- definition refuses.
use mathlib.Core.Path.{refl, sym, ◌∙◌}
use Rattle.std.proofs.lemmas.Result.{err_from_is_err_and}
use Rattle.rules.proofs.Events.{whole_fits}
use Rattle.reading.proofs.Laws.{read_none, there, read_known, read_unknown}
use Rattle.reading.proofs.read.Goals as goal

pub returns-in_err-first : goal.returns-in_err-first
returns-in_err-first c =
    let none = c.in_err-first.ensures in
    let p = err_from_is_err_and c.from_residual.result c.from_residual.ensures.1 in
    rw (p.1, p.2) (read_none c.args.bytes.now c.first.ensures.value none.value none.ok_part)

pub returns-in_err-try_from : goal.returns-in_err-try_from
returns-in_err-try_from c =
    let p = err_from_is_err_and c.from_residual-in_err-try_from.result c.from_residual-in_err-try_from.ensures.1 in
    rw (p.1, p.2) (read_unknown c.args.bytes.now c.first.ensures.value c.in_ok-first.ensures.ok_part c.in_err-try_from.ensures)

pub returns-in-Location : goal.returns-in-Location
returns-in-Location c =
    c.read_location.ensures
    ∙ sym (read_known c.args.bytes.now c.first.ensures.value c.in_ok-first.ensures.ok_part c.in_ok-try_from.ensures c.in-Location.is)

pub returns-in-Span : goal.returns-in-Span
returns-in-Span c =
    c.read_span.ensures
    ∙ sym (read_known c.args.bytes.now c.first.ensures.value c.in_ok-first.ensures.ok_part c.in_ok-try_from.ensures c.in-Span.is)

pub returns-in-Restart : goal.returns-in-Restart
returns-in-Restart c =
    whole_fits 1 c.args.bytes.now refl refl (there c.args.bytes.now c.first.ensures.value c.in_ok-first.ensures.ok_part)
    ∙ sym (read_known c.args.bytes.now c.first.ensures.value c.in_ok-first.ensures.ok_part c.in_ok-try_from.ensures c.in-Restart.is)

pub returns-in-Setup : goal.returns-in-Setup
returns-in-Setup c =
    c.read_setup.ensures
    ∙ sym (read_known c.args.bytes.now c.first.ensures.value c.in_ok-first.ensures.ok_part c.in_ok-try_from.ensures c.in-Setup.is)
