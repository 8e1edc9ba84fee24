-- At the end of the input its text is put.
use mathlib.Core.Path.{sym, ap, ◌∙◌}
use native.Mathlib.Omega.{arith}
use lib.Seq.{length-take-le}
use Rattle.std.specs.Prelude.{Ok}
use Rattle.curve.proofs.Input.{follows_end}
use Rattle.curve.proofs.after_read.Goals as goal

pub returns-in-Ok-eq0 : goal.returns-in-Ok-eq0
returns-in-Ok-eq0 c =
    let args = c.args in
    let got = c.in-Ok-eq0.is ∙ ap Ok (sym c.in-Ok-eq0.field-0-is ∙ c.in-Ok-eq0.field-0-test) in
    let rest = length-take-le args.turn.pause.left args.buffer.now (omega (arith, c.args.turn.ready.short, c.told-buffer)) in
    rw got (λ first input w. follows_end w rest c.put_end.ensures)
