use mathlib.Core.Path.{sym}
use Rattle.std.proofs.lemmas.Result.{err_from_is_err_and}
use Rattle.rules.proofs.Spans.{goes_on, goes_refused, goes_whole}
use Rattle.apply.proofs.refer_each.Goals as goal

pub returns-in_err-refer_one : goal.returns-in_err-refer_one
returns-in_err-refer_one c =
    let passed = err_from_is_err_and c.from_residual.result c.from_residual.ensures.1 in
    rw (passed.1, passed.2) (goes_refused c.loop-i.invariant c.loop-i-test.true c.in_err-refer_one.ensures)

pub loop-i-preserved : goal.loop-i-preserved
loop-i-preserved c = goes_on c.loop-i.invariant c.loop-i-test.true c.in_ok-refer_one.ensures

pub returns : goal.returns
returns c = sym (goes_whole c.loop-i.invariant c.loop-i-test.false)
