-- Skipped, or by what `refer` answers.
use Rattle.std.proofs.lemmas.Result.{err_from_is_err_and}
use Rattle.apply.proofs.Applying.{one_accepted, one_refused, one_skipped}
use Rattle.apply.proofs.refer_one.Goals as goal

pub returns-in-Some : goal.returns-in-Some
returns-in-Some c = one_skipped _ _ _ _ _ c.in-Some.ensures

pub returns-in_err-refer : goal.returns-in_err-refer
returns-in_err-refer c =
    let passed = err_from_is_err_and c.from_residual.result c.from_residual.ensures.1 in
    rw (passed.1, passed.2) (one_refused _ _ c.in_err-refer.ensures)

pub returns : goal.returns
returns c = one_accepted _ _ c.in_ok-refer.ensures
