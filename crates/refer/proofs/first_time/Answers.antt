-- The bucket is that of a first reference. It is recorded in before anything else is written: where that is refused nothing has changed, and
-- else the location enters the list.
use native.Mathlib.Omega.{arith}
use Rattle.std.proofs.lemmas.Result.{err_from_is_err_and}
use mathlib.Core.Path.{refl}
use Rattle.refer.proofs.OneReference.{bounds, countable, nothing_recorded, first_done}
use Rattle.refer.proofs.first_time.Goals as goal

pub overflow_cast-references : goal.overflow_cast-references
overflow_cast-references c =
    let a = c.args in
    let b = bounds a.location a.kept.now a.locations.now a.counts.now a.thresholds.now c.requires.0 in
    omega (arith, b.references_high)

pub count-requires : goal.count-requires
count-requires c =
    let a = c.args in
    countable a.location a.kept.now a.locations.now a.counts.now a.thresholds.now c.requires.0

pub returns : goal.returns
returns c =
    rw c.count.ensures (first_done _ _ _ _ _ c.requires.0 c.requires.1
    _ _ _ c.in_ok-record_in.ensures
    _ c.enter-entered.ensures)

pub returns-in_err-record_in : goal.returns-in_err-record_in
returns-in_err-record_in c =
    let passed = err_from_is_err_and c.from_residual.result c.from_residual.ensures.1 in
    rw (passed.1, passed.2) (nothing_recorded _ _ _ _ _ c.requires.0 _ c.requires.1
    _ refl
    _ _ c.in_err-record_in.ensures)
