-- What is filled is the curve. The buffer has room for it, so that what is refused is the curve itself, and its line is put.
use native.Mathlib.Omega.{arith}
use Rattle.rules.specs.Layout.{buckets_of}
use Rattle.curve.proofs.Input.{curve_stands, curve_refused}
use Rattle.curve.proofs.put_curve_or_refusal.Goals as goal

pub returns-in-Ok : goal.returns-in-Ok
returns-in-Ok c =
    let args = c.args in
    curve_stands args.out.now args.kept (buckets_of args.counts.now args.thresholds.now) args.place c.in-Ok.ensures

pub returns-in-Err : goal.returns-in-Err
returns-in-Err c =
    let args = c.args in
    rw (curve_refused args.out.now args.kept (buckets_of args.counts.now args.thresholds.now) (omega arith) (omega arith) c.in-Err.ensures)
    c.put_refusal.ensures
