-- The buffer has room for the line, so that it is not refused.
use native.Mathlib.Omega.{arith}
use Rattle.curve.proofs.Input.{refused_stands, refusal_put}
use Rattle.curve.proofs.put_refusal.Goals as goal

pub unwrap-requires : goal.unwrap-requires
unwrap-requires c =
    refusal_put c.into.result c.args.place c.args.out.now c.put_refused_line.result (omega (arith, c.told-out)) c.put_refused_line.ensures

pub returns : goal.returns
returns c =
    let args = c.args in
    rw (← c.into.ensures)
    (refused_stands args.out.now c.into.result args.place (rw c.unwrap.ensures at c.put_refused_line.ensures))
