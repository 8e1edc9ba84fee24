-- What is got fits its bytes.
use Rattle.std.proofs.Common.{min, arith}
use Rattle.little_endian.proofs.Laws.{got_small}
use Rattle.little_endian.proofs.get.Goals as goal

pub returns-clause-small : goal.returns-clause-small
returns-clause-small g c =
    rw (c.number_in.ensures, c.min.ensures) (got_small (min g.row.N 8) c.args.at c.args.bytes.now (λ i. let h = c.type_inv.bytes i in omega arith))
