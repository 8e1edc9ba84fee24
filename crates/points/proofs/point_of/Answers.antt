-- Both branches are the definition's, by the test on the total.
use borrow.Author.Tests.{ne_eqb}
use Rattle.points.proofs.point_of.Goals as goal

pub returns : goal.returns
returns c = rw (ne_eqb _ _ c.if-sums-eq0.false, c.size_of.ensures 0)
