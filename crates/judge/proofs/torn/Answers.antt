use Rattle.rules.specs.Conditions.{torn_record}
use Rattle.judge.proofs.torn.Goals as goal

pub returns : goal.returns
unfolding torn_record
returns c = rw c.out_of_range.ensures
