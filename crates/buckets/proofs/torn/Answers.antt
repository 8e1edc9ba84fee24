use mathlib.Core.Path.{refl}
use Rattle.rules.specs.Conditions.{torn_bucket}
use Rattle.buckets.proofs.torn.Goals as goal

pub returns : goal.returns
unfolding torn_bucket
returns c = refl
