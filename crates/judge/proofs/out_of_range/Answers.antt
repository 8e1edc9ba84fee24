use Rattle.rules.specs.Settings.{out_of_range}
use Rattle.judge.proofs.out_of_range.Goals as goal

pub returns : goal.returns
unfolding out_of_range
returns c =
    rw (c.outside.ensures, c.outside-2.ensures, c.outside-3.ensures, c.outside-4.ensures)
