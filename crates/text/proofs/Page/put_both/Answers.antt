use Rattle.text.proofs.Laws.{puts_then}
use Rattle.text.proofs.Page.put_both.Goals as goal

pub returns-clause-puts : goal.returns-clause-puts
returns-clause-puts c = puts_then c.put.ensures c.put_number.ensures.puts
