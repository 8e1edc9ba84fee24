-- The size, the two other numbers behind it, and the line's end, by `puts_then`.
use Rattle.text.proofs.Laws.{puts_then}
use Rattle.text.proofs.Page.put_point_line.Goals as goal

pub returns-clause-puts : goal.returns-clause-puts
returns-clause-puts c =
    puts_then c.put_number.ensures.puts (puts_then c.put_both.ensures.puts (puts_then c.put_both-2.ensures.puts c.put.ensures))
