-- Four words with their numbers and the line's end, one behind another, by `puts_then`.
use Rattle.text.proofs.Laws.{puts_then}
use Rattle.text.proofs.Page.put_first_line.Goals as goal

pub returns-clause-puts : goal.returns-clause-puts
returns-clause-puts c =
    puts_then c.put_both.ensures.puts
    (puts_then c.put_both-2.ensures.puts (puts_then c.put_both-3.ensures.puts (puts_then c.put_both-4.ensures.puts c.put.ensures)))
