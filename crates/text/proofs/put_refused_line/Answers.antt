-- Where the buffer has room, the line stands over its front; else it is refused.
use borrow.Author.Rules.{rules}
use mathlib.Core.Path.{sym}
use mathlib.Core.List.{[]}
use Rattle.text.specs.Text.{refused_line, refused_in}
use Rattle.text.proofs.Laws.{puts_then, left_so}
use Rattle.text.proofs.Curves.{in_short, in_room}
use Rattle.text.proofs.put_refused_line.Goals as goal

pub returns-then-out-lt-LONGEST_REFUSED : goal.returns-then-out-lt-LONGEST_REFUSED
unfolding refused_in
returns-then-out-lt-LONGEST_REFUSED c = sym (in_short [] _ (refused_line c.args.number c.args.place) _ tt c.if-out-lt-LONGEST_REFUSED.true)

pub returns : goal.returns
unfolding refused_in refused_line
returns c =
    let line = puts_then c.put_both.ensures.puts (puts_then c.put_both-2.ensures.puts c.put.ensures) in
    in_room [] _ _ _ tt c.if-out-lt-LONGEST_REFUSED.false (left_so line.adds (search rules))
