-- The read writes behind the bytes left over only, and what follows it is `after_read`'s.
use Prim.Native.Nat.{◌-◌}
use borrow.Rule.Slice.PartMut.{take_put}
use borrow.Author.Rules.{rules}
use Rattle.curve.proofs.one_read.Goals as goal

pub returns : goal.returns
returns c =
    let args = c.args in
    record {
      buffer = _;
      front = take_put args.turn.pause.left (65536 - args.turn.pause.left) args.buffer.now c.read-got.new.buf (search rules);
      got = c.read-got.result;
      follows = c.after_read.ensures;
    }
