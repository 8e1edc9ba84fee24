-- The kind, the offset behind it, and the length behind both.
use mathlib.Core.Path.{ap}
use mathlib.Core.List.{[], ◌∷◌}
use native.Mathlib.Omega.{arith}
use lib.ListN.{set}
use Rattle.rules.specs.Events.{bytes_of}
use Rattle.little_endian.proofs.Laws.{put_behind}
use Rattle.writing.proofs.put_span.Goals as goal

pub returns : goal.returns
returns c =
    let a = c.args in
    let l = a.buffer.now in
    let offset = put_behind l (2 ∷ []) 8 a.offset (ap (set l 0) c.from.ensures) (omega arith) c.put.ensures in
    put_behind l (2 ∷ bytes_of 8 a.offset) 4 a.bytes offset c.requires (rw c.from-2.ensures at c.put-2.ensures)
