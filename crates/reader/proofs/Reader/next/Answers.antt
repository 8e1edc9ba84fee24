-- By what is read at the place: an event leads past its bytes, which lie within the slice.
use mathlib.Core.Path.{ap}
use native.Mathlib.Omega.{arith}
use lib.ListN.{length, length-drop}
use Rattle.rules.proofs.Events.{got_taken}
use Rattle.reader.proofs.Reader.next.Goals as goal

pub overflow_add-self : goal.overflow_add-self
overflow_add-self c =
    let there = got_taken _ c.read.ensures c.in_ok-got.was in
    let left = simp length-drop at (ap (λ z. length z.bytes) c.left.ensures) in
    omega arith
