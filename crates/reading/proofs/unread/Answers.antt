-- What was read says how many bytes to leave out: those of the event, which lie within the bytes.
use native.Mathlib.Omega.{arith}
use Rattle.std.proofs.Common.{rules, ◌∙◌, ap}
use Rattle.rules.specs.Events.{unread_after}
use Rattle.rules.specs.Layout.{tail_of}
use Rattle.rules.proofs.Events.{got_taken}
use Rattle.rules.proofs.Tables.{tail_from}
use Rattle.reading.proofs.unread.Goals as goal

pub slice_bounds-result-count : goal.slice_bounds-result-count
slice_bounds-result-count c = omega (arith, got_taken _ c.read.ensures c.in-Ok.is)

pub slice_bounds-result-start : goal.slice_bounds-result-start
slice_bounds-result-start c = let there = got_taken _ c.read.ensures c.in-Ok.is in search rules

pub returns-in-Ok : goal.returns-in-Ok
returns-in-Ok c =
    let bytes = c.args.bytes in
    let there = got_taken _ c.read.ensures c.in-Ok.is in
    tail_from bytes c.in-Ok.got.taken there.1 ∙ ap (λ q. tail_of bytes (unread_after q bytes.now)) c.in-Ok.ensures
