use mathlib.Core.Path.{ap, ◌∙◌}
use native.Mathlib.Omega.{arith}
use lib.ListN.{length}
use Rattle.reader.specs.Reader.{front_of}
use Rattle.reader.proofs.Laws.{counted_all, counted_more}
use Rattle.reader.proofs.whole_events.Goals as goal

pub returns : goal.returns
returns c =
    let kept = c.loop-events.invariant in
    counted_all c.loop-events.reader _ kept.1 _ _ c.next.ensures c.loop-events-test.ensures.value ∙ ap front_of kept.0

-- a step that gives an event leads on, within the bytes
pub loop-events-smaller : goal.loop-events-smaller
loop-events-smaller c =
    let kept = c.loop-events.invariant in
    let more = counted_more c.loop-events.reader _ kept.1 _ _ c.next.ensures c.loop-events-test.ensures.value in
    omega (arith, ap length kept.0, ap length more.0)

pub loop-events-preserved : goal.loop-events-preserved
loop-events-preserved c =
    let kept = c.loop-events.invariant in
    let more = counted_more c.loop-events.reader _ kept.1 _ _ c.next.ensures c.loop-events-test.ensures.value in
    (more.0 ∙ kept.0, more.2)
