-- An event that is one reference. Assumes nothing.
use Rattle.std.specs.Prelude.{Option, None, cond, eqb}
use Rattle.rules.specs.declared.Record.{Record}
use Rattle.rules.specs.declared.Event.{Event}
use Rattle.rules.specs.declared.Event.TheVariants as event
use Rattle.rules.specs.Events.{block_of, blocks_in, overrun}
use Rattle.rules.specs.Layout.{Tracker}
use Rattle.refer.specs.Refer.{skip_of}

-- the record after an event that is one reference, accepted and Skipped
abbrev pub skip_event : Event → Tracker → Option Record
skip_event (event.Location location) s = skip_of location s
skip_event (event.Span offset bytes) s =
    cond (overrun offset bytes) None (cond (eqb (blocks_in offset bytes) 1) (skip_of (block_of offset) s) None)
skip_event event.Restart s = None
skip_event (event.Setup body) s = None
