-- Each event is put by its own function: the room asked for is that event's, and what it leaves are that event's bytes.
use Rattle.writing.proofs.put.Goals as goal

pub returns-in-Span : goal.returns-in-Span
returns-in-Span c = rw c.in-Span.is c.put_span.ensures

pub returns-in-Setup : goal.returns-in-Setup
returns-in-Setup c = rw c.in-Setup.is c.put_setup.ensures
