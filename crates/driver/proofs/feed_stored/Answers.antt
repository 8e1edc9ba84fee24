-- The call is `feed` of the words' own record, which is stored if an event was taken or a reference made.
use Rattle.rules.specs.Layout.{tables_of}
use Rattle.driver.specs.Calls.{held}
use Rattle.driver.proofs.Laws.{feed_stored}
use Rattle.driver.proofs.feed_stored.Goals as goal

pub returns : goal.returns
returns c =
    let a = c.args in
    feed_stored _ (held a.words.now (tables_of a.locations.now a.counts.now a.thresholds.now))
    (rw c.record_of-before.ensures at c.feed-fed.ensures)
    c.into.ensures (rw c.record_of-before.ensures at c.store_if.ensures)
