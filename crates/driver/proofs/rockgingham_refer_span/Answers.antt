-- 10 first, then words that are too few; else the span's event is written and fed.
use mathlib.Core.Path.{refl, sym, ◌∙◌}
use Rattle.rules.specs.Layout.{tables_of}
use Rattle.driver.specs.Calls.{held}
use Rattle.driver.proofs.Laws.{span_written, span_fed}
use Rattle.driver.proofs.rockgingham_refer_span.Goals as goal

pub returns : goal.returns
returns c =
    let a = c.args in
    let within = sym c.overruns.ensures ∙ c.if-overruns.false in
    span_fed a.offset a.length (held a.words.now (tables_of a.locations.now a.counts.now a.thresholds.now)) within
    (sym c.too_few.ensures ∙ c.if-too_few.false)
    c.write.ensures.fits (span_written a.offset a.length _ within refl refl c.write.ensures.buffer_after)
    c.feed_stored.ensures refl
