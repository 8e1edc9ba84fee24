-- The curve that the program prints is that of a run, so demands 2 and 3 hold of it. Assumes nothing.
use Rattle.std.specs.Prelude.{◌≡◌, List, [], ℕ}
use Rattle.rules.specs.Settings.{with_defaults}
use Rattle.rules.specs.Answers.{gives}
use Rattle.rules.specs.Layout.{Tracker, fresh}
use Rattle.demands.specs.Runs.{Run, onto}
use Rattle.text.specs.Text.{curve_text}
use Rattle.text.specs.OfRun.{Printable}
use Rattle.feed.specs.declared.End.TheVariants.{Whole}
use Rattle.feed.specs.Feed.{feed_of}
use Rattle.feed.specs.Past.{past_of, Ran}
use Rattle.curve.specs.Program.{first_settings, first_tables, program_of}

-- the fresh start that the program begins with
unfoldable pub start : Tracker
start = fresh (with_defaults first_settings) first_tables

-- the events of an input that are taken, and the accepted references of one that is refused (`Ran`); the run whose references are those since
-- the last fresh start among them; if the input ends after a whole event and none is refused, they are those of events that were taken, and
-- the program prints the curve of what that run left, in so many lines
pub record Printed (input : List ℕ) : Type 0 where
  pub ran : Ran input start (feed_of input start)
  pub run : Run (onto ran.made (past_of ran.events [])) (feed_of input start).left
  pub none_refused : (feed_of input start).result ≡ gives Whole → ran.made ≡ []
  pub text : (feed_of input start).result ≡ gives Whole
      → program_of input ≡ curve_text (feed_of input start).left.kept (feed_of input start).left.tables.histogram
  pub lines : Printable (feed_of input start).left.kept (feed_of input start).left.tables.histogram
