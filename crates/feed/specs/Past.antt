-- The history that events stand for, and the events that bytes stand for. Assumes nothing.
use Rattle.std.specs.Prelude.{ℕ, ◌≡◌, Bool, true, false, ◌||◌, List, [], ◌∷◌, ◌++◌, take, drop}
use Rattle.rules.specs.declared.Event.{Event}
use Rattle.rules.specs.declared.Event.TheVariants.{Location, Span, Restart, Setup}
use Rattle.rules.specs.Answers.{Result, refused, gives}
use Rattle.rules.specs.declared.Got.{Got}
use Rattle.rules.specs.Events.{read_of, references_of, fresh_start}
use Rattle.rules.specs.Layout.{Tracker}
use Rattle.rules.specs.History.{Reference}
use Rattle.demands.specs.Runs.{Run, onto}
use Rattle.demands.specs.Spans.{Made}
use Rattle.demands.specs.Needed.{SameBeyond, most_needed}
use Rattle.feed.specs.Feed.{Feeding, TakenAlone}

-- the references since the last fresh start, newest first, after one more event
abbrev pub past_after : Event → List Reference → List Reference
past_after (Location x) past = onto (references_of (Location x)) past
past_after (Span offset bytes) past = onto (references_of (Span offset bytes)) past
past_after Restart past = []
past_after (Setup b) past = []

-- the same after several events, in order
abbrev pub past_of : List Event → List Reference → List Reference
past_of [] past = past
past_of (e ∷ es) past = past_of es (past_after e past)

-- whether one of the events is a fresh start
abbrev pub any_fresh_start : List Event → Bool
any_fresh_start [] = false
any_fresh_start (e ∷ es) = fresh_start e || any_fresh_start es

-- the bytes consist of exactly these events, one after the other
pub data Events : List ℕ → List Event → Type 0 where
  none : Events [] []
  one : {bytes : List ℕ} {g : Got} {es : List Event} → read_of bytes ≡ gives g → Events (drop g.taken bytes) es → Events bytes (g.event ∷ es)

-- the references of the first event, if it can be read
abbrev pub references_next : Result Got → List Reference
references_next (refused n) = []
references_next (gives g) = references_of g.event

-- what feeding s left: with the events that were taken, and then the accepted references of one that was refused, it continues any run that
-- left s; and if one of the events was a fresh start, it is what a run left, whatever s was; entries past the most that any settings needed
-- under which an event was taken or a reference made are as they were
pub record Ran (bytes : List ℕ) (s : Tracker) (f : Feeding) : Type 0 where
  pub events : List Event
  pub are : Events (take f.taken bytes) events
  -- what the bytes taken leave, and the references of the event behind them that were then made, which come first among its own
  pub alone : TakenAlone bytes s f
  pub made : List Reference
  pub rest : List Reference
  pub accepted : Made made alone.between f.left
  pub first_part : made ++ rest ≡ references_next (read_of (drop f.taken bytes))
  pub continued : (past : List Reference) → Run past s → Run (onto made (past_of events past)) f.left
  pub from_fresh_start : any_fresh_start events ≡ true → (past : List Reference) → Run (onto made (past_of events past)) f.left
  pub only_needed : SameBeyond (most_needed events made s.kept.settings) s.tables f.left.tables
