-- The C calls, in terms of the rules. Assumes nothing.
use Rattle.std.specs.Prelude.{ℕ, cond, List, [], ◌∷◌, ◌++◌}
use Rattle.rules.specs.declared.Settings.{Settings}
use Rattle.rules.specs.declared.Shape.{Shape}
use Rattle.rules.specs.declared.SetupBody.{SetupBody}
use Rattle.rules.specs.declared.Event.{Event}
use Rattle.rules.specs.declared.Refusal.TheVariants as refusal
use Rattle.rules.specs.Settings.{hash_of, with_defaults, out_of_range, Histogram, Tables}
use Rattle.rules.specs.Answers.{Result, refused, gives, number, number_of}
use Rattle.rules.specs.declared.Got.{Got}
use Rattle.rules.specs.Order.{Outcome, outcome, Judged, ◌when◌, by_order}
use Rattle.rules.specs.Events.{overrun, write_of, read_of}
use Rattle.rules.specs.Layout.{Tracker, fresh}
use Rattle.rules.specs.Calls.{setup_order, restart_over, refer_of, span_of, point_of, plot_of, apply_of}
use Rattle.feed.specs.Feed.{Feeding, feed_of}
use Rattle.words.specs.declared.AnswerWords.{AnswerWords}
use Rattle.words.specs.declared.PointWords.{PointWords}
use Rattle.words.specs.declared.PlotWords.{PlotWords}
use Rattle.words.specs.declared.EventWords.{EventWords}
use Rattle.words.specs.declared.AppliedWords.{AppliedWords}
use Rattle.words.specs.declared.WrittenWords.{WrittenWords}
use Rattle.words.specs.declared.FedWords.{FedWords}
use Rattle.words.specs.Words.{few_words, record_of, put, Returned, returned}
use Rattle.words.specs.Words.{answer_words, point_words, plot_words, event_words, applied_words, written_words, fed_words}

-- the version of the interface
abbrev pub version : ℕ
version = 2

-- the hash of a location
abbrev pub hash_in : (kind location : ℕ) → ℕ
hash_in kind location = hash_of (record { kind = kind }) location

-- ---- what a caller holds: the words of a record, as many as it lends, and the tables

pub record Held : Type 0 where
  pub words : List ℕ
  pub tables : Tables

abbrev pub held : (words : List ℕ) → Tables → Held
held words tables = record { words = words; tables = tables }

-- the tracker that it stands for
abbrev pub tracker_in : Held → Tracker
tracker_in h = record { kept = record_of h.words; tables = h.tables }

-- ---- what a call returns and leaves, from the outcome that the rules prescribe

-- what the call gives, as words
abbrev pub returning : {A B S : Type 0} → (Result A → B) → Outcome A S → Returned B S
returning words o = returned (words o.result) o.left

-- the words of the record that the call leaves, also beside a refusal: a refused call but that of a span leaves the record as it was
abbrev pub keeping : {A : Type 0} → Held → Outcome A Tracker → Outcome A Held
keeping h o = outcome o.result (held (put o.left.kept h.words) o.left.tables)

-- too few words for a record: 2, before all else that the call judges; setup is below, and a span that overruns is refused 10 before
abbrev pub on_held : {A : Type 0} → (Tracker → Outcome A Tracker) → Held → Outcome A Held
on_held call h = cond (few_words h.words) (outcome (refused 2) h) (keeping h (call (tracker_in h)))

abbrev pub on_words : {A : Type 0} → List ℕ → Result A → Result A
on_words w result = cond (few_words w) (refused 2) result

-- ---- starts and references

-- setup: 1, then 2, for the words as for the tables
abbrev pub setup_in_order : Settings → Held → List Judged
setup_in_order given h = setup_order given h.tables ++ (refusal.Tables when few_words h.words) ∷ []

abbrev pub setup_held : Settings → Held → Outcome (Unit {0}) Held
setup_held given h =
    let after = fresh (with_defaults given) h.tables in
    by_order (setup_in_order given h) tt h (held (put after.kept h.words) after.tables)

-- where the words are too few
abbrev pub few_for_setup : Settings → ℕ
few_for_setup given = cond (out_of_range (with_defaults given)) (number refusal.Settings) (number refusal.Tables)

abbrev pub setup_in : Settings → Held → Returned ℕ Held
setup_in given h = returning number_of (setup_held given h)

abbrev pub restart_in : Held → Returned ℕ Held
restart_in h = returning number_of (on_held restart_over h)

abbrev pub refer_in : (location : ℕ) → Held → Returned AnswerWords Held
refer_in x h = returning answer_words (on_held (refer_of x) h)

-- an I/O: 10 before all else
abbrev pub span_in : (offset bytes : ℕ) → Held → Returned ℕ Held
span_in offset bytes h = returning number_of (cond (overrun offset bytes) (outcome (refused 10) h) (on_held (span_of offset bytes) h))

-- ---- points

abbrev pub point_in : (words : List ℕ) → Shape → (point : ℕ) → Histogram → PointWords
point_in w believed k g = point_words (on_words w (point_of (record_of w) believed k g))

abbrev pub plot_in : (words : List ℕ) → Shape → (point : ℕ) → Histogram → PlotWords
plot_in w believed k g = plot_words (on_words w (plot_of (record_of w) believed k g))

-- ---- trace events

-- a call that is accepted gives this instead
abbrev pub giving : {A B : Type 0} → B → Result A → Result B
giving b (refused n) = refused n
giving b (gives a) = gives b

-- an event that was read, applied; it gives the number of bytes that the event took
abbrev pub apply_got : Result Got → Tracker → Outcome ℕ Tracker
apply_got (refused n) s = outcome (refused n) s
apply_got (gives g) s = outcome (giving g.taken (apply_of g.event s).result) (apply_of g.event s).left

abbrev pub apply_in : (bytes : List ℕ) → Held → Returned AppliedWords Held
apply_in bytes h = returning applied_words (on_held (apply_got (read_of bytes)) h)

-- what the events before a refused one did stays, and so do the references of the refused one that were accepted
abbrev pub fed_in : Held → Feeding → Returned FedWords Held
fed_in h f = returned (fed_words f.taken f.result) (held (put f.left.kept h.words) f.left.tables)

abbrev pub fed_from : (bytes : List ℕ) → Held → Returned FedWords Held
fed_from bytes h = fed_in h (feed_of bytes (tracker_in h))

abbrev pub feed_in : (bytes : List ℕ) → Held → Returned FedWords Held
feed_in bytes h = cond (few_words h.words) (returned (fed_words 0 (refused 2)) h) (fed_from bytes h)

abbrev pub read_in : (bytes : List ℕ) → EventWords
read_in bytes = event_words (read_of bytes)

-- the body of a kind 4 event, as C passes it
abbrev pub setup_body_from : (limit start width buckets kind : ℕ) → SetupBody
setup_body_from limit start width buckets kind = record { limit = limit; start = start; width = width; buckets = buckets; kind = kind }

abbrev pub write_in : Event → (buffer : List ℕ) → Returned WrittenWords (List ℕ)
write_in e buffer = returning written_words (write_of e buffer)
