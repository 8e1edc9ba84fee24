-- The record, the settings and the answers of calls in the forms in which they cross to C. Assumes nothing.
use Rattle.std.specs.Prelude.{ℕ, Bool, cond, List, [], ◌∷◌, ltb, length, get_or, Float}
use Rattle.std.specs.Float.{binary64}
use Rattle.std.specs.Float.Ieee.{of_bits}
use Rattle.rules.specs.declared.Settings.{Settings}
use Rattle.rules.specs.declared.Shape.{Shape}
use Rattle.rules.specs.declared.Record.{Record}
use Rattle.rules.specs.declared.Point.{Point}
use Rattle.rules.specs.declared.PlotPoint.{PlotPoint}
use Rattle.rules.specs.declared.SetupBody.{SetupBody}
use Rattle.rules.specs.declared.Event.{Event}
use Rattle.rules.specs.declared.Event.TheVariants.{Location, Span, Restart, Setup}
use Rattle.rules.specs.Lists.{over}
use Rattle.rules.specs.declared.Reply.TheVariants.{Skipped, First, Again}
use Rattle.rules.specs.declared.Reply.{Reply}
use Rattle.rules.specs.Answers.{Result, refused, gives}
use Rattle.rules.specs.declared.Got.{Got}
use Rattle.feed.specs.declared.End.{End}
use Rattle.feed.specs.declared.End.TheVariants.{Whole, Inside}
use Rattle.words.specs.declared.AskedSettings.{AskedSettings}
use Rattle.words.specs.declared.Believed.{Believed}
use Rattle.words.specs.declared.AnswerWords.{AnswerWords}
use Rattle.words.specs.declared.PointWords.{PointWords}
use Rattle.words.specs.declared.PlotWords.{PlotWords}
use Rattle.words.specs.declared.EventWords.{EventWords}
use Rattle.words.specs.declared.AppliedWords.{AppliedWords}
use Rattle.words.specs.declared.WrittenWords.{WrittenWords}
use Rattle.words.specs.declared.FedWords.{FedWords}

-- ---- what C passes

abbrev pub settings_from : AskedSettings → Settings
settings_from a = record { limit = a.limit; start = a.start; width = a.width; buckets = a.buckets; hashing = record { kind = a.kind } }

abbrev pub shape_from : Believed → Shape
shape_from b = record { buckets = b.buckets; width = b.width }

-- ---- the record: limit, start, width, buckets, hash kind, threshold, live, references, sampled

-- the words of a record
abbrev pub words_of : Record → List ℕ
words_of kept =
    kept.settings.limit ∷ kept.settings.start ∷ kept.settings.width ∷ kept.settings.buckets ∷ kept.settings.hashing.kind
    ∷ kept.threshold ∷ kept.live ∷ kept.numbers.references ∷ kept.numbers.sampled ∷ []

-- too few words for a record
abbrev pub few_words : List ℕ → Bool
few_words w = ltb (length w) 9

-- the record that words stand for, at the front of those that are lent
abbrev pub record_of : List ℕ → Record
record_of w = record {
  settings = record { limit = get_or w 0 0; start = get_or w 1 0; width = get_or w 2 0; buckets = get_or w 3 0; hashing = record { kind = get_or w 4 0 } };
  threshold = get_or w 5 0;
  live = get_or w 6 0;
  numbers = record { references = get_or w 7 0; sampled = get_or w 8 0 };
}

-- a record written over the front of the words: those past it stay, and too few are left as they are
abbrev pub put : Record → List ℕ → List ℕ
put kept w = cond (few_words w) w (over (words_of kept) w)

-- what a call returns, and what it leaves of what it was lent
pub record Returned (A S : Type 0) : Type 0 where
  pub value : A
  pub left : S

abbrev pub returned : {A S : Type 0} → A → S → Returned A S
returned value left = record { value = value; left = left }

-- the record is stored if it is said to have changed
abbrev pub stored_if : (changed : Bool) → Record → List ℕ → List ℕ
stored_if changed kept w = cond changed (put kept w) w

-- a start, that has a record only where it is accepted
abbrev pub stored_start : Result Record → List ℕ → Returned ℕ (List ℕ)
stored_start (refused n) w = returned n w
stored_start (gives kept) w = returned 0 (put kept w)

-- ---- what a call gives: the refusal, 0 if the call was accepted, and then what it is for; zeros if it was refused

-- 0 Skipped, 1 Again with the distance, 2 First
abbrev pub answer_words : Result Reply → AnswerWords
answer_words (refused n) = record { refusal = n; reply = 0; distance = 0 }
answer_words (gives Skipped) = record { refusal = 0; reply = 0; distance = 0 }
answer_words (gives (Again d)) = record { refusal = 0; reply = 1; distance = d }
answer_words (gives First) = record { refusal = 0; reply = 2; distance = 0 }

abbrev pub point_words : Result Point → PointWords
point_words (refused n) = record { refusal = n; size = 0; hits = 0; misses = 0; total = 0 }
point_words (gives p) = record { refusal = 0; size = p.size; hits = p.hits; misses = p.misses; total = p.total }

-- +0, whose bits are all 0
abbrev pub zero_double : Float
zero_double = of_bits binary64 0

abbrev pub plot_words : Result PlotPoint → PlotWords
plot_words (refused n) = record { refusal = n; size = zero_double; ratio = zero_double }
plot_words (gives p) = record { refusal = 0; size = p.size; ratio = p.ratio }

-- the settings of an event that has none
abbrev pub no_settings : AskedSettings
no_settings = record { limit = 0; start = 0; width = 0; buckets = 0; kind = 0 }

-- those of a setup event
abbrev pub asked_by : SetupBody → AskedSettings
asked_by b = record { limit = b.limit; start = b.start; width = b.width; buckets = b.buckets; kind = b.kind }

-- an event that was read, with the number of bytes it took; the numbers that its kind does not have are 0
abbrev pub got_words : Event → (taken : ℕ) → EventWords
got_words (Location x) n = record { refusal = 0; kind = 1; taken = n; location = x; offset = 0; length = 0; settings = no_settings }
got_words (Span offset bytes) n = record { refusal = 0; kind = 2; taken = n; location = 0; offset = offset; length = bytes; settings = no_settings }
got_words Restart n = record { refusal = 0; kind = 3; taken = n; location = 0; offset = 0; length = 0; settings = no_settings }
got_words (Setup b) n = record { refusal = 0; kind = 4; taken = n; location = 0; offset = 0; length = 0; settings = asked_by b }

abbrev pub event_words : Result Got → EventWords
event_words (refused n) = record { refusal = n; kind = 0; taken = 0; location = 0; offset = 0; length = 0; settings = no_settings }
event_words (gives g) = got_words g.event g.taken

-- the number of bytes that an applied event took
abbrev pub applied_words : Result ℕ → AppliedWords
applied_words (refused n) = record { refusal = n; taken = 0 }
applied_words (gives taken) = record { refusal = 0; taken = taken }

-- the number of bytes that were written
abbrev pub written_words : Result ℕ → WrittenWords
written_words (refused n) = record { refusal = n; length = 0 }
written_words (gives filled) = record { refusal = 0; length = filled }

-- the bytes taken stand beside a refusal too
abbrev pub fed_words : (taken : ℕ) → Result End → FedWords
fed_words taken (refused n) = record { refusal = n; taken = taken; incomplete = 0 }
fed_words taken (gives Whole) = record { refusal = 0; taken = taken; incomplete = 0 }
fed_words taken (gives Inside) = record { refusal = 0; taken = taken; incomplete = 1 }

-- an event that was fed alone, as one that was applied
abbrev pub applied_from : FedWords → AppliedWords
applied_from fed = record { refusal = fed.refusal; taken = fed.taken }
