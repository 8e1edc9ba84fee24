-- Document 01, "The curve program": from the whole input to what is printed. Assumes nothing.
--
-- Not proved is one line of the code: the call of `read`, with the bytes that it gives and what it returns. All that follows it is proved, of
-- the bytes that then stand in the buffer (`AfterRead`). Since no contract can say what was read, the promise of the whole is over some input.
use Rattle.std.specs.Prelude.{ℕ, ◌+◌, ◌-◌, ◌^◌, ◌≤◌, ◌<◌, min, ◌≡◌, Bool, true, false, cond, List, ◌++◌, eqb, ltb, length, take, drop, replicate, Ok, Err}
use Rattle.std.specs.declared.result.Result as told
use Rattle.std.specs.declared.io.Error.{Error}
use Rattle.std.specs.declared.io.ErrorKind.{ErrorKind}
use Rattle.std.specs.declared.io.ErrorKind.TheVariants as kind
use Rattle.std.specs.declared.ops.ControlFlow.{ControlFlow}
use Rattle.std.specs.declared.ops.ControlFlow.TheVariants.{Continue, Break}
use Rattle.std.specs.IoError.{error_kind}
use Rattle.rules.specs.declared.Record.{Record}
use Rattle.rules.specs.declared.Settings.{Settings}
use Rattle.rules.specs.Settings.{Histogram, Tables}
use Rattle.rules.specs.Answers.{Result, refused, gives}
use Rattle.rules.specs.Order.{outcome}
use Rattle.rules.specs.Layout.{Tracker, tables_of}
use Rattle.rules.specs.Calls.{setup_of}
use Rattle.text.specs.Text.{refused_line, curve_of}
use Rattle.feed.specs.declared.End.{End}
use Rattle.feed.specs.declared.End.TheVariants.{Whole, Inside}
use Rattle.feed.specs.Feed.{feed_of}
use Rattle.curve.specs.declared.Stop.{Stop}
use Rattle.curve.specs.declared.Stop.TheVariants as stop
use Rattle.curve.specs.declared.Pause.{Pause}

-- the program begins with all settings 0 and hash kind 1
abbrev pub first_settings : Settings
first_settings = record { limit = 0; start = 0; width = 0; buckets = 0; hashing = record { kind = 1 } }

-- its tables hold 1,024 locations and 1,026 buckets, filled with zeros
abbrev pub first_tables : Tables
first_tables = tables_of (replicate 1024 0) (replicate 1026 0) (replicate 1026 0)

-- the text of a curve; if the curve is refused, the line for an event refused at this place
abbrev pub or_refused : Result (List ℕ) → (place : ℕ) → List ℕ
or_refused (refused n) place = refused_line n place
or_refused (gives text) place = text

-- at the end of the input an incomplete event is refused 7; places are counted from the start of the input
abbrev pub end_text : Result End → (place : ℕ) → Tracker → List ℕ
end_text (refused n) place s = refused_line n place
end_text (gives Inside) place s = refused_line 7 place
end_text (gives Whole) place s = or_refused (curve_of s.kept s.tables.histogram) place

-- the same for an input of which no event is refused, by how many bytes are left over at its end
abbrev pub last_text : (left place : ℕ) → Record → Histogram → List ℕ
last_text left place kept g = cond (ltb 0 left) (refused_line 7 place) (or_refused (curve_of kept g) place)

-- what is printed for an input, starting from a state
abbrev pub text_from : Tracker → List ℕ → List ℕ
text_from s input = end_text (feed_of input s).result (feed_of input s).taken (feed_of input s).left

abbrev pub text_after : Result Record → Tables → List ℕ → List ℕ
text_after (refused n) t input = refused_line n 0
text_after (gives kept) t input = text_from (record { kept = kept; tables = t }) input

-- what is printed for the whole input, starting with these tables
abbrev pub text_over : Tables → List ℕ → List ℕ
text_over t input = text_after (setup_of first_settings t).result (setup_of first_settings t).left input

-- what the program prints for an input
abbrev pub program_of : List ℕ → List ℕ
program_of input = text_over first_tables input

-- ---- one read

-- a read that a signal interrupted gives an error of this kind: errno 4, EINTR
abbrev pub interruption : ErrorKind → Bool
interruption kind.Interrupted = true
interruption _ = false

abbrev pub interrupted : Error → Bool
interrupted error = interruption (error_kind error)

-- what a read came to: bytes, the end of the input, an interruption, or a failure with an error
pub data Came : Type 0 where
  some_bytes : ℕ → Came
  no_more : Came
  once_more : Came
  failure : Error → Came

-- what a read came to, by what it returned: so many bytes, but never more than there was room for; 0 is the end of the input; an error is an
-- interruption or else a failure with that error
abbrev pub came_of : (got : told.Result ℕ Error) → (room : ℕ) → Came
came_of (Ok n) room = cond (eqb n 0) no_more (some_bytes (min n room))
came_of (Err e) room = cond (interrupted e) once_more (failure e)

-- ---- between reads

-- what follows a read: another one after a pause, or a text of so many bytes at the front of the buffer
abbrev pub Next : Type 0
Next = ControlFlow ℕ Pause

-- the result of the program: such a text, or why there is none
abbrev pub Done : Type 0
Done = told.Result ℕ Stop

-- the first n bytes of a buffer are the text
pub record Stands (text buffer : List ℕ) (n : ℕ) : Type 0 where
  pub is : take n buffer ≡ text
  pub fits : n ≤ length buffer

-- an input, fed from the first state, was taken up to a place: why no more was, the state then, and the bytes after the place
pub record Reached (first : Tracker) (input : List ℕ) (place : ℕ) (why : Result End) (s : Tracker) (rest : List ℕ) : Type 0 where
  pub is : feed_of input first ≡ record { taken = place; result = why; left = s }
  pub rest_is : drop place input ≡ rest

-- the same, with no event refused
pub record Follows (first : Tracker) (input : List ℕ) (place : ℕ) (s : Tracker) (rest : List ℕ) : Type 0 where
  pub end : End
  pub reached : Reached first input place (gives end) s rest

-- an event of the input was refused
pub record Refuses (first : Tracker) (input : List ℕ) : Type 0 where
  pub number : ℕ
  pub is : (feed_of input first).result ≡ refused number

-- the input was followed up to a pause: its tracker, and the bytes that are left over at the front of the buffer
abbrev pub Paused : (first : Tracker) (input : List ℕ) → Pause → Tables → (buffer : List ℕ) → Type 0
Paused first input p t buffer = Follows first input p.place (record { kept = p.kept; tables = t }) (take p.left buffer)

-- another read can be counted, and has room after the bytes left over
pub record Ready (p : Pause) : Type 0 where
  pub short : p.left < 18
  pub counted : p.place + p.reads + 65536 < 2 ^ 64

-- pause q comes after pause p, with no read between them
pub record Later (p q : Pause) : Type 0 where
  pub short : q.left < 18
  pub further : p.place ≤ q.place
  pub most : q.place ≤ p.place + 65536
  pub same : q.reads ≡ p.reads

-- this input was fed: the program goes on if no event was refused; otherwise the result is the text for the input
abbrev pub Feeds : (first : Tracker) (input : List ℕ) → Pause → Next → (buffer : List ℕ) → Tables → Type 0
Feeds first input p (Continue q) buffer t = Later p q × Paused first input q t buffer
Feeds first input p (Break n) buffer t = Refuses first input × Stands (text_from first input) buffer n

-- the input is at its end: the result is its text
abbrev pub Finishes : (first : Tracker) (input : List ℕ) → Next → (buffer : List ℕ) → Type 0
Finishes first input (Continue q) buffer = ⊥
Finishes first input (Break n) buffer = Stands (text_from first input) buffer n

-- after so many bytes came: whatever the input was so far, it is now longer by the bytes that stand in the buffer behind those left over
abbrev pub AfterBytes : Pause → Tables → (buffer : List ℕ) → (count : ℕ) → Next → (exit : List ℕ) → Tables → Type 0
AfterBytes p t buffer count r exit after =
    (first : Tracker) (input : List ℕ) → Paused first input p t buffer → Feeds first (input ++ take count (drop p.left buffer)) p r exit after

-- after a read that left this buffer, by what it came to; after an interrupted or a failed one, nothing is changed, and the error of a failed
-- one is the result's
abbrev pub AfterRead : Pause → Tables → (buffer : List ℕ) → Came → told.Result Next Error → (exit : List ℕ) → Tables → Type 0
AfterRead p t buffer (some_bytes n) (Ok r) exit after = AfterBytes p t buffer n r exit after
AfterRead p t buffer (some_bytes n) (Err e) exit after = ⊥
AfterRead p t buffer no_more (Ok r) exit after = (first : Tracker) (input : List ℕ) → Paused first input p t buffer → Finishes first input r exit
AfterRead p t buffer no_more (Err e) exit after = ⊥
AfterRead p t buffer once_more r exit after = (r ≡ Ok (Continue p)) × (exit ≡ buffer) × (after ≡ t)
AfterRead p t buffer (failure e) r exit after = (r ≡ Err e) × (exit ≡ buffer) × (after ≡ t)

-- ---- some input: from here on it is not said which bytes were read

-- some read left the bytes at the front of the buffer as they were; what follows it is right for what it put behind them
pub record OneRead (p : Pause) (t : Tables) (before : List ℕ) (r : told.Result Next Error) (exit : List ℕ) (after : Tables) : Type 0 where
  pub buffer : List ℕ
  pub front : take p.left buffer ≡ take p.left before
  pub got : told.Result ℕ Error
  pub follows : AfterRead p t buffer (came_of got (length buffer - p.left)) r exit after

-- the first n bytes of a buffer are the text for some input
pub record Prints (text : List ℕ → List ℕ) (buffer : List ℕ) (n : ℕ) : Type 0 where
  pub input : List ℕ
  pub stands : Stands (text input) buffer n

-- some input was followed up to this pause, with no event refused, and the tables are what it left
pub record Followed (first : Tracker) (p : Pause) (buffer : List ℕ) (t : Tables) : Type 0 where
  pub input : List ℕ
  pub paused : Paused first input p t buffer

-- up to some pause
pub record Stopped (first : Tracker) (buffer : List ℕ) (t : Tables) : Type 0 where
  pub pause : Pause
  pub followed : Followed first pause buffer t

-- the same, and the bytes taken and the reads made are too many to count another read
pub record TooLong (first : Tracker) (buffer : List ℕ) (t : Tables) : Type 0 where
  pub stopped : Stopped first buffer t
  pub many : 2 ^ 64 ≤ stopped.pause.place + stopped.pause.reads + 65537

-- a result that is a text is the text for some input; otherwise some input was followed, and nothing is printed of it
abbrev pub Tells : (first : Tracker) → Done → (buffer : List ℕ) → Tables → Type 0
Tells first (Ok n) buffer t = Prints (text_from first) buffer n
Tells first (Err (stop.Failed e)) buffer t = Stopped first buffer t
Tells first (Err stop.Unending) buffer t = TooLong first buffer t

-- the first setup is accepted, and this holds from the state that it leaves
pub record Begins (t : Tables) (P : Tracker → Type 0) : Type 0 where
  pub first : Tracker
  pub is : setup_of first_settings t ≡ outcome (gives first.kept) first.tables
  pub holds : P first

-- the same from the first setup on
abbrev pub TellsOver : Tables → Done → (buffer : List ℕ) → Tables → Type 0
TellsOver t (Ok n) buffer after = Prints (text_over t) buffer n
TellsOver t (Err (stop.Failed e)) buffer after = Begins t (λ first. Stopped first buffer after)
TellsOver t (Err stop.Unending) buffer after = Begins t (λ first. TooLong first buffer after)

-- what is printed is what the program prints for some input
abbrev pub Printing : Done → (buffer : List ℕ) → Type 0
Printing (Ok n) buffer = Prints program_of buffer n
Printing (Err s) buffer = Unit {0}
