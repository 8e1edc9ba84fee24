-- Document 01, "Trace events" and "The curve program": feeding the bytes of a trace, event by event. Assumes nothing.
use Rattle.std.specs.Prelude.{ℕ, zero, suc, ◌+◌, ◌≡◌, cond, List, ◌++◌, eqb, length, take, drop}
use Rattle.rules.specs.Answers.{Result, refused, gives, result_of}
use Rattle.rules.specs.declared.Got.{Got}
use Rattle.rules.specs.Events.{read_of}
use Rattle.rules.specs.Layout.{Tracker}
use Rattle.rules.specs.Calls.{apply_of}
use Rattle.feed.specs.declared.End.{End}
use Rattle.feed.specs.declared.End.TheVariants.{Whole, Inside}
use Rattle.feed.specs.declared.Fed.{Fed}

-- how many bytes were taken, why no more were, and the tracker after them; a refused event begins right after the bytes taken
pub record Feeding : Type 0 where
  pub taken : ℕ
  pub result : Result End
  pub left : Tracker

abbrev pub stopped : Result End → Tracker → Feeding
stopped why s = record { taken = 0; result = why; left = s }

-- the same, with n more bytes taken before
abbrev pub further : ℕ → Feeding → Feeding
further n f = record { taken = n + f.taken; result = f.result; left = f.left }

-- the result at an event that cannot be read: an incomplete event is not refused yet
abbrev pub unreadable : ℕ → Result End
unreadable n = cond (eqb n 7) (gives Inside) (refused n)

-- after a refused event nothing more is done
abbrev pub after_event : (List ℕ → Tracker → Feeding) → (taken : ℕ) → List ℕ → Result (Unit {0}) → Tracker → Feeding
after_event more taken bytes (refused n) s = stopped (refused n) s
after_event more taken bytes (gives u) s = further taken (more (drop taken bytes) s)

abbrev pub after_reading : (List ℕ → Tracker → Feeding) → List ℕ → Result Got → Tracker → Feeding
after_reading more bytes (refused n) s = stopped (unreadable n) s
after_reading more bytes (gives g) s = after_event more g.taken bytes (apply_of g.event s).result (apply_of g.event s).left

-- the first event, and then more
abbrev pub first_then : (List ℕ → Tracker → Feeding) → List ℕ → Tracker → Feeding
first_then more bytes s = cond (eqb (length bytes) 0) (stopped (gives Whole) s) (after_reading more bytes (read_of bytes) s)

-- at most this many events
unfoldable pub feed_most : (events : ℕ) → List ℕ → Tracker → Feeding
feed_most zero bytes s = stopped (gives Whole) s
feed_most (suc n) bytes s = first_then (feed_most n) bytes s

-- until the bytes end or an event is refused: an event takes at least one byte
unfoldable pub feed_of : List ℕ → Tracker → Feeding
feed_of bytes s = feed_most (length bytes) bytes s

-- more bytes after those that were fed: they follow what was left untaken; after a refusal nothing more is done
abbrev pub onward : Result End → (taken : ℕ) → (bytes more : List ℕ) → Tracker → Feeding
onward (refused n) taken bytes more s = record { taken = taken; result = refused n; left = s }
onward (gives e) taken bytes more s = further taken (feed_of (drop taken bytes ++ more) s)

abbrev pub resumed : Feeding → (bytes more : List ℕ) → Feeding
resumed f bytes more = onward f.result f.taken bytes more f.left

-- all of so many bytes were taken, and left this
abbrev pub all_taken : (taken : ℕ) → Tracker → Feeding
all_taken taken s = record { taken = taken; result = gives Whole; left = s }

-- what the first event of some bytes leaves: one that cannot be read changes nothing
abbrev pub left_by : Result Got → Tracker → Tracker
left_by (refused n) s = s
left_by (gives g) s = (apply_of g.event s).left

-- the bytes that were taken, fed alone, are accepted to their end; and what was left is what the event behind them leaves of that
pub record TakenAlone (bytes : List ℕ) (s : Tracker) (f : Feeding) : Type 0 where
  pub between : Tracker
  pub before : feed_of (take f.taken bytes) s ≡ all_taken f.taken between
  pub left_is : f.left ≡ left_by (read_of (drop f.taken bytes)) between

-- ---- what the code returns, with the tracker as the call left it

abbrev pub after_fed : Fed → Tracker → Feeding
after_fed fed s = record { taken = fed.taken; result = result_of fed.ending; left = s }
