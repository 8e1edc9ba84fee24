-- The reader, in terms of the rules of reading. Document 01, "Trace events". Assumes nothing.
use Rattle.std.specs.Prelude.{ℕ, zero, suc, ◌+◌, List, [], ◌∷◌, length, drop}
use Rattle.std.specs.Borrow.{Bor}
use Rattle.std.specs.declared.result.Result as told
use Rattle.rules.specs.declared.Refusal.{Refusal}
use Rattle.rules.specs.Answers.{Result, refused, gives, result_of}
use Rattle.rules.specs.declared.Got.{Got}
use Rattle.rules.specs.Events.{read_of, unread_of}
use Rattle.reader.specs.declared.Reader.{Reader}
use Rattle.reader.specs.declared.Front.{Front}

-- the bytes from a place on: none, if the place is past the end
abbrev pub left_at : (bytes : List ℕ) (at : ℕ) → List ℕ
left_at bytes at = drop at bytes

-- the reading at a place
abbrev pub read_at : (bytes : List ℕ) (at : ℕ) → Result Got
read_at bytes at = read_of (left_at bytes at)

-- the place past an event, or the same place if it is refused
abbrev pub past : (at : ℕ) → Result Got → ℕ
past at (refused n) = at
past at (gives g) = at + g.taken

abbrev pub place_after : (bytes : List ℕ) (at : ℕ) → ℕ
place_after bytes at = past at (read_at bytes at)

-- a reader at the front of the bytes
abbrev pub at_front : Bor (List ℕ) → Reader
at_front src = record { src = src; at = 0 }

-- a reader's step: the reading at its place, and the reader of the same bytes at the place after it
pub record Moving : Type 0 where
  pub result : Result Got
  pub reader : Reader

abbrev pub next_of : Reader → Moving
next_of r = record { result = read_at r.src.now r.at; reader = record { src = r.src; at = place_after r.src.now r.at } }

abbrev pub moved : told.Result Got Refusal → Reader → Moving
moved answer after = record { result = result_of answer; reader = after }

-- an event and those that follow it; none, if it is refused
abbrev pub before : Result Got → List Got → List Got
before (refused n) rest = []
before (gives g) rest = g ∷ rest

-- the whole events at the front of the bytes, each read from what the one before left unread, at most n of them
abbrev pub whole_to : (n : ℕ) → List ℕ → List Got
whole_to zero bytes = []
whole_to (suc n) bytes = before (read_of bytes) (whole_to n (unread_of bytes))

-- all of them: an event takes at least one byte
unfoldable pub whole_of : List ℕ → List Got
whole_of bytes = whole_to (length bytes) bytes

-- how many bytes the events took in total
abbrev pub taken_by : List Got → ℕ
taken_by [] = 0
taken_by (g ∷ rest) = g.taken + taken_by rest

-- how many whole events are at the front, and the place of the first refusal
abbrev pub front_of : List ℕ → Front
front_of bytes = record { events = length (whole_of bytes); at = taken_by (whole_of bytes) }

-- the readings of n steps of a reader
abbrev pub steps : (n : ℕ) → Reader → List (Result Got)
steps zero r = []
steps (suc n) r = (next_of r).result ∷ steps n (next_of r).reader

-- n readings, each of what the one before left unread
abbrev pub readings : (n : ℕ) → List ℕ → List (Result Got)
readings zero bytes = []
readings (suc n) bytes = read_of bytes ∷ readings n (unread_of bytes)
