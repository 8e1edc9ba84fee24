-- Document 01, "Trace events", with document 02, "I/O that spans blocks". Assumes nothing.
use Rattle.std.specs.Prelude.{ℕ, zero, suc, ◌+◌, ◌-◌, ◌*◌, ◌/◌, ◌%◌, ◌^◌, ◌<◌, Bool, true, false, cond, ◌||◌, List, [], ◌∷◌, ◌++◌, eqb, ltb, length, get_or, drop}
use Rattle.rules.specs.declared.Settings.{Settings}
use Rattle.rules.specs.declared.SetupBody.{SetupBody}
use Rattle.rules.specs.declared.Refusal.TheVariants as refusal
use Rattle.rules.specs.declared.Event.{Event}
use Rattle.rules.specs.declared.Event.TheVariants.{Location, Span, Restart, Setup}
use Rattle.rules.specs.Lists.{over}
use Rattle.rules.specs.Answers.{Result, refused, gives}
use Rattle.rules.specs.declared.Got.{Got}
use Rattle.rules.specs.Order.{Outcome, Judged, ◌when◌, says, by_order}
use Rattle.rules.specs.History.{Reference}

-- a number as n bytes, little-endian
abbrev pub bytes_of : (n x : ℕ) → List ℕ
bytes_of zero x = []
bytes_of (suc n) x = x % 256 ∷ bytes_of n (x / 256)

-- the number that stands in the n bytes from a place on
abbrev pub number_at : (n at : ℕ) → List ℕ → ℕ
number_at zero at s = 0
number_at (suc n) at s = get_or s at 0 + 256 * number_at n (suc at) s

-- an event's bytes: the kind, then the body
abbrev pub event_bytes : Event → List ℕ
event_bytes (Location x) = 1 ∷ bytes_of 8 x
event_bytes (Span offset bytes) = 2 ∷ (bytes_of 8 offset ++ bytes_of 4 bytes)
event_bytes Restart = 3 ∷ []
event_bytes (Setup b) =
    4 ∷ (bytes_of 4 b.limit ++ (bytes_of 4 b.start ++ (bytes_of 4 b.width ++ (bytes_of 4 b.buckets ++ bytes_of 1 b.kind))))

-- how many bytes an event takes
abbrev pub event_length : Event → ℕ
event_length e = length (event_bytes e)

-- the body of a kind 4 event
abbrev pub setup_body_of : List ℕ → SetupBody
setup_body_of s = record { limit = number_at 4 1 s; start = number_at 4 5 s; width = number_at 4 9 s; buckets = number_at 4 13 s; kind = number_at 1 17 s }

-- the settings that a kind 4 event asks for, before defaults
abbrev pub settings_of : SetupBody → Settings
settings_of b = record { limit = b.limit; start = b.start; width = b.width; buckets = b.buckets; hashing = record { kind = b.kind } }

-- an event's numbers fit their types, as those of any event that a program holds do
abbrev pub Fits : Event → Type 0
Fits (Location x) = x < 2 ^ 64
Fits (Span offset bytes) = (offset < 2 ^ 64) × (bytes < 2 ^ 32)
Fits Restart = Unit {0}
Fits (Setup b) = (b.limit < 2 ^ 32) × (b.start < 2 ^ 32) × (b.width < 2 ^ 32) × (b.buckets < 2 ^ 32) × (b.kind < 2 ^ 8)

-- a list of bytes, as any that a program holds is
abbrev pub Bytes : List ℕ → Type 0
Bytes s = (i : ℕ) → get_or s i 0 < 256

-- the bytes of a block
abbrev pub block_bytes : ℕ
block_bytes = 4096

-- the block that holds a byte
abbrev pub block_of : (byte : ℕ) → ℕ
block_of byte = byte / block_bytes

-- the last of so many bytes from an offset on
abbrev pub last_byte : (offset bytes : ℕ) → ℕ
last_byte offset bytes = offset + bytes - 1

-- so many numbers from a first one on, each one more than the one before
abbrev pub rising : (from many : ℕ) → List ℕ
rising from zero = []
rising from (suc many) = from ∷ rising (suc from) many

-- how many blocks there are from that of the first byte to that of the last: none if there are no bytes
abbrev pub blocks_in : (offset bytes : ℕ) → ℕ
blocks_in offset bytes = cond (eqb bytes 0) 0 (suc (block_of (last_byte offset bytes) - block_of offset))

-- the references that an event stands for, in their order: kind 1 one, kind 2 one to each block from offset / 4,096 to
-- (offset + length - 1) / 4,096, rising, or none if its length is 0
abbrev pub references_of : Event → List Reference
references_of (Location x) = x ∷ []
references_of (Span offset bytes) = rising (block_of offset) (blocks_in offset bytes)
references_of Restart = []
references_of (Setup b) = []

-- whether an event is a fresh start
abbrev pub fresh_start : Event → Bool
fresh_start (Location x) = false
fresh_start (Span offset bytes) = false
fresh_start Restart = true
fresh_start (Setup b) = true

-- 10: the length is not 0, and offset + length - 1 passes 2^64 - 1
abbrev pub overrun : (offset bytes : ℕ) → Bool
overrun offset bytes = cond (eqb bytes 0) false (ltb (2 ^ 64 - 1) (last_byte offset bytes))

abbrev pub overruns : Event → Bool
overruns (Location x) = false
overruns (Span offset bytes) = overrun offset bytes
overruns Restart = false
overruns (Setup b) = false

-- no kind of event
abbrev pub unknown : (kind : ℕ) → Bool
unknown kind = eqb kind 0 || ltb 4 kind

-- how many bytes an event of a kind takes
abbrev pub whole_length : (kind : ℕ) → ℕ
whole_length kind = cond (eqb kind 1) 9 (cond (eqb kind 2) 13 (cond (eqb kind 3) 1 18))

-- the event of a kind that stands in the bytes
abbrev pub event_of : (kind : ℕ) → List ℕ → Event
event_of kind s =
    cond (eqb kind 1) (Location (number_at 8 1 s))
    (cond (eqb kind 2) (Span (number_at 8 1 s) (number_at 4 9 s))
    (cond (eqb kind 3) Restart (Setup (setup_body_of s))))

-- reading: 7 if empty, 8, 7, 10
abbrev pub read_order : List ℕ → List Judged
read_order s =
    let kind = get_or s 0 0 in
    (refusal.Short when eqb (length s) 0)
    ∷ (refusal.Kind when unknown kind)
    ∷ (refusal.Short when ltb (length s) (whole_length kind))
    ∷ (refusal.Overrun when overruns (event_of kind s))
    ∷ []

unfoldable pub read_of : List ℕ → Result Got
read_of s =
    let kind = get_or s 0 0 in
    says (read_order s) (record { event = event_of kind s; taken = whole_length kind })

-- an event of n bytes, where they are all there and it does not overrun
abbrev pub if_all_there : (n : ℕ) → Event → List ℕ → Result Got
if_all_there n e s = says ((refusal.Short when ltb (length s) n) ∷ (refusal.Overrun when overruns e) ∷ []) (record { event = e; taken = n })

-- what is unread: what follows the first event, or all when that is refused
abbrev pub unread_after : Result Got → List ℕ → List ℕ
unread_after (refused n) s = s
unread_after (gives g) s = drop g.taken s

abbrev pub unread_of : List ℕ → List ℕ
unread_of s = unread_after (read_of s) s

-- writing: 10, 2; else exactly the event's length from the front
abbrev pub write_order : Event → List ℕ → List Judged
write_order e buffer = (refusal.Overrun when overruns e) ∷ (refusal.Tables when ltb (length buffer) (event_length e)) ∷ []

unfoldable pub write_of : Event → List ℕ → Outcome ℕ (List ℕ)
write_of e buffer = by_order (write_order e buffer) (event_length e) buffer (over (event_bytes e) buffer)
