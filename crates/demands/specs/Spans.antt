-- Document 02, "I/O that spans blocks": which blocks those are, and demand 1 of each of an event's references. Assumes nothing.
use Rattle.std.specs.Prelude.{ℕ, ◌+◌, ◌-◌, ◌^◌, ◌≤◌, ◌<◌, ◌≡◌, Bool, true, false, cond, List, [], ◌∷◌, ◌++◌, length, get_or}
use Rattle.rules.specs.declared.Event.{Event}
use Rattle.rules.specs.declared.Event.TheVariants.{Span}
use Rattle.rules.specs.Lists.{has}
use Rattle.rules.specs.declared.Reply.{Reply}
use Rattle.rules.specs.Answers.{refused, gives}
use Rattle.rules.specs.Order.{Outcome, outcome}
use Rattle.rules.specs.Events.{block_of, last_byte, references_of, fresh_start, overruns}
use Rattle.rules.specs.Layout.{Tracker, stored}
use Rattle.rules.specs.Conditions.{torn_for, full}
use Rattle.rules.specs.Calls.{step_of, refer_of, apply_of}
use Rattle.rules.specs.History.{Reference}
use Rattle.demands.specs.Runs.{Run, onto}

-- ---- which blocks

-- some byte of a span lies in block b
pub record HoldsByte (offset bytes b : ℕ) : Type 0 where
  pub byte : ℕ
  pub from : offset ≤ byte
  pub below : byte < offset + bytes
  pub in_block : block_of byte ≡ b

-- the references of a span are exactly the blocks that hold one of its bytes, rising, and so each once; a 32-bit length makes at most
-- 2^20 + 1
pub record Expansion (offset bytes : ℕ) : Type 0 where
  pub all : (byte : ℕ) → offset ≤ byte → byte < offset + bytes → has (block_of byte) (references_of (Span offset bytes)) ≡ true
  pub only : (b : ℕ) → has b (references_of (Span offset bytes)) ≡ true → HoldsByte offset bytes b
  pub rising : (i j : ℕ) → i < j → j < length (references_of (Span offset bytes))
      → get_or (references_of (Span offset bytes)) i 0 < get_or (references_of (Span offset bytes)) j 0
  pub few : bytes < 2 ^ 32 → length (references_of (Span offset bytes)) ≤ 2 ^ 20 + 1

-- a span overruns exactly if one of its bytes passes 2^64 - 1
pub record PassesEnd (offset bytes : ℕ) : Type 0 where
  pub past : overruns (Span offset bytes) ≡ true → (0 < bytes) × (2 ^ 64 - 1 < last_byte offset bytes)
  pub within : overruns (Span offset bytes) ≡ false → (byte : ℕ) → offset ≤ byte → byte < offset + bytes → byte ≤ 2 ^ 64 - 1

abbrev pub Expanded : Type 0
Expanded = (offset bytes : ℕ) → Expansion offset bytes

abbrev pub OverrunsPast : Type 0
OverrunsPast = (offset bytes : ℕ) → PassesEnd offset bytes

-- ---- one after the other

-- references made one after the other, each accepted: the tracker before the first and after the last
pub data Made : List Reference → Tracker → Tracker → Type 0 where
  none : {s : Tracker} → Made [] s s
  more : {x : Reference} {xs : List Reference} {r : Reply} {s middle after : Tracker}
      → refer_of x s ≡ outcome (gives r) middle → Made xs middle after → Made (x ∷ xs) s after

-- why no more were made: there are no more; the next one is refused, by itself, and changes nothing; or 10, before any is made
pub data Ends : (overruns : Bool) → (before : Tracker) → (made rest : List Reference) → Outcome (Unit {0}) Tracker → Type 0 where
  all : {before left : Tracker} {made : List Reference} → Ends false before made [] (outcome (gives tt) left)
  next : {before left : Tracker} {made rest : List Reference} {x : Reference} {n : ℕ}
      → refer_of x left ≡ outcome (refused n) left → Ends false before made (x ∷ rest) (outcome (refused n) left)
  overrun : {before : Tracker} {rest : List Reference} → Ends true before [] rest (outcome (refused 10) before)

-- a first part of the references was made, each accepted, and what is left is what that part leaves; the record counts them, and they
-- continue a run
pub record OneByOne (overruns : Bool) (references : List Reference) (before : Tracker) (o : Outcome (Unit {0}) Tracker) : Type 0 where
  pub made : List Reference
  pub rest : List Reference
  pub are : made ++ rest ≡ references
  pub accepted : Made made before o.left
  pub counted : o.left.kept.numbers.references ≡ before.kept.numbers.references + length made
  pub continued : (past : List Reference) → Run past before → Run (onto made past) o.left
  pub ends : Ends overruns before made rest o

-- any event but a fresh start
abbrev pub EventsOneByOne : Type 0
EventsOneByOne = (e : Event) (s : Tracker) → fresh_start e ≡ false → OneByOne (overruns e) (references_of e) s (apply_of e s)

-- after an accepted reference, the next is refused only 4, or 3 for the bucket that it would record in
abbrev pub OnlyInside : Type 0
OnlyInside = (x y : Reference) (s after : Tracker) (r : Reply) → refer_of x s ≡ outcome (gives r) after
    → refer_of y after ≡ cond (full after.kept.numbers) (outcome (refused 4) after)
    (cond (torn_for y after) (outcome (refused 3) after) (outcome (gives (step_of y after).reply) (stored (step_of y after) after)))
