-- What was written is read back, with any bytes behind it, and what was read is written the same. By the kind of event, and each number in it by
-- the laws of `LittleEndian` at its place. Assumes nothing.
use Prim.Native.Nat.{ℕ, ◌+◌, ◌≤◌, ◌<◌, ◌^◌}
use mathlib.Core.Path.{◌≡◌, refl, sym, ◌∙◌}
use mathlib.Core.Bool.{false}
use mathlib.Core.List.{List, ◌∷◌, ◌++◌}
use native.Mathlib.Omega.{arith}
use lib.Dec.{ltb}
use lib.ListN.{length, get_or, drop}
use lib.Seq.{drop-append_seam, drop-cons}
use borrow.Author.Tests.{le-ltb}
use Rattle.rules.specs.declared.Event.{Event}
use Rattle.rules.specs.declared.Event.TheVariants.{Location, Span, Restart, Setup}
use Rattle.rules.specs.Answers.{Result, refused, gives}
use Rattle.rules.specs.declared.Got.{Got}
use Rattle.rules.specs.Order.{outcome}
use Rattle.rules.specs.Events.{bytes_of, number_at, event_bytes, event_length, overruns, read_of, unread_of, write_of, Fits, Bytes}
use Rattle.rules.proofs.LittleEndian.{number_bytes, number_below, bytes_number}
use Rattle.rules.proofs.Events.{got, read_kind, by_reading, write_filled}

there : (n : ℕ) (e : Event) (rest : List ℕ) → n ≤ length (event_bytes e ++ rest) → ltb (length (event_bytes e ++ rest)) n ≡ false
there n e rest h = le-ltb _ _ h

-- reading the bytes of an event that does not overrun gives the event with its length
pub round : (e : Event) (rest : List ℕ) → Fits e → overruns e ≡ false → read_of (event_bytes e ++ rest) ≡ got e (event_length e)
round (Location x) rest f none =
    read_kind 1 _ (λ z. omega arith) refl
    ∙ simp (there 9 (Location x) rest (omega arith), number_bytes 8 1 x (event_bytes (Location x) ++ rest) f refl)
round (Span o n) rest f within =
    let s = event_bytes (Span o n) ++ rest in
    read_kind 2 _ (λ z. omega arith) refl
    ∙ simp (there 13 (Span o n) rest (omega arith), number_bytes 8 1 o s f.0 refl, number_bytes 4 9 n s f.1 refl, within)
round Restart rest f none = read_kind 3 _ (λ z. omega arith) refl ∙ simp (there 1 Restart rest (omega arith))
round (Setup b) rest f none =
    let s = event_bytes (Setup b) ++ rest in
    read_kind 4 _ (λ z. omega arith) refl
    ∙ simp (
      there 18 (Setup b) rest (omega arith),
      number_bytes 4 1 b.limit s f.0 refl,
      number_bytes 4 5 b.start s f.1 refl,
      number_bytes 4 9 b.width s f.2 refl,
      number_bytes 4 13 b.buckets s f.3 refl,
      number_bytes 1 17 b.kind s f.4 refl,
    )

-- and what is unread is what stood behind it
pub round_unread : (e : Event) (rest : List ℕ) → Fits e → overruns e ≡ false → unread_of (event_bytes e ++ rest) ≡ rest
round_unread e rest f o = rw (round e rest f o) (drop-append_seam (event_bytes e) rest)

-- by the promise alone: where `write` filled n bytes of a buffer, what is unread of it then is what stood behind those n before
pub written_unread : (e : Event) (n : ℕ) (before after : List ℕ) → Fits e → outcome (gives n) after ≡ write_of e before
    → unread_of after ≡ drop n before
written_unread e n before after f w =
    let k = write_filled e before n after w in
    rw (k.1, k.0) (round_unread e (drop (event_length e) before) f k.2)

-- ---- the other way round

-- an event that was read fits its types, and its bytes are those that were read
abbrev Back : List ℕ → Result Got → Type 0
Back s (refused n) = Unit {0}
Back s (gives g) = Fits g.event × (event_bytes g.event ++ drop g.taken s ≡ s)

pub back : (s : List ℕ) {g : Got} → Bytes s → read_of s ≡ gives g → Fits g.event × (event_bytes g.event ++ drop g.taken s ≡ s)
back s b h =
    rw h at (by_reading (Back s) s (λ n. tt)
    (λ k l. (below 8 1, kind 1 k (omega arith) (put 8 1 (omega arith) refl)))
    (λ k l o. ((below 8 1, below 4 9), kind 2 k (omega arith) (put 8 1 (omega arith) (put 4 9 (omega arith) refl))))
    (λ k l. (tt, kind 3 k (omega arith) refl))
    (λ k l. (
      (below 4 1, below 4 5, below 4 9, below 4 13, below 1 17),
      kind 4 k (omega arith)
          (put 4 1 (omega arith) (put 4 5 (omega arith) (put 4 9 (omega arith) (put 4 13 (omega arith) (put 1 17 (omega arith) refl))))),
    )))
  where
    below : (n at : ℕ) → number_at n at s < 256 ^ n
    below = number_below s b

    kind : (k : ℕ) {rest : List ℕ} → get_or s 0 0 ≡ k → 0 < length s → rest ≡ drop 1 s → k ∷ rest ≡ s
    kind k is some e = rw (e, ← is) (sym (drop-cons s 0 0 some))

    put : (n at : ℕ) {rest : List ℕ} → at + n ≤ length s → rest ≡ drop (at + n) s → bytes_of n (number_at n at s) ++ rest ≡ drop at s
    put n at h e = rw e (bytes_number s b n at h)
