-- Laws of the reader: where a step leads, and which whole events stand at the front. A step is a reading of what is left. The whole events go by
-- induction on a bound of their number, which does not matter once it is as large as the bytes (`to_enough`). Assumes nothing.
use Prim.Native.Nat.{ℕ, zero, suc, ◌+◌, ◌≤◌, ◌<◌}
use mathlib.Core.Path.{◌≡◌, refl, sym, ap, ◌∙◌}
use mathlib.Core.Bool.{true, false}
use mathlib.Core.List.{List, [], ◌∷◌, map}
use native.Mathlib.Nat.{zero-add, add-zero}
use native.Mathlib.Omega.{arith}
use lib.ListN.{length, drop, length-drop, drop_of_length-le}
use lib.Seq.{drop-drop}
use denote.Ref.{Bor}
use Rattle.rules.specs.declared.Refusal.{Refusal}
use Rattle.std.specs.Prelude.{Ok, Err}
use Rattle.std.specs.Result.{is_ok}
use Rattle.std.specs.declared.result.Result as told
use Rattle.rules.specs.Answers.{Result, refused, gives, number}
use Rattle.rules.specs.declared.Got.{Got}
use Rattle.rules.specs.Events.{read_of, unread_after, unread_of}
use Rattle.rules.proofs.Events.{read_empty, taken}
use Rattle.reader.specs.declared.Reader.{Reader}
use Rattle.reader.specs.Reader.{left_at, read_at, past, place_after, at_front}
use Rattle.reader.specs.Reader.{next_of, moved, whole_to, whole_of, taken_by, front_of, steps, readings}

-- ---- a place at the end of the bytes or beyond it

module _ (bytes : List ℕ) (at : ℕ) (beyond : length bytes ≤ at) where
  pub left_beyond : left_at bytes at ≡ []
  left_beyond = drop_of_length-le bytes beyond

  pub read_beyond : read_at bytes at ≡ refused 7
  read_beyond = rw left_beyond (read_empty [] refl)

  pub stays_beyond : place_after bytes at ≡ at
  stays_beyond = rw read_beyond

-- ---- a step

-- what is left after a step is what is unread of what was left
pub left_after : (bytes : List ℕ) (at : ℕ) → left_at bytes (place_after bytes at) ≡ unread_of (left_at bytes at)
left_after bytes at = after_reading_lem (read_at bytes at)
  where
    after_reading_lem : (q : Result Got) → drop (past at q) bytes ≡ unread_after q (drop at bytes)
    after_reading_lem (refused n) = refl
    after_reading_lem (gives g) = sym (drop-drop g.taken at bytes)

-- the same by the promise of `next` alone
pub moved_left : (r : Reader) (answer : told.Result Got Refusal) (after : Reader) → moved answer after ≡ next_of r
    → left_at after.src.now after.at ≡ unread_of (left_at r.src.now r.at)
moved_left r answer after k = ap (λ z. left_at z.reader.src.now z.reader.at) k ∙ left_after r.src.now r.at

-- a reader's steps say what reading says of what is left, with the unread part taken again and again
pub steps_read : (n : ℕ) (r : Reader) → steps n r ≡ readings n (left_at r.src.now r.at)
steps_read zero r = refl
steps_read (suc n) r =
    let k = left_after r.src.now r.at in
    ap (λ l. read_at r.src.now r.at ∷ l) (steps_read n (next_of r).reader ∙ rw k)

-- so do those of a reader that was just made, of all its bytes
pub steps_from_front : (n : ℕ) (src : Bor (List ℕ)) → steps n (at_front src) ≡ readings n src.now
steps_from_front n src = steps_read n (at_front src)

-- ---- the whole events at the front

-- a reading is a refusal, or gives an event
result_cases : {C : Type 0} (q : Result Got) → ((n : ℕ) → q ≡ refused n → C) → ((g : Got) → q ≡ gives g → C) → C
result_cases (refused n) f g = f n refl
result_cases (gives x) f g = g x refl

-- with a bound as large as the bytes, the bound does not matter
to_enough : (m n : ℕ) (s : List ℕ) → length s ≤ m → length s ≤ n → whole_to m s ≡ whole_to n s
to_enough zero zero s h k = refl
to_enough zero (suc n) s h k = rw (read_empty s (omega arith))
to_enough (suc m) zero s h k = rw (read_empty s (omega arith))
to_enough (suc m) (suc n) s h k = result_cases (read_of s)
    (λ i e. rw e)
    (λ g e. let t = taken s e in
    rw e (ap (λ l. g ∷ l) (to_enough m n (drop g.taken s) (simp length-drop (omega arith)) (simp length-drop (omega arith)))))

pub whole_refused : (s : List ℕ) (n : ℕ) → read_of s ≡ refused n → whole_of s ≡ []
unfolding whole_of
whole_refused s n e = to_enough (length s) (suc (length s)) s (omega arith) (omega arith) ∙ rw e

pub whole_gives : (s : List ℕ) (g : Got) → read_of s ≡ gives g → whole_of s ≡ g ∷ whole_of (drop g.taken s)
unfolding whole_of
whole_gives s g e =
    let t = taken s e in
    to_enough (length s) (suc (length s)) s (omega arith) (omega arith)
    ∙ rw e (ap (λ l. g ∷ l) (to_enough (length s) (length (drop g.taken s)) (drop g.taken s) (simp length-drop (omega arith)) (omega arith)))

-- they are what the first readings give
pub whole_read : (bytes : List ℕ) → readings (length (whole_of bytes)) bytes ≡ map gives (whole_of bytes)
unfolding whole_of
whole_read bytes = to (length bytes) bytes
  where
    to : (m : ℕ) (s : List ℕ) → readings (length (whole_to m s)) s ≡ map gives (whole_to m s)
    to zero s = refl
    to (suc m) s = result_cases (read_of s) (λ n e. rw e) (λ g e. simp e (ap (λ l. gives g ∷ l) (to m (drop g.taken s))))

-- and what the first steps of a reader give
pub whole_steps : (src : Bor (List ℕ)) → steps (length (whole_of src.now)) (at_front src) ≡ map gives (whole_of src.now)
whole_steps src = steps_from_front (length (whole_of src.now)) src ∙ whole_read src.now

-- reading is refused behind them
pub whole_ends : (bytes : List ℕ) → (n : ℕ) × (read_at bytes (taken_by (whole_of bytes)) ≡ refused n)
unfolding whole_of
whole_ends bytes = to (length bytes) bytes (omega arith)
  where
    to : (m : ℕ) (s : List ℕ) → length s ≤ m → (n : ℕ) × (read_of (drop (taken_by (whole_to m s)) s) ≡ refused n)
    to zero s h = (7, read_empty s (omega arith))
    to (suc m) s h = result_cases (read_of s)
        (λ n e. (n, rw e e))
        (λ g e. let t = taken s e in rw (e, ← drop-drop) (to m (drop g.taken s) (simp length-drop (omega arith))))

-- ---- a count of them, by steps

-- events were counted up to the place at: what is left has the rest of the count
abbrev pub Counted : (bytes : List ℕ) (events at : ℕ) → Type 0
Counted bytes events at =
    (events + length (whole_of (left_at bytes at)) ≡ length (whole_of bytes))
    × (at + taken_by (whole_of (left_at bytes at)) ≡ taken_by (whole_of bytes))
    × (events ≤ at)
    × (at ≤ length bytes)

pub counted_none : (bytes : List ℕ) → Counted bytes 0 0
counted_none bytes = (zero-add _, zero-add _, omega arith, omega arith)

module _ (r : Reader) (events : ℕ) (counted : Counted r.src.now events r.at) where
  -- a refusal ends the count
  pub counted_all : (answer : told.Result Got Refusal) (after : Reader) → moved answer after ≡ next_of r → false ≡ is_ok answer
      → record { events = events; at = after.at } ≡ front_of r.src.now
  counted_all (Ok g) after step e = absurd (cc)
  counted_all (Err why) after step e =
      let refused_at : read_at r.src.now r.at ≡ refused (number why) = sym (ap (λ z. z.result) step) in
      let none = whole_refused (left_at r.src.now r.at) (number why) refused_at in
      let count : events ≡ length (whole_of r.src.now) = sym (add-zero events) ∙ rw none at counted.0 in
      let place : r.at ≡ taken_by (whole_of r.src.now) = sym (add-zero r.at) ∙ rw none at counted.1 in
      let stays : after.at ≡ r.at = ap (λ z. z.reader.at) step ∙ rw refused_at in
      rw (stays, ← count, ← place)

  -- an event leads on, within the bytes, and is counted
  pub counted_more : (answer : told.Result Got Refusal) (after : Reader) → moved answer after ≡ next_of r → true ≡ is_ok answer
      → (after.src.now ≡ r.src.now) × (r.at < after.at) × Counted after.src.now (events + 1) after.at
  counted_more (Err why) after step e = absurd (cc)
  counted_more (Ok g) after step e =
      let got_at : read_at r.src.now r.at ≡ gives g = sym (ap (λ z. z.result) step) in
      let same : after.src.now ≡ r.src.now = ap (λ z. z.reader.src.now) step in
      let past_at : after.at ≡ r.at + g.taken = ap (λ z. z.reader.at) step ∙ rw got_at in
      let t = simp length-drop at (taken (left_at r.src.now r.at) got_at) in
      let one = whole_gives (left_at r.src.now r.at) g got_at in
      let left : left_at r.src.now after.at ≡ drop g.taken (left_at r.src.now r.at) = rw past_at (sym (drop-drop g.taken r.at r.src.now)) in
      let count = rw one at counted.0 in
      let place = rw one at counted.1 in
      (same, omega arith, rw same (rw left (omega arith), rw (left, past_at) (omega arith), omega arith, omega arith))
