-- Laws of reading and writing: which case it is, and what holds of any reading. `by_kind` goes by the first byte; `by_reading` shows a thing of
-- every reading by that byte, by whether all of the event's bytes are there, and by whether it overruns. Assumes nothing.
use Prim.Native.Nat.{ℕ, ◌≤◌, ◌<◌}
use mathlib.Core.Path.{◌≡◌, refl, sym, ap, ◌∙◌}
use mathlib.Core.Bool.{true, false, cond}
use mathlib.Core.List.{List}
use native.Mathlib.Nat.{zero-add}
use native.Mathlib.Omega.{arith}
use lib.Dec.{eqb, ltb}
use lib.ListN.{length, get_or}
use lib.Seq.{sets, sets-eq}
use borrow.Author.Tests.{eq-eqb, ne_eqb, lt-ltb, le-ltb, eqb-true, eqb-false, ltb-true, ltb-false}
use Rattle.rules.specs.declared.Event.{Event}
use Rattle.rules.specs.declared.Event.TheVariants.{Location, Span, Restart, Setup}
use Rattle.std.specs.Prelude.{Ok}
use Rattle.std.specs.declared.result.Result as told
use Rattle.rules.specs.declared.Refusal.{Refusal}
use Rattle.rules.specs.Lists.{over}
use Rattle.rules.specs.Answers.{Result, refused, gives, result_of}
use Rattle.rules.specs.declared.Got.{Got}
use Rattle.rules.specs.Order.{outcome}
use Rattle.rules.specs.Events.{number_at, event_bytes, event_length, setup_body_of, overrun, overruns, unknown, whole_length, event_of, read_of}
use Rattle.rules.specs.Events.{if_all_there, write_of}
use Rattle.rules.proofs.Tests.{cases, neither}
use Rattle.rules.proofs.Order.{not_both}

-- ---- which case of reading it is

abbrev pub got : Event → ℕ → Result Got
got e n = gives (record { event = e; taken = n })

-- the rule of reading, with k for the first byte
abbrev pub of_kind : (k : ℕ) → List ℕ → Result Got
of_kind k s = cond (unknown k) (refused 8) (if_all_there (whole_length k) (event_of k s) s)

-- a first byte is one of the four kinds, or none is
pub by_kind : {C : Type 0} (k : ℕ) → (k ≡ 1 → C) → (k ≡ 2 → C) → (k ≡ 3 → C) → (k ≡ 4 → C) → (unknown k ≡ true → C) → C
by_kind k location span restart setup other = cases (unknown k) other
    (λ u. let n = neither {a = eqb k 0} {b = ltb 4 k} u in cases (eqb k 1)
    (λ a. location (eqb-true _ _ a))
    (λ a. cases (eqb k 2)
    (λ b. span (eqb-true _ _ b))
    (λ b. cases (eqb k 3)
    (λ c. restart (eqb-true _ _ c))
    (λ c. setup (omega (arith, eqb-false k 0 n.0, ltb-false 4 k n.1, eqb-false k 1 a, eqb-false k 2 b, eqb-false k 3 c))))))

pub read_empty : (s : List ℕ) → length s ≡ 0 → read_of s ≡ refused 7
unfolding read_of
read_empty s h = simp (eq-eqb _ _ h)

pub read_kind : (k : ℕ) (s : List ℕ) → (length s ≡ 0 → ⊥) → get_or s 0 0 ≡ k → read_of s ≡ of_kind k s
unfolding read_of
read_kind k s any is = simp (ne_eqb _ _ any, is)

pub read_other : (s : List ℕ) → (length s ≡ 0 → ⊥) → (get_or s 0 0 ≡ 1 → ⊥) → (get_or s 0 0 ≡ 2 → ⊥) → (get_or s 0 0 ≡ 3 → ⊥) → (get_or s 0 0 ≡ 4 → ⊥)
    → read_of s ≡ refused 8
read_other s any a b c d = by_kind (get_or s 0 0) (λ e. absurd (a e)) (λ e. absurd (b e)) (λ e. absurd (c e)) (λ e. absurd (d e))
    (λ u. read_kind (get_or s 0 0) s any refl ∙ simp u)

-- ---- an event with all its bytes there, or with too few

module _ (n : ℕ) (s : List ℕ) where
  pub whole_fits : {e f : Event} → e ≡ f → overruns f ≡ false → n ≤ length s → got e n ≡ if_all_there n f s
  whole_fits is o h = simp (le-ltb _ _ h, o) (ap (λ z. got z n) is)

  pub whole_overruns : {e f : Event} → e ≡ f → overruns e ≡ true → n ≤ length s → refused 10 ≡ if_all_there n f s
  whole_overruns is o h = simp (le-ltb _ _ h, ← is, o)

  pub whole_short : (e : Event) → length s < n → refused 7 ≡ if_all_there n e s
  whole_short e h = simp (lt-ltb _ _ h)

-- ---- what holds of any reading

-- to show P of a reading, show it of refusals, and of each kind of event where all its bytes are there and it does not overrun
module _ (P : Result Got → Type 0) (s : List ℕ) (none : (n : ℕ) → P (refused n)) where
  by_whole : (n : ℕ) (e : Event) → read_of s ≡ if_all_there n e s → (n ≤ length s → overruns e ≡ false → P (got e n)) → P (read_of s)
  by_whole n e is f = cases (ltb (length s) n)
      (λ h. rw (is, h) (none 7))
      (λ h. cases (overruns e)
      (λ o. rw (is, h, o) (none 10))
      (λ o. rw (is, h, o) (f (ltb-false _ _ h) o)))

  pub by_reading :
      (get_or s 0 0 ≡ 1 → 9 ≤ length s → P (got (Location (number_at 8 1 s)) 9))
      → (get_or s 0 0 ≡ 2 → 13 ≤ length s → overrun (number_at 8 1 s) (number_at 4 9 s) ≡ false → P (got (Span (number_at 8 1 s) (number_at 4 9 s)) 13))
      → (get_or s 0 0 ≡ 3 → 1 ≤ length s → P (got Restart 1))
      → (get_or s 0 0 ≡ 4 → 18 ≤ length s → P (got (Setup (setup_body_of s)) 18))
      → P (read_of s)
  by_reading location span restart setup = cases (eqb (length s) 0)
      (λ z. rw (read_empty s (eqb-true _ _ z)) (none 7))
      (λ z. let any = eqb-false _ _ z in by_kind (get_or s 0 0)
      (λ k. by_whole 9 _ (read_kind 1 s any k) (λ l o. location k l))
      (λ k. by_whole 13 _ (read_kind 2 s any k) (span k))
      (λ k. by_whole 1 _ (read_kind 3 s any k) (λ l o. restart k l))
      (λ k. by_whole 18 _ (read_kind 4 s any k) (λ l o. setup k l))
      (λ u. rw (read_kind (get_or s 0 0) s any refl, u) (none 8)))

-- what is taken is something, and lies within the bytes
abbrev Within : List ℕ → Result Got → Type 0
Within s (refused n) = Unit {0}
Within s (gives g) = (0 < g.taken) × (g.taken ≤ length s)

pub taken : (s : List ℕ) {g : Got} → read_of s ≡ gives g → (0 < g.taken) × (g.taken ≤ length s)
taken s h = rw h at (by_reading (Within s) s (λ n. tt) (λ k l. omega arith) (λ k l o. omega arith) (λ k l. omega arith) (λ k l. omega arith))

-- the same of an answer, for a caller's loop
pub got_taken : (s : List ℕ) {r : told.Result Got Refusal} {g : Got} → result_of r ≡ read_of s → r ≡ Ok g → (0 < g.taken) × (g.taken ≤ length s)
got_taken s said is = taken s (sym said ∙ ap result_of is)

-- ---- writing

module _ (e : Event) (buffer : List ℕ) where
  pub write_overrun : overruns e ≡ true → write_of e buffer ≡ record { result = refused 10; left = buffer }
  unfolding write_of
  write_overrun o = simp o

  pub write_short : overruns e ≡ false → length buffer < event_length e → write_of e buffer ≡ record { result = refused 2; left = buffer }
  unfolding write_of
  write_short o h = simp (o, lt-ltb _ _ h)

  pub write_fits : overruns e ≡ false → event_length e ≤ length buffer
      → write_of e buffer ≡ record { result = gives (event_length e); left = over (event_bytes e) buffer }
  unfolding write_of
  write_fits o h = simp (o, le-ltb _ _ h)

  -- the event's bytes, put one by one from the front
  pub write_puts : overruns e ≡ false → event_length e ≤ length buffer
      → write_of e buffer ≡ record { result = gives (event_length e); left = sets buffer 0 (event_bytes e) }
  write_puts o h =
      let puts : sets buffer 0 (event_bytes e) ≡ over (event_bytes e) buffer = sets-eq (event_bytes e) buffer 0 (omega arith) ∙ simp zero-add in
      rw puts (write_fits o h)

  -- and a buffer in which they are put, with their number answered, is what writing leaves
  pub write_done : {n : ℕ} {after : List ℕ} → overruns e ≡ false → n ≡ event_length e → n ≤ length buffer → after ≡ sets buffer 0 (event_bytes e)
      → outcome (gives n) after ≡ write_of e buffer
  write_done o size fits put = rw (size, put) (sym (write_puts o (rw size at fits)))

  -- where something was filled it is the event, over the front of the buffer, and it does not overrun
  pub write_filled : (n : ℕ) (after : List ℕ) → outcome (gives n) after ≡ write_of e buffer
      → (n ≡ event_length e) × (after ≡ over (event_bytes e) buffer) × (overruns e ≡ false)
  write_filled n after w = cases (overruns e)
      (λ o. absurd (not_both (ap (λ z. z.result) (w ∙ write_overrun o)) refl))
      (λ o. cases (ltb (length buffer) (event_length e))
      (λ h. absurd (not_both (ap (λ z. z.result) (w ∙ write_short o (ltb-true _ _ h))) refl))
      (λ h. let k = w ∙ write_fits o (ltb-false _ _ h) in ((let q = ap (λ z. z.result) k in cc), ap (λ z. z.left) k, o)))
