-- The blocks of a span, and references one after the other, as a loop makes them. Assumes nothing.
use Prim.Native.Nat.{ℕ, zero, suc, ◌+◌, ◌-◌, ◌*◌, ◌≤◌, ◌<◌, ◌^◌}
use mathlib.Core.Path.{◌≡◌, refl, sym, ap, ◌∙◌}
use mathlib.Core.Bool.{true, false}
use mathlib.Core.List.{List, [], ◌∷◌}
use native.Mathlib.Nat.{sub-zero}
use native.Mathlib.Omega.{arith}
use lib.Dec.{eqb, ltb}
use lib.ListN.{length, get_or}
use borrow.Author.Tests.{eqb-true, eqb-false, ltb-true, ltb-false, ne_eqb}
use Rattle.rules.specs.Lists.{has}
use Rattle.rules.specs.declared.Event.TheVariants.{Span}
use Rattle.rules.specs.declared.Reply.{Reply}
use Rattle.rules.specs.Answers.{refused, gives}
use Rattle.rules.specs.Order.{outcome}
use Rattle.rules.specs.Events.{block_bytes, block_of, last_byte, rising, blocks_in, references_of, overrun}
use Rattle.rules.specs.Layout.{Tracker}
use Rattle.rules.specs.Calls.{refer_of, refer_all, span_of}
use Rattle.rules.proofs.Tests.{cases, clash}
use Rattle.rules.proofs.Order.{not_both}
use Rattle.rules.proofs.Calls.{refer_accept, refer_either}

-- ---- rising numbers

-- place i holds the first and i more
pub rising_at : (from n i : ℕ) → i < n → get_or (rising from n) i 0 ≡ from + i
rising_at from zero i h = absurd (omega arith)
rising_at from (suc n) zero h = omega arith
rising_at from (suc n) (suc i) h = rising_at (suc from) n i (omega arith) ∙ (let q : suc from + i ≡ from + suc i = omega arith in q)

pub rising_length : (from n : ℕ) → length (rising from n) ≡ n
rising_length from zero = refl
rising_length from (suc n) = ap suc (rising_length (suc from) n)

pub rising_in : (from n b : ℕ) → from ≤ b → b < from + n → has b (rising from n) ≡ true
rising_in from zero b h k = absurd (omega arith)
rising_in from (suc n) b h k = cases (eqb b from)
    (λ e. rw e)
    (λ e. let d = eqb-false b from e in rw e (rising_in (suc from) n b (omega arith) (omega arith)))

pub rising_only : (from n b : ℕ) → has b (rising from n) ≡ true → (from ≤ b) × (b < from + n)
rising_only from zero b h = clash h refl
rising_only from (suc n) b h = cases (eqb b from)
    (λ e. let q : b ≡ from = eqb-true b from e in (omega arith, omega arith))
    (λ e. let r = rising_only (suc from) n b (simp e at h) in (omega arith, omega arith))

-- ---- the blocks of a span

module _ (offset bytes : ℕ) where
  -- each byte's block is one of them
  pub blocks_all : (byte : ℕ) → offset ≤ byte → byte < offset + bytes → has (block_of byte) (rising (block_of offset) (blocks_in offset bytes)) ≡ true
  blocks_all byte h k =
      rising_in (block_of offset) (blocks_in offset bytes) (block_of byte) (omega arith) (rw (ne_eqb bytes 0 (λ z. omega arith)) (omega arith))

  -- and each of them holds such a byte
  pub blocks_only : (b : ℕ) → has b (rising (block_of offset) (blocks_in offset bytes)) ≡ true
      → (byte : ℕ) × (offset ≤ byte) × (byte < offset + bytes) × (block_of byte ≡ b)
  blocks_only b h = cases (eqb bytes 0)
      (λ e. clash (simp e at h) refl)
      (λ e.
      let d = eqb-false bytes 0 e in
      let r = simp e at (rising_only (block_of offset) (blocks_in offset bytes) b h) in
      cases (ltb (b * block_bytes) offset)
      (λ o. let l = ltb-true (b * block_bytes) offset o in (offset, omega arith, omega arith, omega arith))
      (λ o. let l = ltb-false (b * block_bytes) offset o in (b * block_bytes, omega arith, omega arith, omega arith)))

  pub blocks_none : bytes ≡ 0 → blocks_in offset bytes ≡ 0
  blocks_none e = rw e

  pub blocks_some : (bytes ≡ 0 → ⊥) → blocks_in offset bytes ≡ suc (block_of (last_byte offset bytes) - block_of offset)
  blocks_some some = rw (ne_eqb bytes 0 some)

  -- ---- the test of 10

  -- where a span does not overrun, its last byte fits 64 bits
  pub last_fits : (bytes ≡ 0 → ⊥) → overrun offset bytes ≡ false → last_byte offset bytes < 2 ^ 64
  last_fits some o = let h = ltb-false _ (last_byte offset bytes) (rw (ne_eqb bytes 0 some) at o) in omega arith

  pub overrun_none : bytes ≡ 0 → overrun offset bytes ≡ false
  overrun_none e = rw e

  -- with no sum that could wrap
  module _ (some : bytes ≡ 0 → ⊥) (fits : offset < 2 ^ 64) where
    pub overrun_test : overrun offset bytes ≡ ltb (2 ^ 64 - 1 - offset) (bytes - 1)
    overrun_test = rw (ne_eqb bytes 0 some) (cases (ltb (2 ^ 64 - 1) (last_byte offset bytes))
        (λ o. let h = ltb-true (2 ^ 64 - 1) (last_byte offset bytes) o in cases (ltb (2 ^ 64 - 1 - offset) (bytes - 1))
        (λ p. rw (o, p))
        (λ p. absurd (omega (arith, h, ltb-false (2 ^ 64 - 1 - offset) (bytes - 1) p))))
        (λ o. let h = ltb-false (2 ^ 64 - 1) (last_byte offset bytes) o in cases (ltb (2 ^ 64 - 1 - offset) (bytes - 1))
        (λ p. absurd (omega (arith, h, ltb-true (2 ^ 64 - 1 - offset) (bytes - 1) p)))
        (λ p. rw (o, p))))

  -- the blocks of one that does not overrun stay far below
  pub blocks_fit : offset < 2 ^ 64 → overrun offset bytes ≡ false → block_of offset + blocks_in offset bytes ≤ 2 ^ 52
  blocks_fit fits o = cases (eqb bytes 0)
      (λ e. rw e (omega arith))
      (λ e. rw e (omega (arith, last_fits (eqb-false bytes 0 e) o)))

-- ---- references one after the other

-- after one that is accepted come the rest, on what it left; one that is refused ends them
pub all_on : (x : ℕ) (xs : List ℕ) (s : Tracker) {r : Reply} {m : Tracker} → refer_of x s ≡ outcome (gives r) m → refer_all (x ∷ xs) s ≡ refer_all xs m
unfolding refer_all
all_on x xs s e = rw e

pub all_refused : (x : ℕ) (xs : List ℕ) (s : Tracker) {n : ℕ} {m : Tracker} → refer_of x s ≡ outcome (refused n) m
    → refer_all (x ∷ xs) s ≡ outcome (refused n) m
unfolding refer_all
all_refused x xs s e = rw e

pub all_none : (s : Tracker) → refer_all [] s ≡ outcome (gives tt) s
unfolding refer_all
all_none s = refl

-- the same by what one reference is as a list of one
pub one_on : (x : ℕ) (xs : List ℕ) (s : Tracker) {m : Tracker} → outcome (gives tt) m ≡ refer_all (x ∷ []) s → refer_all (x ∷ xs) s ≡ refer_all xs m
one_on x xs s {m} e = refer_either x s
    (λ a. let is = refer_accept x s a in
    all_on x xs s is ∙ ap (λ o. refer_all xs o.left) (sym (e ∙ all_on x [] s is ∙ all_none _)))
    (λ n is. absurd (not_both {n = n} refl (ap (λ o. o.result) (sym (e ∙ all_refused x [] s is)))))

pub one_refused : (x : ℕ) (xs : List ℕ) (s : Tracker) {n : ℕ} {m : Tracker} → outcome (refused n) m ≡ refer_all (x ∷ []) s
    → refer_all (x ∷ xs) s ≡ outcome (refused n) m
one_refused x xs s {n} e = refer_either x s
    (λ a. absurd (not_both {n = n} refl (ap (λ o. o.result) (e ∙ all_on x [] s (refer_accept x s a) ∙ all_none _))))
    (λ k is. all_refused x xs s is ∙ sym (e ∙ all_refused x [] s is))

-- i of n references to rising blocks are made, and the rest are to make
pub record Going (from n : ℕ) (before : Tracker) (i : ℕ) (s : Tracker) : Type 0 where
  pub within : i ≤ n
  pub is : refer_all (rising from n) before ≡ refer_all (rising (from + i) (n - i)) s

pub going_none : (from n : ℕ) (s : Tracker) → Going from n s 0 s
going_none from n s =
    let q : from + 0 ≡ from = omega arith in
    record { within = omega arith; is = rw (q, sub-zero n) }

module _ {from n : ℕ} {before : Tracker} {i : ℕ} {s : Tracker} (w : Going from n before i s) where
  next : i < n → rising (from + i) (n - i) ≡ (from + i) ∷ rising (from + (i + 1)) (n - (i + 1))
  next h =
      let q : n - i ≡ suc (n - (i + 1)) = omega arith in
      let p : from + (i + 1) ≡ suc (from + i) = omega arith in
      rw (q, p)

  pub goes_on : i < n → {m : Tracker} → outcome (gives tt) m ≡ refer_all ((from + i) ∷ []) s → Going from n before (i + 1) m
  goes_on h e = record { within = omega arith; is = w.is ∙ ap (λ l. refer_all l s) (next h) ∙ one_on (from + i) _ s e }

  pub goes_refused : i < n → {k : ℕ} {m : Tracker} → outcome (refused k) m ≡ refer_all ((from + i) ∷ []) s
      → outcome (refused k) m ≡ refer_all (rising from n) before
  goes_refused h e = sym (w.is ∙ ap (λ l. refer_all l s) (next h) ∙ one_refused (from + i) _ s e)

  pub goes_whole : n ≤ i → refer_all (rising from n) before ≡ outcome (gives tt) s
  goes_whole h = let q : n - i ≡ 0 = omega arith in w.is ∙ rw q (all_none s)

-- ---- a span: 10 before any reference, or its references

module _ (offset bytes : ℕ) (s : Tracker) where
  pub span_overrun : overrun offset bytes ≡ true → span_of offset bytes s ≡ outcome (refused 10) s
  unfolding span_of
  span_overrun o = rw o

  pub span_refers : overrun offset bytes ≡ false → span_of offset bytes s ≡ refer_all (references_of (Span offset bytes)) s
  unfolding span_of
  span_refers o = rw o
