-- Reading looks only at the bytes that it takes. By the cases of a reading (`by_reading`): the first byte, the test of the length and each
-- number of the event come out the same of any bytes that begin alike. A refusal goes by the kind of event. Assumes nothing.
use Prim.Native.Nat.{ℕ, zero, suc, ◌+◌, ◌≤◌, ◌<◌}
use mathlib.Core.Path.{◌≡◌, refl, sym, ap, ◌∙◌}
use mathlib.Core.Bool.{true, false}
use mathlib.Core.List.{List, [], ◌∷◌, ◌++◌}
use native.Mathlib.Nat.{zero-add, suc-add}
use native.Mathlib.Omega.{arith}
use lib.Dec.{ltb}
use lib.ListN.{length, get_or, take, drop, length-take}
use lib.Seq.{get_or-take, take-append-le, take-nil, take-take}
use borrow.Author.Tests.{le-ltb, ltb-true, ltb-false}
use Rattle.rules.specs.declared.Event.{Event}
use Rattle.rules.specs.declared.Event.TheVariants.{Location, Span, Restart, Setup}
use Rattle.rules.specs.Answers.{Result, refused, gives}
use Rattle.rules.specs.declared.Got.{Got}
use Rattle.rules.specs.Events.{number_at, setup_body_of, overrun, overruns, if_all_there, read_of}
use Rattle.rules.proofs.Tests.{cases, clash}
use Rattle.rules.proofs.Order.{not_both}
use Rattle.rules.proofs.Events.{of_kind, by_kind, read_empty, read_kind, by_reading, taken}

-- the middle of a list, either way round
pub drop_take : (n m : ℕ) (l : List ℕ) → drop n (take (n + m) l) ≡ take m (drop n l)
drop_take zero m l = rw zero-add
drop_take (suc n) m [] = rw (suc-add, take-nil m)
drop_take (suc n) m (x ∷ l) = rw suc-add (drop_take n m l)

-- ---- an event is the same wherever the bytes that it takes stand in front

number_take : (n at m : ℕ) (s : List ℕ) → at + n ≤ m → number_at n at (take m s) ≡ number_at n at s
number_take zero at m s h = refl
number_take (suc n) at m s h =
    rw (get_or-take m s at 0 (omega arith), number_take n (suc at) m s (omega arith))

module _ (s t : List ℕ) where
  -- s and t have their first m bytes in common, and s has so many
  module _ (m : ℕ) (long : m ≤ length s) (same : take m s ≡ take m t) where
    there : m ≤ length t
    there = omega (arith, length-take m s, length-take m t, ap length same)

    number_same : (n at : ℕ) → at + n ≤ m → number_at n at t ≡ number_at n at s
    number_same n at h = sym (number_take n at m t h) ∙ ap (number_at n at) (sym same) ∙ number_take n at m s h

    kind_same : (k : ℕ) → 0 < m → get_or s 0 0 ≡ k → read_of t ≡ of_kind k t
    kind_same k some is = read_kind k t (λ z. omega (arith, there))
        (sym (get_or-take m t 0 0 some) ∙ ap (λ l. get_or l 0 0) (sym same) ∙ get_or-take m s 0 0 some ∙ is)

    all_there : ltb (length t) m ≡ false
    all_there = le-ltb _ _ there

  span_same : get_or s 0 0 ≡ 2 → (long : 13 ≤ length s) → take 13 s ≡ take 13 t
      → read_of t ≡ if_all_there 13 (Span (number_at 8 1 s) (number_at 4 9 s)) s
  span_same k l e = kind_same 13 l e 2 (omega arith) k
      ∙ simp (all_there 13 l e, number_same 13 l e 8 1 (omega arith), number_same 13 l e 4 9 (omega arith), le-ltb (length s) 13 l)

  abbrev Same : Result Got → Type 0
  Same (refused n) = Unit {0}
  Same (gives g) = take g.taken s ≡ take g.taken t → read_of t ≡ gives g

  pub read_same : {g : Got} → read_of s ≡ gives g → take g.taken s ≡ take g.taken t → read_of t ≡ gives g
  read_same h =
      rw h at (by_reading Same s (λ n. tt)
      (λ k l e. kind_same 9 l e 1 (omega arith) k ∙ simp (all_there 9 l e, number_same 9 l e 8 1 (omega arith)))
      (λ k l o e. span_same k l e ∙ simp (le-ltb (length s) 13 l, o))
      (λ k l e. kind_same 1 l e 3 (omega arith) k ∙ simp (all_there 1 l e))
      (λ k l e. kind_same 18 l e 4 (omega arith) k
      ∙ simp (
        all_there 18 l e,
        number_same 18 l e 4 1 (omega arith),
        number_same 18 l e 4 5 (omega arith),
        number_same 18 l e 4 9 (omega arith),
        number_same 18 l e 4 13 (omega arith),
        number_same 18 l e 1 17 (omega arith),
      )))

-- with more bytes behind
pub read_more : (s more : List ℕ) {g : Got} → read_of s ≡ gives g → read_of (s ++ more) ≡ gives g
read_more s more {g} h = read_same s (s ++ more) h (sym (take-append-le g.taken s more (taken s h).1))

-- with fewer, if it has all of its own
pub read_front : (n : ℕ) (s : List ℕ) {g : Got} → read_of s ≡ gives g → g.taken ≤ n → read_of (take n s) ≡ gives g
read_front n s {g} h l = read_same s (take n s) h (sym (take-take g.taken n s l))

-- ---- a refusal: 7 where there are too few bytes, or 8 or 10, whatever stands behind

-- a span that overruns has all its bytes there
pub record Overrunning (s : List ℕ) (m : ℕ) : Type 0 where
  pub ten : m ≡ 10
  pub span : get_or s 0 0 ≡ 2
  pub long : 13 ≤ length s
  pub over : overrun (number_at 8 1 s) (number_at 4 9 s) ≡ true

kind_refused : {C : Type 0} (k : ℕ) (s : List ℕ) {m : ℕ} → get_or s 0 0 ≡ k → of_kind k s ≡ refused m → ((m ≡ 7) × (length s < 18) → C)
    → (m ≡ 8 → ((t : List ℕ) → of_kind k t ≡ refused 8) → C) → (Overrunning s m → C) → C
kind_refused {C} k s {m} first is short other over = by_kind k
    (λ e. too_few 9 (Location (number_at 8 1 s)) (omega arith) refl (rw e at is))
    (λ e. whole_refused 13 (Span (number_at 8 1 s) (number_at 4 9 s)) (omega arith) (rw e at is)
    (λ q l o. over (record { ten = q; span = first ∙ e; long = l; over = o })))
    (λ e. too_few 1 Restart (omega arith) refl (rw e at is))
    (λ e. too_few 18 (Setup (setup_body_of s)) (omega arith) refl (rw e at is))
    (λ u. other (let q = simp u at is in cc) (λ t. simp u))
  where
    whole_refused : (n : ℕ) (e : Event) → n ≤ 18 → if_all_there n e s ≡ refused m → (m ≡ 10 → n ≤ length s → overruns e ≡ true → C) → C
    whole_refused n e h is ten = cases (ltb (length s) n)
        (λ l. short ((let q = simp l at is in cc), omega (arith, ltb-true (length s) n l)))
        (λ l. cases (overruns e)
        (λ o. ten (let q = simp (l, o) at is in cc) (ltb-false (length s) n l) o)
        (λ o. absurd (not_both {a = record { event = e; taken = n }} is (simp (l, o)))))

    too_few : (n : ℕ) (e : Event) → n ≤ 18 → overruns e ≡ false → if_all_there n e s ≡ refused m → C
    too_few n e h none is = whole_refused n e h is (λ q l o. clash o none)

kind_first : (x : ℕ) (s : List ℕ) → read_of (x ∷ s) ≡ of_kind x (x ∷ s)
kind_first x s = read_kind x (x ∷ s) (λ z. omega arith) refl

-- 7: no event has more than 18 bytes
pub read_short : (s : List ℕ) → read_of s ≡ refused 7 → length s < 18
read_short [] is = omega arith
read_short (x ∷ s) is = kind_refused x (x ∷ s) refl (sym (kind_first x s) ∙ is)
    (λ w. w.1)
    (λ z q. absurd (omega arith))
    (λ o. absurd (omega (arith, o.ten)))

-- 8 or 10
pub read_named : {C : Type 0} (s : List ℕ) {m : ℕ} → (m ≡ 7 → ⊥) → read_of s ≡ refused m → (m ≡ 8 → C) → (m ≡ 10 → C) → C
read_named [] other is eight ten = absurd (other (cc (read_empty [] refl)))
read_named (x ∷ s) other is eight ten = kind_refused x (x ∷ s) refl (sym (kind_first x s) ∙ is)
    (λ w. absurd (other w.0))
    (λ z q. eight z)
    (λ o. ten o.ten)

pub read_refused : (s more : List ℕ) {m : ℕ} → (m ≡ 7 → ⊥) → read_of s ≡ refused m → read_of (s ++ more) ≡ refused m
read_refused [] more other is = absurd (other (cc (read_empty [] refl)))
read_refused (x ∷ s) more other is = kind_refused x (x ∷ s) refl (sym (kind_first x s) ∙ is)
    (λ w. absurd (other w.0))
    (λ z q. kind_first x (s ++ more) ∙ q (x ∷ s ++ more) ∙ ap refused (sym z))
    (λ o. span_same (x ∷ s) (x ∷ s ++ more) o.span o.long (sym (take-append-le 13 (x ∷ s) more o.long))
    ∙ simp (le-ltb (length (x ∷ s)) 13 o.long, o.over) (ap refused (sym o.ten)))
