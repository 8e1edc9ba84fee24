-- How feeding goes, event by event, and one way to show a thing of every feeding (`by_feeding`). By induction on the number of bytes: an event
-- that is read takes at least one, so fewer are left. Assumes nothing.
use Prim.Native.Nat.{ℕ, zero, suc, ◌≤◌, ◌<◌}
use mathlib.Core.Path.{◌≡◌, refl, sym, ap, subst, subst₂, ◌∙◌}
use mathlib.Core.Bool.{Bool, true, false, cond}
use mathlib.Core.List.{List, [], ◌∷◌, ◌++◌, append-nil}
use native.Mathlib.Nat.{not-suc-le-zero}
use native.Mathlib.Omega.{arith}
use lib.Dec.{eqb}
use lib.ListN.{length, drop, length-drop}
use borrow.Author.Tests.{eq-eqb, ne_eqb, eqb-true, eqb-false}
use Rattle.rules.specs.declared.Event.{Event}
use Rattle.rules.specs.declared.Event.TheVariants.{Location, Span, Restart, Setup}
use Rattle.rules.specs.Settings.{with_defaults}
use Rattle.rules.specs.Answers.{Result, refused, gives}
use Rattle.rules.specs.declared.Got.{Got}
use Rattle.rules.specs.Order.{Outcome, outcome}
use Rattle.rules.specs.Events.{read_of, settings_of, references_of, fresh_start}
use Rattle.rules.specs.Layout.{Tracker, fresh}
use Rattle.rules.specs.Calls.{apply_of}
use Rattle.rules.proofs.Tests.{cases, clash}
use Rattle.rules.proofs.Events.{taken}
use Rattle.rules.proofs.Calls.{setup_either, restart_either}
use Rattle.demands.specs.Runs.{Run, setup, restart, onto}
use Rattle.demands.specs.Spans.{Made, none, Ends, all, next, overrun}
use Rattle.demands.specs.Needed.{settings_under}
use Rattle.demands.proofs.Spans.{made_settings, events_one_by_one}
use Rattle.feed.specs.declared.End.TheVariants.{Whole, Inside}
use Rattle.feed.specs.Feed.{Feeding, stopped, further, after_event, after_reading, first_then, feed_most, feed_of}
use Rattle.feed.specs.Past.{past_after}

-- ---- one event: either all of it is taken, or it is refused, and of a span a first part is made

abbrev pub taking : Tracker → Outcome (Unit {0}) Tracker
taking s = record { result = gives tt; left = s }

-- an event that was taken continues any run, and a fresh start begins one; its settings are in force then
pub record Took (e : Event) (s left : Tracker) : Type 0 where
  pub is : apply_of e s ≡ taking left
  pub runs : (past : List ℕ) → Run past s → Run (past_after e past) left
  pub begins : fresh_start e ≡ true → (past : List ℕ) → Run (past_after e past) left
  pub under : left.kept.settings ≡ settings_under e s.kept.settings

-- one that was refused leaves what the first part of its references left
pub record Stopped (e : Event) (s : Tracker) (n : ℕ) (left : Tracker) : Type 0 where
  pub is : apply_of e s ≡ outcome (refused n) left
  pub made : List ℕ
  pub rest : List ℕ
  pub are : made ++ rest ≡ references_of e
  pub accepted : Made made s left

-- why references ended: all are made, or one is refused
ended : {C : Type 0} {over : Bool} {s : Tracker} {made rest : List ℕ} {o : Outcome (Unit {0}) Tracker} → Ends over s made rest o
    → ((left : Tracker) → rest ≡ [] → o ≡ taking left → C) → ((n : ℕ) (left : Tracker) → o ≡ outcome (refused n) left → C) → C
ended (all {left = left}) f g = f left refl refl
ended (next {left = left} {n = n} e) f g = g n left refl
ended (overrun {before = before}) f g = g 10 before refl

module _ {C : Type 0} (s : Tracker) where
  module _ (e : Event) (f : (left : Tracker) → Took e s left → C) (g : (n : ℕ) (left : Tracker) → Stopped e s n left → C) where
    references : fresh_start e ≡ false → s.kept.settings ≡ settings_under e s.kept.settings
        → ((past : List ℕ) → past_after e past ≡ onto (references_of e) past) → C
    references not same after =
        let w = events_one_by_one e s not in
        ended w.ends
        (λ left none is.
        let whole : w.made ≡ references_of e = sym (append-nil w.made) ∙ ap (λ l. w.made ++ l) (sym none) ∙ w.are in
        f left (record {
          is = is;
          runs = λ past r. subst₂ Run (ap (λ l. onto l past) whole ∙ sym (after past)) (ap (λ o. o.left) is) (w.continued past r);
          begins = λ b. clash b not;
          under = ap (λ o. o.left.kept.settings) (sym is) ∙ made_settings w.accepted ∙ same;
        }))
        (λ n left is. g n left (record {
          is = is;
          made = w.made;
          rest = w.rest;
          are = w.are;
          accepted = subst (Made w.made s) (ap (λ o. o.left) is) w.accepted;
        }))

    -- a fresh start that is refused changes nothing
    no_start : references_of e ≡ [] → (n : ℕ) → apply_of e s ≡ outcome (refused n) s → C
    no_start bare n is = g n s (record { is = is; made = []; rest = []; are = sym bare; accepted = none })

  pub apply_either : (e : Event) → ((left : Tracker) → Took e s left → C) → ((n : ℕ) (left : Tracker) → Stopped e s n left → C) → C
  unfolding apply_of
  apply_either (Location x) f g = references (Location x) f g refl refl (λ past. refl)
  apply_either (Span offset n) f g = references (Span offset n) f g refl refl (λ past. refl)
  apply_either Restart f g = restart_either s.kept s.tables
      (λ b. f (fresh s.kept.settings s.tables)
      (record {
        is = rw b.is;
        runs = λ past r. restart s.kept s.tables b.is;
        begins = λ t past. restart s.kept s.tables b.is;
        under = refl;
      }))
      (λ n q. no_start Restart f g refl n (rw q))
  apply_either (Setup b) f g = setup_either (settings_of b) s.tables
      (λ w. f (fresh (with_defaults (settings_of b)) s.tables)
      (record {
        is = rw w.is;
        runs = λ past r. setup (settings_of b) s.tables w.is;
        begins = λ t past. setup (settings_of b) s.tables w.is;
        under = refl;
      }))
      (λ n q. no_start (Setup b) f g refl n (rw q))

-- ---- the first event, and then more

-- what comes after the first event is all that counts of what comes then
module _ (bytes : List ℕ) (s : Tracker) (next other : List ℕ → Tracker → Feeding)
    (same : (g : Got) → read_of bytes ≡ gives g → (left : Tracker) → next (drop g.taken bytes) left ≡ other (drop g.taken bytes) left) where
  event_same : (g : Got) → read_of bytes ≡ gives g → (said : Result (Unit {0})) (left : Tracker)
      → after_event next g.taken bytes said left ≡ after_event other g.taken bytes said left
  event_same g e (refused n) left = refl
  event_same g e (gives u) left = ap (further g.taken) (same g e left)

  reading_same : (r : Result Got) → read_of bytes ≡ r → after_reading next bytes r s ≡ after_reading other bytes r s
  reading_same (refused n) e = refl
  reading_same (gives g) e = event_same g e (apply_of g.event s).result (apply_of g.event s).left

  first_same : first_then next bytes s ≡ first_then other bytes s
  first_same = ap (cond (eqb (length bytes) 0) (stopped (gives Whole) s)) (reading_same (read_of bytes) refl)

-- what is left after an event is less
less : (bytes : List ℕ) {g : Got} {n : ℕ} → read_of bytes ≡ gives g → length bytes ≤ suc n → length (drop g.taken bytes) ≤ n
less bytes {g} e h = rw length-drop (omega (arith, taken bytes e))

-- as many events as there are bytes are enough
most_same : (n m : ℕ) (bytes : List ℕ) (s : Tracker) → length bytes ≤ n → length bytes ≤ m → feed_most n bytes s ≡ feed_most m bytes s
unfolding feed_most
most_same zero zero bytes s h k = refl
most_same zero (suc m) [] s h k = refl
most_same zero (suc m) (x ∷ bytes) s h k = absurd (not-suc-le-zero h)
most_same (suc n) zero [] s h k = refl
most_same (suc n) zero (x ∷ bytes) s h k = absurd (not-suc-le-zero k)
most_same (suc n) (suc m) bytes s h k =
    first_same bytes s (feed_most n) (feed_most m) (λ g e left. most_same n m (drop g.taken bytes) left (less bytes e h) (less bytes e k))

pub first_then_lem : (bytes : List ℕ) (s : Tracker) → feed_of bytes s ≡ first_then feed_of bytes s
unfolding feed_of feed_most
first_then_lem [] s = refl
first_then_lem (x ∷ bytes) s =
    first_same (x ∷ bytes) s (feed_most (length bytes)) feed_of
    (λ g e left. most_same (length bytes) (length (drop g.taken (x ∷ bytes))) (drop g.taken (x ∷ bytes)) left (less (x ∷ bytes) e (omega arith))
    (omega arith))

-- ---- each way that feeding goes

module _ (bytes : List ℕ) (s : Tracker) where
  pub feed_none : length bytes ≡ 0 → feed_of bytes s ≡ stopped (gives Whole) s
  feed_none h = first_then_lem bytes s ∙ rw (eq-eqb _ _ h)

  module _ (some : 0 < length bytes) where
    pub feed_reads : (r : Result Got) → read_of bytes ≡ r → feed_of bytes s ≡ after_reading feed_of bytes r s
    feed_reads r e = first_then_lem bytes s ∙ rw (ne_eqb (length bytes) 0 (λ z. omega arith), e)

-- ---- to show P of what feeding comes to, show it of each way to stop, and of an event with what comes after it

module _ (P : List ℕ → Tracker → Feeding → Type 0)
    (ends : (s : Tracker) → P [] s (stopped (gives Whole) s))
    (cut : (bytes : List ℕ) (s : Tracker) → 0 < length bytes → read_of bytes ≡ refused 7 → P bytes s (stopped (gives Inside) s))
    (unknown : (bytes : List ℕ) (s : Tracker) (n : ℕ) → (n ≡ 7 → ⊥) → 0 < length bytes → read_of bytes ≡ refused n → P bytes s (stopped (refused n) s))
    (refuses : (bytes : List ℕ) (s : Tracker) (g : Got) (n : ℕ) (left : Tracker) → read_of bytes ≡ gives g → Stopped g.event s n left
    → P bytes s (stopped (refused n) left))
    (goes : (bytes : List ℕ) (s : Tracker) (g : Got) (left : Tracker) → read_of bytes ≡ gives g → Took g.event s left
    → P (drop g.taken bytes) left (feed_of (drop g.taken bytes) left)
    → P bytes s (further g.taken (feed_of (drop g.taken bytes) left))) where
  abbrev Most : ℕ → Type 0
  Most n = (bytes : List ℕ) (s : Tracker) → length bytes ≤ n → P bytes s (feed_of bytes s)

  reading : (n : ℕ) → Most n → (bytes : List ℕ) (s : Tracker) → 0 < length bytes → length bytes ≤ suc n → (r : Result Got) → read_of bytes ≡ r
      → P bytes s (after_reading feed_of bytes r s)
  reading n rest bytes s some h (refused m) e = cases (eqb m 7)
      (λ q. rw q (cut bytes s some (e ∙ ap refused (eqb-true m 7 q))))
      (λ q. rw q (unknown bytes s m (eqb-false m 7 q) some e))
  reading n rest bytes s some h (gives g) e = apply_either s g.event
      (λ left t. rw t.is (goes bytes s g left e t (rest (drop g.taken bytes) left (less bytes e h))))
      (λ m left q. rw q.is (refuses bytes s g m left e q))

  one_more : (n : ℕ) → Most n → Most (suc n)
  one_more n rest [] s h = rw (feed_none [] s refl) (ends s)
  one_more n rest (x ∷ bytes) s h =
      rw (feed_reads (x ∷ bytes) s (omega arith) (read_of (x ∷ bytes)) refl) (reading n rest (x ∷ bytes) s (omega arith) h (read_of (x ∷ bytes)) refl)

  most : (n : ℕ) → Most n
  most zero [] s h = rw (feed_none [] s refl) (ends s)
  most zero (x ∷ bytes) s h = absurd (not-suc-le-zero h)
  most (suc n) bytes s h = one_more n (most n) bytes s h

  pub by_feeding : (bytes : List ℕ) (s : Tracker) → P bytes s (feed_of bytes s)
  by_feeding bytes s = most (length bytes) bytes s (omega arith)
