-- Which blocks a span refers to, and that references are made one by one: all of a list, or a first part and then one that is refused, on
-- what that part left. By induction on the list. Assumes nothing.
use Prim.Native.Nat.{ℕ, ◌+◌, ◌-◌, ◌^◌, ◌<◌}
use mathlib.Core.Path.{◌≡◌, refl, sym, ap, subst, ◌∙◌}
use mathlib.Core.Bool.{false, cond}
use mathlib.Core.List.{List, [], ◌∷◌, ◌++◌}
use native.Mathlib.Omega.{arith}
use lib.Dec.{eqb}
use lib.ListN.{length, get_or}
use borrow.Author.Tests.{eqb-false, ltb-true}
use Rattle.rules.specs.declared.Event.TheVariants.{Location, Span, Restart, Setup}
use Rattle.rules.specs.declared.Reply.{Reply}
use Rattle.rules.specs.Answers.{refused, gives}
use Rattle.rules.specs.Order.{Outcome, outcome}
use Rattle.rules.specs.Events.{block_of, last_byte, blocks_in, references_of, overrun}
use Rattle.rules.specs.Layout.{Tracker, stored}
use Rattle.rules.specs.Conditions.{too_short, torn_record, torn_for, full}
use Rattle.rules.specs.Calls.{step_of, refer_of, refer_all, span_of, apply_of}
use Rattle.rules.specs.History.{Reference}
use Rattle.rules.proofs.Tests.{cases, clash}
use Rattle.rules.proofs.Calls.{refer_full, refer_bucket, refer_accept, refer_accepted, refer_either, counted_references, left_whole, left_long}
use Rattle.rules.proofs.Spans.{rising_length, rising_at, blocks_all, blocks_only, last_fits, all_on, all_refused, all_none, span_overrun, span_refers}
use Rattle.demands.specs.Runs.{Run, refer, onto}
use Rattle.demands.specs.Spans.{Expansion, Expanded, Made, none, more, Ends, all, next, overrun as overrun-first, OneByOne, EventsOneByOne}
use Rattle.demands.specs.Spans.{PassesEnd, OverrunsPast, OnlyInside}

-- ---- which blocks

module _ (offset bytes : ℕ) where
  abbrev many : ℕ
  many = blocks_in offset bytes

  long : length (references_of (Span offset bytes)) ≡ many
  long = rising_length (block_of offset) many

  at : (i : ℕ) → i < many → get_or (references_of (Span offset bytes)) i 0 ≡ block_of offset + i
  at i = rising_at (block_of offset) many i

  expansion : Expansion offset bytes
  expansion = record {
    all = blocks_all offset bytes;
    only = λ b h. let w = blocks_only offset bytes b h in record { byte = w.0; from = w.1; below = w.2; in_block = w.3 };
    rising = λ i j h l. omega (arith, at i (omega (arith, long)), at j (omega (arith, long)));
    few = λ h. cases (eqb bytes 0)
        (λ e. rw (long, e) (omega arith))
        (λ e. rw (long, e) (omega (arith, eqb-false bytes 0 e)));
  }

  passes_end : PassesEnd offset bytes
  passes_end = record {
    past = λ o. cases (eqb bytes 0)
        (λ e. clash o (rw e))
        (λ e. (omega (arith, eqb-false bytes 0 e), ltb-true (2 ^ 64 - 1) (last_byte offset bytes) (rw e at o)));
    within = λ o byte h k. omega (arith, last_fits offset bytes (λ z. omega arith) o);
  }

pub expanded : Expanded
expanded = expansion

pub overruns_past : OverrunsPast
overruns_past = passes_end

-- ---- references that were made

-- an accepted reference leaves what the rules' step leaves
left_is : (x : Reference) {r : Reply} (s : Tracker) {m : Tracker} → refer_of x s ≡ outcome (gives r) m → m ≡ stored (step_of x s) s
left_is x {r} s e = ap (λ o. o.left) (sym e ∙ refer_accept x s (refer_accepted x s r (ap (λ o. o.result) e)))

pub made_counted : {xs : List Reference} {s after : Tracker} → Made xs s after
    → after.kept.numbers.references ≡ s.kept.numbers.references + length xs
made_counted none = omega arith
made_counted (more {x} {xs} {r} {s} {middle} {after} e t) = omega (
  arith,
  made_counted t,
  ap (λ z. z.kept.numbers.references) (left_is x s e),
  counted_references (step_of x s).reply s.kept.numbers,
)

pub made_continues : {xs : List Reference} {s after : Tracker} → Made xs s after → (past : List Reference) → Run past s → Run (onto xs past) after
made_continues none past run = run
made_continues (more {x} e t) past run = made_continues t (x ∷ past) (refer run e)

pub made_settings : {xs : List Reference} {s after : Tracker} → Made xs s after → after.kept.settings ≡ s.kept.settings
made_settings none = refl
made_settings (more {x} {xs} {r} {s} {middle} {after} e t) = made_settings t ∙ ap (λ z. z.kept.settings) (left_is x s e)

-- where the number of references is the same, none was made, and nothing has changed
pub made_none : {xs : List Reference} {s after : Tracker} → Made xs s after → after.kept.numbers.references ≡ s.kept.numbers.references
    → after ≡ s
made_none none e = refl
made_none (more q t) e = absurd (omega (arith, made_counted (more q t)))

-- ---- any list of references, made one by one

module _ (s : Tracker) where
  one_by_one : (xs : List Reference) {o : Outcome (Unit {0}) Tracker} (made rest : List Reference) → made ++ rest ≡ xs → Made made s o.left
      → Ends false s made rest o → OneByOne false xs s o
  one_by_one xs made rest are m ends = record {
    made = made;
    rest = rest;
    are = are;
    accepted = m;
    counted = made_counted m;
    continued = made_continues m;
    ends = ends;
  }

ends_on : {before middle : Tracker} (x : Reference) {made rest : List Reference} {o : Outcome (Unit {0}) Tracker}
    → Ends false middle made rest o → Ends false before (x ∷ made) rest o
ends_on x all = all
ends_on x (next e) = next e

pub refer_all_lem : (xs : List Reference) (s : Tracker) → OneByOne false xs s (refer_all xs s)
refer_all_lem [] s = rw (all_none s) (one_by_one s [] [] [] refl none all)
refer_all_lem (x ∷ xs) s = refer_either x s
    (λ a. let m = stored (step_of x s) s in
    let w = refer_all_lem xs m in
    rw (all_on x xs s (refer_accept x s a))
    (one_by_one s (x ∷ xs) (x ∷ w.made) w.rest (ap (λ l. x ∷ l) w.are) (more (refer_accept x s a) w.accepted) (ends_on x w.ends)))
    (λ n e. rw (all_refused x xs s e) (one_by_one s (x ∷ xs) [] (x ∷ xs) refl none (next e)))

-- ---- an event

span_one_by_one : (offset bytes : ℕ) (s : Tracker) → OneByOne (overrun offset bytes) (references_of (Span offset bytes)) s (span_of offset bytes s)
span_one_by_one offset bytes s = cases (overrun offset bytes)
    (λ o. rw (o, span_overrun offset bytes s o) (record {
      made = [];
      rest = references_of (Span offset bytes);
      are = refl;
      accepted = none;
      counted = omega arith;
      continued = λ past run. run;
      ends = overrun-first;
    }))
    (λ o. rw (o, span_refers offset bytes s o) (refer_all_lem (references_of (Span offset bytes)) s))

pub events_one_by_one : EventsOneByOne
unfolding apply_of
events_one_by_one (Location x) s f = refer_all_lem (x ∷ []) s
events_one_by_one (Span offset bytes) s f = span_one_by_one offset bytes s
events_one_by_one Restart s f = clash refl f
events_one_by_one (Setup b) s f = clash refl f

-- ---- inside an event

-- where neither the record nor a table refuses
inside : (y : Reference) (s : Tracker) → torn_record s.kept ≡ false → too_short s.kept.settings s.tables ≡ false
    → refer_of y s ≡ cond (full s.kept.numbers) (outcome (refused 4) s)
    (cond (torn_for y s) (outcome (refused 3) s) (outcome (gives (step_of y s).reply) (stored (step_of y s) s)))
inside y s e f = cases (full s.kept.numbers)
    (λ g. refer_full y s e f g ∙ rw g)
    (λ g. cases (torn_for y s)
    (λ h. refer_bucket y s e f g h ∙ rw (g, h))
    (λ h. refer_accept y s (record { record_whole = e; tables_long = f; room = g; bucket_sound = h }) ∙ rw (g, h)))

pub only_inside : OnlyInside
only_inside x y s after r e =
    let a = refer_accepted x s r (ap (λ o. o.result) e) in
    subst (λ z. refer_of y z ≡ cond (full z.kept.numbers) (outcome (refused 4) z)
    (cond (torn_for y z) (outcome (refused 3) z) (outcome (gives (step_of y z).reply) (stored (step_of y z) z))))
    (sym (left_is x s e)) (inside y (stored (step_of x s) s) (left_whole x s a) (left_long x s a))
