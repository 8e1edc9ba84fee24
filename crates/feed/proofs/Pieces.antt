-- Feeding in pieces, cut anywhere, is feeding the whole; and the bytes that were taken, fed alone, are accepted. By `by_feeding`: an event
-- that was read reads the same with more bytes behind it, and one that was cut is not taken, so that it is read again with them. Assumes
-- nothing.
use Prim.Native.Nat.{ℕ, ◌+◌, ◌-◌, ◌≤◌, ◌<◌}
use mathlib.Core.Path.{◌≡◌, refl, sym, ap, ◌∙◌}
use mathlib.Core.List.{List, [], ◌++◌}
use native.Mathlib.Nat.{zero-add, add-zero, add_assoc}
use native.Mathlib.Omega.{arith}
use lib.ListN.{length, take, drop, length-append, length-drop}
use lib.Seq.{drop-append-le, drop-drop, length-take-le}
use borrow.Author.Tests.{ne_eqb}
use Rattle.rules.specs.Answers.{Result, refused, gives}
use Rattle.rules.specs.declared.Got.{Got}
use Rattle.rules.specs.Events.{read_of}
use Rattle.rules.specs.Order.{Outcome, outcome}
use Rattle.rules.specs.Layout.{Tracker}
use Rattle.rules.specs.Calls.{apply_of}
use Rattle.rules.proofs.Events.{read_empty, taken}
use Rattle.demands.proofs.Spans.{made_none}
use Rattle.feed.specs.declared.End.{End}
use Rattle.feed.specs.declared.End.TheVariants.{Whole, Inside}
use Rattle.feed.specs.Feed.{Feeding, stopped, further, after_event, after_reading, feed_of, onward, resumed}
use Rattle.feed.specs.Feed.{left_by, TakenAlone}
use Rattle.rules.proofs.Fronts.{read_more, read_short, read_refused, drop_take, read_front}
use Rattle.feed.proofs.Laws.{taking, Took, apply_either, feed_none, feed_reads, by_feeding}

-- ---- where feeding ends

-- what is untaken of l bytes: nothing at the end of an event, else less than an event
abbrev pub Untaken : Result End → (l taken : ℕ) → Type 0
Untaken (refused n) l taken = taken ≤ l
Untaken (gives Whole) l taken = taken ≡ l
Untaken (gives Inside) l taken = (taken < l) × (l < taken + 18)

untaken_further : (why : Result End) (n l taken : ℕ) → n ≤ l → Untaken why (l - n) taken → Untaken why l (n + taken)
untaken_further (refused m) n l taken h u = omega arith
untaken_further (gives Whole) n l taken h u = omega arith
untaken_further (gives Inside) n l taken h u = (omega arith, omega arith)

pub untaken : (bytes : List ℕ) (s : Tracker) → Untaken (feed_of bytes s).result (length bytes) (feed_of bytes s).taken
untaken = by_feeding (λ bytes s f. Untaken f.result (length bytes) f.taken)
    (λ s. refl)
    (λ bytes s some e. (some, omega (arith, read_short bytes e)))
    (λ bytes s n other some e. omega arith)
    (λ bytes s g n left e q. omega arith)
    (λ bytes s g left e t u.
    let f = feed_of (drop g.taken bytes) left in
    untaken_further f.result g.taken (length bytes) f.taken (taken bytes e).1 (rw length-drop at u))

within : (why : Result End) (l n : ℕ) → Untaken why l n → n ≤ l
within (refused m) l n u = u
within (gives Whole) l n u = omega arith
within (gives Inside) l n u = omega arith

pub taken_within : (bytes : List ℕ) (s : Tracker) → (feed_of bytes s).taken ≤ length bytes
taken_within bytes s = within (feed_of bytes s).result (length bytes) (feed_of bytes s).taken (untaken bytes s)

-- ---- more bytes behind those that were fed

pub further_zero : (f : Feeding) → further 0 f ≡ f
further_zero f = λ i. record { taken = zero-add f.taken i; result = f.result; left = f.left }

pub further_further : (n m : ℕ) (f : Feeding) → further n (further m f) ≡ further (n + m) f
further_further n m f = λ i. record { taken = sym (add_assoc n m f.taken) i; result = f.result; left = f.left }

onward_further : (why : Result End) (n m : ℕ) (bytes more : List ℕ) (s : Tracker)
    → further n (onward why m (drop n bytes) more s) ≡ onward why (n + m) bytes more s
onward_further (refused k) n m bytes more s = refl
onward_further (gives e) n m bytes more s = rw (drop-drop m n bytes) (further_further n m _)

-- the bytes are fed further as those before them are, with more behind
module _ (bytes more : List ℕ) (s : Tracker) (some : 0 < length bytes) where
  more_reads : (r : Result Got) → read_of (bytes ++ more) ≡ r → feed_of (bytes ++ more) s ≡ after_reading feed_of (bytes ++ more) r s
  more_reads r e = feed_reads (bytes ++ more) s (rw length-append (omega arith)) r e

pub pieces : (bytes more : List ℕ) (s : Tracker) → feed_of (bytes ++ more) s ≡ resumed (feed_of bytes s) bytes more
pieces bytes more = by_feeding (λ bytes s f. feed_of (bytes ++ more) s ≡ resumed f bytes more)
    (λ s. sym (further_zero _))
    (λ bytes s some e. sym (further_zero _))
    (λ bytes s n other some e. more_reads bytes more s some (refused n) (read_refused bytes more other e) ∙ rw (ne_eqb n 7 other))
    (λ bytes s g n left e q. more_reads bytes more s (omega (arith, taken bytes e)) (gives g) (read_more bytes more e) ∙ rw q.is)
    (λ bytes s g left e t h.
    let f = feed_of (drop g.taken bytes) left in
    more_reads bytes more s (omega (arith, taken bytes e)) (gives g) (read_more bytes more e)
    ∙ rw (t.is, drop-append-le g.taken bytes more (taken bytes e).1, h)
    (onward_further f.result g.taken f.taken bytes more f.left)) bytes

-- ---- the bytes that were taken

-- if none was, and no reference was made, nothing has changed
pub none_taken : (bytes : List ℕ) (s : Tracker) → (feed_of bytes s).taken ≡ 0
    → (feed_of bytes s).left.kept.numbers.references ≡ s.kept.numbers.references → (feed_of bytes s).left ≡ s
none_taken = by_feeding (λ bytes s f. f.taken ≡ 0 → f.left.kept.numbers.references ≡ s.kept.numbers.references → f.left ≡ s)
    (λ s z r. refl)
    (λ bytes s some e z r. refl)
    (λ bytes s n other some e z r. refl)
    (λ bytes s g n left e q z r. made_none q.accepted r)
    (λ bytes s g left e t h z r. absurd (omega (arith, taken bytes e)))

-- nothing fed leaves all as it was
pub nothing : (bytes : List ℕ) (s : Tracker) → feed_of (take 0 bytes) s ≡ stopped (gives Whole) s
nothing bytes s = feed_none (take 0 bytes) s refl

-- where feeding stops at once, only the first event can have changed anything
abbrev pub alone_none : (bytes : List ℕ) (s : Tracker) {why : Result End} {left : Tracker} (r : Result Got) → read_of bytes ≡ r → left ≡ left_by r s
    → TakenAlone bytes s (stopped why left)
alone_none bytes s r e l = record { between = s; before = nothing bytes s; left_is = l ∙ ap (λ z. left_by z s) (sym e) }

-- after an event that was taken
module _ (bytes : List ℕ) (s : Tracker) (g : Got) (left : Tracker) (e : read_of bytes ≡ gives g) (t : Took g.event s left) (f : Feeding) where
  abbrev pub alone_goes : TakenAlone (drop g.taken bytes) left f → TakenAlone bytes s (further g.taken f)
  alone_goes h =
      let n = g.taken + f.taken in
      let e' = read_front n bytes e (omega arith) in
      record {
        between = h.between;
        before = feed_reads (take n bytes) s (omega (arith, taken (take n bytes) e')) (gives g) e'
            ∙ rw (t.is, drop_take g.taken f.taken bytes, h.before);
        left_is = h.left_is ∙ ap (λ l. left_by (read_of l) h.between) (drop-drop f.taken g.taken bytes);
      }

-- fed alone, they are accepted, and the event behind them does the rest
pub taken_alone : (bytes : List ℕ) (s : Tracker) → TakenAlone bytes s (feed_of bytes s)
taken_alone = by_feeding TakenAlone
    (λ s. alone_none [] s (refused 7) (read_empty [] refl) refl)
    (λ bytes s some e. alone_none bytes s (refused 7) e refl)
    (λ bytes s n other some e. alone_none bytes s (refused n) e refl)
    (λ bytes s g n left e q. alone_none bytes s (gives g) e (sym (ap (λ o. o.left) q.is)))
    (λ bytes s g left e t h. alone_goes bytes s g left e t (feed_of (drop g.taken bytes) left) h)

-- ---- the bytes of one event

-- fed alone, the first event is taken or refused, as it is applied
module _ (bytes : List ℕ) (s : Tracker) (g : Got) (e : read_of bytes ≡ gives g) where
  abbrev event : List ℕ
  event = take g.taken bytes

  reads : (said : Outcome (Unit {0}) Tracker) → apply_of g.event s ≡ said
      → feed_of event s ≡ after_event feed_of g.taken event said.result said.left
  reads said is =
      let e' = read_front g.taken bytes e (omega arith) in
      feed_reads event s (omega (arith, taken event e')) (gives g) e'
      ∙ ap (λ o. after_event feed_of g.taken event o.result o.left) is

  no_more : (left : Tracker) → feed_of (drop g.taken event) left ≡ stopped (gives Whole) left
  no_more left = feed_none (drop g.taken event) left (rw length-drop (omega (arith, length-take-le g.taken bytes (taken bytes e).1)))

  pub one_event : {C : Type 0}
      → ((left : Tracker) → apply_of g.event s ≡ taking left → feed_of event s ≡ record { taken = g.taken; result = gives Whole; left = left } → C)
      → ((n : ℕ) (left : Tracker) → apply_of g.event s ≡ outcome (refused n) left → feed_of event s ≡ stopped (refused n) left → C) → C
  one_event took refuses = apply_either s g.event
      (λ left t. took left t.is
      (reads (taking left) t.is ∙ ap (further g.taken) (no_more left)
      ∙ (λ i. record { taken = add-zero g.taken i; result = gives Whole; left = left })))
      (λ n left q. refuses n left q.is (reads (outcome (refused n) left) q.is))
