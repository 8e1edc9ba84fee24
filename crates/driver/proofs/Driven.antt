-- What a C caller holds and gets. A call on the words is the rules' call on their record (`on_held`); no call of the rules is refused 0, and each
-- but that of a span either accepts or leaves everything (`Sound`); the statements follow from these. Assumes nothing.
use Prim.Native.Nat.{ℕ}
use mathlib.Core.Path.{◌≡◌, refl, sym, ap, subst, subst₂, ◌∙◌}
use mathlib.Core.Bool.{true, false, cond}
use mathlib.Core.List.{List, [], ◌∷◌}
use native.Mathlib.Omega.{arith}
use lib.Dec.{ltb}
use lib.ListN.{length, take, drop}
use Rattle.rules.specs.declared.Settings.{Settings}
use Rattle.rules.specs.declared.Record.{Record}
use Rattle.rules.specs.declared.Shape.{Shape}
use Rattle.rules.specs.declared.Point.{Point}
use Rattle.rules.specs.declared.PlotPoint.{PlotPoint}
use Rattle.rules.specs.declared.Event.{Event}
use Rattle.rules.specs.declared.Event.TheVariants as event
use Rattle.rules.specs.Lists.{over}
use Rattle.rules.specs.Settings.{Histogram, Tables, with_defaults}
use Rattle.rules.specs.declared.Reply.{Reply}
use Rattle.rules.specs.Answers.{Result, refused, gives, number, number_of}
use Rattle.rules.specs.declared.Got.{Got}
use Rattle.rules.specs.Order.{Outcome, outcome, Judged, says, NoneHolds}
use Rattle.rules.specs.Events.{event_bytes, event_length, references_of, fresh_start, overrun, overruns, read_of, read_order, write_of, write_order}
use Rattle.rules.specs.Layout.{Tracker, fresh_record, fresh_tables, fresh}
use Rattle.rules.specs.Calls.{setup_of, restart_of, restart_order, started_over, restart_over, step_of, refer_of, refer_order, point_of, point_order}
use Rattle.rules.specs.Calls.{plot_of, span_of, apply_of}
use Rattle.rules.specs.History.{Reference}
use Rattle.rules.proofs.Tests.{cases, clash}
use Rattle.rules.proofs.Order.{not_both, says_given, says_accepted, says_some, leaves_was}
use Rattle.rules.proofs.Calls.{setup_accept, setup_begins, restart_either, refer_either, refer_accept}
use Rattle.demands.specs.Runs.{Run, setup, restart, refer, onto}
use Rattle.demands.specs.Statements.{history_reply}
use Rattle.demands.specs.Spans.{Made, none as nothing-made, OneByOne}
use Rattle.demands.specs.Refusing.{is_span, FirstIs, stale_or}
use Rattle.demands.specs.Needed.{needed_by, SameBeyond, settings_under, most_needed}
use Rattle.demands.proofs.Spans.{events_one_by_one}
use Rattle.demands.proofs.Refusing.{untouched, apply_some, stale_says, stale_plots, only_stale}
use Rattle.demands.proofs.Needed.{same_all, started_tables, only_needed}
use Rattle.demands.proofs.Tracking.{threshold, live_list, numbers, whole_answers}
use Rattle.demands.proofs.Alone.{nothing_else}
use Rattle.demands.proofs.Points.{full_rate_lem}
use Rattle.feed.specs.declared.End.{End}
use Rattle.feed.specs.declared.End.TheVariants.{Whole, Inside}
use Rattle.feed.specs.Feed.{Feeding, feed_of, left_by}
use Rattle.feed.specs.Past.{past_after, past_of, Events, none, references_next}
use Rattle.feed.proofs.Laws.{Took, apply_either, by_feeding}
use Rattle.feed.proofs.Pieces.{taken_alone}
use Rattle.feed.specs.Refused.{next_order}
use Rattle.feed.proofs.Refused.{event_refused, unread_named, feed_in_order}
use Rattle.feed.proofs.Runs.{ran}
use Rattle.std.specs.Prelude.{Ok}
use Rattle.writing.specs.ReadBack.{WritePromise}
use Rattle.writing.proofs.Laws.{reads_back}
use Rattle.words.specs.Words.{few_words, words_of, record_of, put, returned, answer_words, point_words, plot_words, event_words}
use Rattle.words.specs.Words.{got_words, applied_words, written_words, fed_words}
use Rattle.words.proofs.Laws.{put_same, put_length, record_of_put}
use Rattle.driver.specs.Calls.{Held, held, tracker_in, returning, keeping, on_held, on_words, setup_in_order, setup_held, setup_in}
use Rattle.driver.specs.Calls.{restart_in, refer_in, span_in, giving, apply_got, apply_in, fed_in, feed_in, write_in}
use Rattle.driver.specs.Driven.{Accepted, AcceptedOn, ZeroWhen, ZeroIsAccepted, LeftAsItWas, FedAlone, TooFew, SamePast}
use Rattle.driver.specs.Driven.{OverrunIn, PastTheRecord, OnlyNeededIn, StaleByNumber, StaleIn, PartMade, OneByOneIn}
use Rattle.driver.specs.Driven.{HoldsRun, FedRun, CallsAreARun, ThresholdIn, LiveListIn, NothingElseIn, ReferencesIn, FullRateIn}
use Rattle.driver.specs.Driven.{ReadBackIn}
use Rattle.driver.proofs.Laws.{answer_number, by_words, setup_few, got_is, fed_by, span_by}

-- ---- a result, by its number

result_cases : {A C : Type 0} (s : Result A) → ((a : A) → s ≡ gives a → C) → ((n : ℕ) → s ≡ refused n → C) → C
result_cases (refused n) f g = g n refl
result_cases (gives a) f g = f a refl

accepted_zero : {A : Type 0} (s : Result A) → Accepted s → number_of s ≡ 0
accepted_zero (gives a) t = refl
accepted_zero (refused n) b = absurd b

zero_accepted : {A : Type 0} (s : Result A) → (s ≡ refused 0 → ⊥) → number_of s ≡ 0 → Accepted s
zero_accepted (gives a) never z = tt
zero_accepted (refused n) never z = absurd (never (ap refused z))

zero_when : {A : Type 0} (s : Result A) → (s ≡ refused 0 → ⊥) → ZeroWhen (number_of s) (Accepted s)
zero_when s never = (zero_accepted s never, accepted_zero s)

zero_by : {n m : ℕ} {P : Type 0} → n ≡ m → ZeroWhen m P → ZeroWhen n P
zero_by e w = ((λ z. w.0 (sym e ∙ z)), (λ p. e ∙ w.1 p))

-- the refusal stands first in each struct
point_number : (s : Result Point) → (point_words s).refusal ≡ number_of s
point_number (refused n) = refl
point_number (gives p) = refl

plot_number : (s : Result PlotPoint) → (plot_words s).refusal ≡ number_of s
plot_number (refused n) = refl
plot_number (gives p) = refl

event_number : (s : Result Got) → (event_words s).refusal ≡ number_of s
event_number (refused n) = refl
event_number (gives g) = by g.event
  where
    by : (e : Event) → (got_words e g.taken).refusal ≡ 0
    by (event.Location x) = refl
    by (event.Span offset n) = refl
    by event.Restart = refl
    by (event.Setup b) = refl

applied_number : (s : Result ℕ) → (applied_words s).refusal ≡ number_of s
applied_number (refused n) = refl
applied_number (gives n) = refl

written_number : (s : Result ℕ) → (written_words s).refusal ≡ number_of s
written_number (refused n) = refl
written_number (gives n) = refl

fed_number : (n : ℕ) (s : Result End) → (fed_words n s).refusal ≡ number_of s
fed_number n (refused m) = refl
fed_number n (gives Whole) = refl
fed_number n (gives Inside) = refl

fed_taken : (n : ℕ) (s : Result End) → (fed_words n s).taken ≡ n
fed_taken n (refused m) = refl
fed_taken n (gives Whole) = refl
fed_taken n (gives Inside) = refl

-- ---- each call of the rules but that of a span either accepts or leaves everything, with a number that is not 0

data Sound {A : Type 0} (o : Outcome A Tracker) (s : Tracker) : Type 0 where
  accepts : (a : A) → o.result ≡ gives a → Sound o s
  refuses : (n : ℕ) → (n ≡ 0 → ⊥) → o ≡ outcome (refused n) s → Sound o s

never : {A : Type 0} {o : Outcome A Tracker} {s : Tracker} → Sound o s → o.result ≡ refused 0 → ⊥
never (accepts a e) r = not_both r e
never (refuses n some e) r = some (ap number_of (sym (ap (λ o. o.result) e) ∙ r))

-- by its order of refusals
some : {A : Type 0} (order : List Judged) (a : A) {n : ℕ} → says order a ≡ refused n → n ≡ 0 → ⊥
some order a e z = says_some order a (e ∙ ap refused z)

restart_some : (kept : Record) (t : Tables) {n : ℕ} → (restart_of kept t).result ≡ refused n → n ≡ 0 → ⊥
unfolding restart_of
restart_some kept t e = some (restart_order kept t) (fresh_record kept.settings) e

refer_some : (x : ℕ) (s : Tracker) {n : ℕ} → (refer_of x s).result ≡ refused n → n ≡ 0 → ⊥
unfolding refer_of
refer_some x s e = some (refer_order x s) (step_of x s).reply e

read_some : (bytes : List ℕ) {n : ℕ} → read_of bytes ≡ refused n → n ≡ 0 → ⊥
unfolding read_of
read_some bytes e = some (read_order bytes) _ e

point_some : (kept : Record) (believed : Shape) (k : ℕ) (g : Histogram) → point_of kept believed k g ≡ refused 0 → ⊥
unfolding point_of
point_some kept believed k g e = says_some (point_order kept believed k g) _ e

plot_some : (kept : Record) (believed : Shape) (k : ℕ) (g : Histogram) → plot_of kept believed k g ≡ refused 0 → ⊥
unfolding plot_of
plot_some kept believed k g e = says_some (point_order kept believed k g) _ e

write_some : (e : Event) (buffer : List ℕ) → (write_of e buffer).result ≡ refused 0 → ⊥
unfolding write_of
write_some e buffer r = says_some (write_order e buffer) _ r

feed_some : (bytes : List ℕ) (s : Tracker) → (feed_of bytes s).result ≡ refused 0 → ⊥
feed_some = by_feeding (λ bytes s f. f.result ≡ refused 0 → ⊥)
    (λ s r. not_both r refl)
    (λ bytes s more e r. not_both r refl)
    (λ bytes s n other more e r. read_some bytes e (ap number_of r))
    (λ bytes s g n left e q r. apply_some g.event s (ap (λ o. o.result) q.is ∙ ap refused (ap number_of r)))
    (λ bytes s g left e t h. h)

restart_sound : (s : Tracker) → Sound (restart_over s) s
restart_sound s = restart_either s.kept s.tables
    (λ b. accepts tt (ap (λ o. (started_over s.kept o.result o.left).result) b.is))
    (λ n e. refuses n (restart_some s.kept s.tables (ap (λ o. o.result) e)) (ap (λ o. started_over s.kept o.result o.left) e))

refer_sound : (x : ℕ) (s : Tracker) → Sound (refer_of x s) s
refer_sound x s = refer_either x s
    (λ a. accepts _ (ap (λ o. o.result) (refer_accept x s a)))
    (λ n e. refuses n (refer_some x s (ap (λ o. o.result) e)) e)

-- an event: no number is 0, and all but a span leave everything
giving_refused : {A B : Type 0} (b : B) (r : Result A) {n : ℕ} → giving b r ≡ refused n → r ≡ refused n
giving_refused b (refused m) e = ap refused (ap number_of e)
giving_refused b (gives a) e = absurd (not_both e refl)

apply_never : (bytes : List ℕ) (s : Tracker) → (apply_got (read_of bytes) s).result ≡ refused 0 → ⊥
apply_never bytes s r = result_cases (read_of bytes)
    (λ g e. apply_some g.event s (giving_refused g.taken (apply_of g.event s).result (sym (ap (λ z. (apply_got z s).result) e) ∙ r)))
    (λ n e. read_some bytes e (ap number_of (sym (ap (λ z. (apply_got z s).result) e) ∙ r)))

apply_sound : (bytes : List ℕ) (s : Tracker) → ((g : Got) → read_of bytes ≡ gives g → is_span g.event ≡ false) → Sound (apply_got (read_of bytes) s) s
apply_sound bytes s other = result_cases (read_of bytes)
    (λ g e. apply_either s g.event
    (λ left t. accepts g.taken (ap (λ o. o.result) (got_is bytes s e t.is)))
    (λ n left q.
    let is = ap (λ o. o.result) q.is in
    let same : left ≡ s = sym (ap (λ o. o.left) q.is) ∙ untouched.by_apply g.event s n (other g e) is in
    refuses n (λ z. apply_some g.event s (is ∙ ap refused z)) (got_is bytes s e q.is ∙ ap (outcome (refused n)) same)))
    (λ n e. refuses n (read_some bytes e) (ap (λ z. apply_got z s) e))

span_never : (offset bytes : ℕ) (s : Tracker) → (span_of offset bytes s).result ≡ refused 0 → ⊥
unfolding apply_of
span_never offset bytes s = apply_some (event.Span offset bytes) s

-- ---- any call on the words

-- what is put leaves as many words, and those past the record
past_put : (kept : Record) (w : List ℕ) → (length (put kept w) ≡ length w) × (drop 9 (put kept w) ≡ drop 9 w)
past_put kept w = (put_length kept w, cases (few_words w) (λ e. rw e) (λ e. rw e))

enough_put : (kept : Record) (w : List ℕ) → few_words w ≡ false → few_words (put kept w) ≡ false
enough_put kept w e = ap (λ n. ltb n 9) (put_length kept w) ∙ e

-- the record that was put is the one held
held_put : (h : Held) (s : Tracker) → few_words h.words ≡ false → tracker_in (held (put s.kept h.words) s.tables) ≡ s
held_put h s e = λ i. record { kept = record_of_put s.kept h.words e i; tables = s.tables }

-- a number that is 2 for too few words, and else the result's
words_zero : {A : Type 0} {n : ℕ} (w : List ℕ) (s : Result A) → (s ≡ refused 0 → ⊥) → (few_words w ≡ true → n ≡ 2)
    → (few_words w ≡ false → n ≡ number_of s) → ZeroWhen n (AcceptedOn w s)
words_zero w s Some-number few enough = cases (few_words w)
    (λ e. ((λ z. absurd (two_not_zero (sym (few e) ∙ z))), (λ p. clash e p.0)))
    (λ e. let zero = zero_when s Some-number in ((λ z. (e, zero.0 (sym (enough e) ∙ z))), (λ p. enough e ∙ zero.1 p.1)))
  where
    two_not_zero : ◌≡◌ {A = ℕ} 2 0 → ⊥
    two_not_zero e = omega arith

module _ {A : Type 0} (call : Tracker → Outcome A Tracker) (h : Held) where
  held_tables : (P : Tables → Type 0) → P h.tables → P (call (tracker_in h)).left.tables → P (on_held call h).left.tables
  held_tables P was is = cases (few_words h.words)
      (λ e. subst (λ z. P z.left.tables) (sym (by_words call h true e)) was)
      (λ e. subst (λ z. P z.left.tables) (sym (by_words call h false e)) is)

  held_past : SamePast h (on_held call h).left
  held_past = cases (few_words h.words)
      (λ e. subst (λ z. SamePast h z.left) (sym (by_words call h true e)) (refl, refl))
      (λ e. subst (λ z. SamePast h z.left) (sym (by_words call h false e))
      (past_put (call (tracker_in h)).left.kept h.words))

  held_zero : ((call (tracker_in h)).result ≡ refused 0 → ⊥)
      → ZeroWhen (number_of (on_held call h).result) (AcceptedOn h.words (call (tracker_in h)).result)
  held_zero Some-number = words_zero h.words (call (tracker_in h)).result Some-number
      (λ e. ap (λ o. number_of o.result) (by_words call h true e)) (λ e. ap (λ o. number_of o.result) (by_words call h false e))

  -- with enough words, what is held is what the rules left
  module _ (e : few_words h.words ≡ false) where
    held_is : tracker_in (on_held call h).left ≡ (call (tracker_in h)).left
    held_is = ap (λ o. tracker_in o.left) (by_words call h false e) ∙ held_put h (call (tracker_in h)).left e

    held_enough : few_words (on_held call h).left.words ≡ false
    held_enough = ap (λ o. few_words o.left.words) (by_words call h false e) ∙ enough_put (call (tracker_in h)).left.kept h.words e

    held_run : (past : List Reference) → Run past (call (tracker_in h)).left → HoldsRun past (on_held call h).left
    held_run past run = record { enough = held_enough; run = subst (Run past) (sym held_is) run }

  module _ (sound : Sound (call (tracker_in h)) (tracker_in h)) where
    held_was : (number_of (on_held call h).result ≡ 0 → ⊥) → (on_held call h).left ≡ h
    held_was nonzero = cases (few_words h.words)
        (λ e. ap (λ o. o.left) (by_words call h true e))
        (λ e. ap (λ o. o.left) (by_words call h false e) ∙ by e sound)
      where
        by : few_words h.words ≡ false → Sound (call (tracker_in h)) (tracker_in h) → (keeping h (call (tracker_in h))).left ≡ h
        by e (accepts a r) = absurd (nonzero (ap (λ o. number_of o.result) (by_words call h false e) ∙ ap number_of r))
        by e (refuses n k r) = ap (λ o. (keeping h o).left) r ∙ ap (λ z. held z h.tables) (put_same h.words)

-- ---- points, on the words

enough_words : {A : Type 0} (w : List ℕ) (s : Result A) → few_words w ≡ false → on_words w s ≡ s
enough_words w s e = ap (λ b. cond b (refused 2) s) e

few_words_lem : {A : Type 0} (w : List ℕ) (s : Result A) → few_words w ≡ true → on_words w s ≡ refused 2
few_words_lem w s e = ap (λ b. cond b (refused 2) s) e

on_words_zero : {A : Type 0} (w : List ℕ) (s : Result A) → (s ≡ refused 0 → ⊥) → ZeroWhen (number_of (on_words w s)) (AcceptedOn w s)
on_words_zero w s Some-number = words_zero w s Some-number (λ e. ap number_of (few_words_lem w s e)) (λ e. ap number_of (enough_words w s e))

-- ---- setup

module _ (given : Settings) (h : Held) where
  abbrev order : List Judged
  order = setup_in_order given h

  abbrev said : Result (Unit {0})
  said = says order tt

  abbrev after : Held
  after = held (put (fresh_record (with_defaults given)) h.words) (fresh_tables (with_defaults given) h.tables)

  -- accepted, by the conditions; and what the rules say then
  passed : number_of (setup_held given h).result ≡ 0 → NoneHolds order
  passed z = says_accepted order tt (given_by said (zero_accepted said (says_some order tt) z))
    where
      given_by : (s : Result (Unit {0})) → Accepted s → s ≡ gives tt
      given_by (gives a) t = refl
      given_by (refused n) b = absurd b

  setup_left : NoneHolds order → (setup_held given h).left ≡ after
  setup_left p = rw (p.0, p.1.0, p.1.1.0)

  setup_given : NoneHolds order
      → setup_of given h.tables ≡ outcome (gives (fresh_record (with_defaults given))) (fresh_tables (with_defaults given) h.tables)
  setup_given p = setup_accept given h.tables p.0 p.1.0

  -- the other way: what the rules accept, with enough words
  passed_by : AcceptedOn h.words (setup_of given h.tables).result → NoneHolds order
  passed_by t = result_cases (setup_of given h.tables).result
      (λ kept e. let b = setup_begins given h.tables kept e in (b.range, (b.long, (t.0, tt))))
      (λ n e. absurd (subst Accepted e t.1))

  setup_zero : ZeroWhen (setup_in given h).value (AcceptedOn h.words (setup_of given h.tables).result)
  setup_zero = (
    (λ z. let p = passed z in (p.1.1.0, subst Accepted (sym (ap (λ o. o.result) (setup_given p))) tt)),
    (λ t. ap number_of (says_given order tt (passed_by t))),
  )

  setup_was : ((setup_in given h).value ≡ 0 → ⊥) → (setup_in given h).left ≡ h
  setup_was nonzero = result_cases said
      (λ a e. absurd (nonzero (ap number_of e)))
      (λ n e. leaves_was order tt h after n e)

  setup_past : SamePast h (setup_in given h).left
  setup_past = result_cases said
      (λ a e. subst (SamePast h) (sym (setup_left (says_accepted {A = Unit {0}} order tt e)))
      (past_put (fresh_record (with_defaults given)) h.words))
      (λ n e. subst (SamePast h) (sym (leaves_was {A = Unit {0}} order tt h after n e)) (refl, refl))

  setup_beyond : SameBeyond (needed_by (with_defaults given)) h.tables (setup_in given h).left.tables
  setup_beyond = let Same = SameBeyond (needed_by (with_defaults given)) h.tables in result_cases said
      (λ a e. let p = says_accepted {A = Unit {0}} order tt e in
      subst (λ z. Same z.tables) (sym (setup_left p)) (subst (λ o. Same o.left) (setup_given p) (only_needed.by_setup given h.tables)))
      (λ n e. subst (λ z. Same z.tables) (sym (leaves_was {A = Unit {0}} order tt h after n e)) (same_all _ h.tables))

  setup_run : (setup_in given h).value ≡ 0 → HoldsRun [] (setup_in given h).left
  setup_run z =
      let p = passed z in
      let s = fresh (with_defaults given) h.tables in
      subst (HoldsRun []) (sym (setup_left p)) (record {
        enough = enough_put s.kept h.words p.1.1.0;
        run = subst (Run []) (sym (held_put h s p.1.1.0)) (setup given h.tables {s = s} (setup_given p));
      })

-- ---- feeding

module _ (bytes : List ℕ) (h : Held) where
  abbrev fed : Feeding
  fed = feed_of bytes (tracker_in h)

  feed_zero : ZeroWhen (feed_in bytes h).value.refusal (AcceptedOn h.words (feed_of bytes (tracker_in h)).result)
  feed_zero = words_zero h.words fed.result (feed_some bytes (tracker_in h))
      (λ e. ap (λ o. o.value.refusal) (fed_by bytes h true e))
      (λ e. ap (λ o. o.value.refusal) (fed_by bytes h false e) ∙ fed_number fed.taken fed.result)

  feed_past : SamePast h (feed_in bytes h).left
  feed_past = cases (few_words h.words)
      (λ e. subst (λ z. SamePast h z.left) (sym (fed_by bytes h true e)) (refl, refl))
      (λ e. subst (λ z. SamePast h z.left) (sym (fed_by bytes h false e)) (past_put fed.left.kept h.words))

  -- the bytes taken
  taken_is : few_words h.words ≡ false → (feed_in bytes h).value.taken ≡ fed.taken
  taken_is e = ap (λ o. o.value.taken) (fed_by bytes h false e) ∙ fed_taken fed.taken fed.result

  -- what is held after feeding is what it left
  fed_held : (past : List Reference) → few_words h.words ≡ false → Run past fed.left → HoldsRun past (feed_in bytes h).left
  fed_held past e run = subst (λ z. HoldsRun past z.left) (sym (fed_by bytes h false e)) (record {
    enough = enough_put fed.left.kept h.words e;
    run = subst (Run past) (sym (held_put h fed.left e)) run;
  })

  feed_run : FedRun bytes h
  feed_run = cases (few_words h.words)
      (λ e.
      let left = ap (λ o. o.left) (fed_by bytes h true e) in
      record {
        events = [];
        are = subst (λ n. Events (take n bytes) []) (sym (ap (λ o. o.value.taken) (fed_by bytes h true e))) none;
        made = [];
        rest = [];
        first_part = ap references_next (sym (few_words_lem h.words (read_of (drop (feed_in bytes h).value.taken bytes)) e));
        accepted = subst₂ (Made []) (sym (ap (λ o. tracker_in o.left) (fed_by _ h true e))) (sym (ap tracker_in left)) nothing-made;
        continued = λ past holds. subst (HoldsRun past) (sym left) holds;
        from_fresh_start = λ b. clash b refl;
        only_needed = subst (λ z. SameBeyond (most_needed [] [] (record_of h.words).settings) h.tables z.tables) (sym left)
            (same_all _ h.tables);
      })
      (λ e.
      let r = ran bytes (tracker_in h) in
      record {
        events = r.events;
        are = subst (λ n. Events (take n bytes) r.events) (sym (taken_is e)) r.are;
        made = r.made;
        rest = r.rest;
        first_part = r.first_part ∙ ap (λ n. references_next (read_of (drop n bytes))) (sym (taken_is e))
            ∙ ap references_next (sym (enough_words h.words (read_of (drop (feed_in bytes h).value.taken bytes)) e));
        accepted = subst₂ (Made r.made)
            (sym (ap (λ n. tracker_in (feed_in (take n bytes) h).left) (taken_is e)
            ∙ ap (λ o. tracker_in o.left) (fed_by (take fed.taken bytes) h false e ∙ ap (fed_in h) r.alone.before)
            ∙ held_put h r.alone.between e))
            (sym (ap (λ o. tracker_in o.left) (fed_by bytes h false e) ∙ held_put h fed.left e)) r.accepted;
        continued = λ past holds. fed_held (onto r.made (past_of r.events past)) e (r.continued past holds.run);
        from_fresh_start = λ b past. fed_held (onto r.made (past_of r.events past)) e (r.from_fresh_start b past);
        only_needed =
            subst (λ z. SameBeyond (most_needed r.events r.made (record_of h.words).settings) h.tables z.left.tables)
            (sym (fed_by bytes h false e)) r.only_needed;
      })

-- what applying leaves, by what was read; and the words of one record written over those of another are its own
apply_left : (r : Result Got) (s : Tracker) → (apply_got r s).left ≡ left_by r s
apply_left (refused n) s = refl
apply_left (gives g) s = refl

put_put : (a b : Record) (w : List ℕ) → few_words w ≡ false → put a (put b w) ≡ put a w
put_put a b w e = ap (λ z. cond z (put b w) (over (words_of a) (put b w))) (enough_put b w e) ∙ rw e

-- the first refusal of the next event is that of applying it
applied_refused : (r : Result Got) (s : Tracker) (n : ℕ) → FirstIs n (next_order r s) → (apply_got r s).result ≡ refused n
applied_refused (gives g) s n x = ap (giving g.taken) (event_refused g.event s n x)
applied_refused (refused m) s n x = ap refused (unread_named m n s x).0

pub fed_alone : FedAlone
fed_alone bytes h e =
    let s = tracker_in h in
    let f = feed_of bytes s in
    let w = taken_alone bytes s in
    let between = held (put w.between.kept h.words) w.between.tables in
    let enough = enough_put w.between.kept h.words e in
    record {
      between = between;
      before =
          ap (λ n. feed_in (take n bytes) h) (taken_is bytes h e) ∙ fed_by (take f.taken bytes) h false e ∙ ap (fed_in h) w.before
          ∙ sym (ap (λ n. returned (fed_words n (gives Whole)) between) (taken_is bytes h e));
      left_is = ap (λ o. o.left) (fed_by bytes h false e)
          ∙ ap (λ z. held (put z.kept h.words) z.tables) w.left_is
          ∙ sym (ap (λ n. (apply_in (drop n bytes) between).left) (taken_is bytes h e)
          ∙ ap (λ o. o.left) (by_words (apply_got (read_of (drop f.taken bytes))) between false enough)
          ∙ ap (λ z. held (put z.kept between.words) z.tables)
          (ap (λ z. (apply_got (read_of (drop f.taken bytes)) z).left) (held_put h w.between e)
          ∙ apply_left (read_of (drop f.taken bytes)) w.between)
          ∙ ap (λ l. held l (left_by (read_of (drop f.taken bytes)) w.between).tables)
          (put_put (left_by (read_of (drop f.taken bytes)) w.between).kept w.between.kept h.words e));
      same_refusal = λ nonzero. result_cases f.result
          (λ a r. absurd (nonzero (ap (λ o. o.value.refusal) (fed_by bytes h false e) ∙ fed_number f.taken f.result ∙ ap number_of r)))
          (λ n r.
          let x = feed_in_order.only_so bytes s n r in
          let same : x.alone.between ≡ w.between = ap (λ o. o.left) (sym x.alone.before ∙ w.before) in
          let rest = read_of (drop f.taken bytes) in
          ap (λ m. (apply_in (drop m bytes) between).value.refusal) (taken_is bytes h e)
          ∙ applied_number (on_held (apply_got rest) between).result
          ∙ ap (λ o. number_of o.result) (by_words (apply_got rest) between false enough)
          ∙ ap number_of (ap (λ z. (apply_got rest z).result) (held_put h w.between e)
          ∙ applied_refused rest w.between n (subst (λ z. FirstIs n (next_order rest z)) same x.next))
          ∙ sym (ap (λ o. o.value.refusal) (fed_by bytes h false e) ∙ fed_number f.taken f.result ∙ ap number_of r));
    }

-- ---- demand 1

-- a start over a record is accepted exactly when the start is
over_accepted : (kept : Record) (r : Result Record) (t : Tables) → Accepted (started_over kept r t).result → Accepted r
over_accepted kept (gives k) t a = tt
over_accepted kept (refused n) t a = absurd a

accepted_over : (kept : Record) (r : Result Record) (t : Tables) → Accepted r → Accepted (started_over kept r t).result
accepted_over kept (gives k) t a = tt
accepted_over kept (refused n) t a = absurd a

restart_zero : (h : Held) → ZeroWhen (restart_in h).value (AcceptedOn h.words (restart_of (record_of h.words) h.tables).result)
restart_zero h =
    let kept = record_of h.words in
    let o = restart_of kept h.tables in
    let zero = held_zero restart_over h (never (restart_sound (tracker_in h))) in (
      (λ z. ((zero.0 z).0, over_accepted kept o.result o.left (zero.0 z).1)),
      (λ p. zero.1 (p.0, accepted_over kept o.result o.left p.1)),
    )

-- a span: 10, or the call of the rules
span_cases : {C : Type 0} (offset bytes : ℕ) (h : Held) → (overrun offset bytes ≡ true → span_in offset bytes h ≡ returned 10 h → C)
    → (overrun offset bytes ≡ false → span_in offset bytes h ≡ returning number_of (on_held (span_of offset bytes) h) → C) → C
span_cases offset bytes h over within = cases (overrun offset bytes)
    (λ o. over o (span_by offset bytes h true o))
    (λ o. within o (span_by offset bytes h false o))

overrun_refused : (offset bytes : ℕ) (s : Tracker) → overrun offset bytes ≡ true → span_of offset bytes s ≡ outcome (refused 10) s
unfolding span_of
overrun_refused offset bytes s o = rw o

span_zero : (offset bytes : ℕ) (h : Held)
    → ZeroWhen (span_in offset bytes h).value (AcceptedOn h.words (span_of offset bytes (tracker_in h)).result)
span_zero offset bytes h = span_cases offset bytes h
    (λ o e. (
      (λ z. absurd (ten_not_zero (sym (ap (λ r. r.value) e) ∙ z))),
      (λ p. absurd (subst Accepted (ap (λ r. r.result) (overrun_refused offset bytes (tracker_in h) o)) p.1)),
    ))
    (λ o e. zero_by (ap (λ r. r.value) e) (held_zero (span_of offset bytes) h (span_never offset bytes (tracker_in h))))
  where
    ten_not_zero : ◌≡◌ {A = ℕ} 10 0 → ⊥
    ten_not_zero e = omega arith

pub zero_is_accepted : ZeroIsAccepted
zero_is_accepted = record {
  of_setup = setup_zero;
  of_restart = λ h. restart_zero h;
  of_refer = λ x h. zero_by (answer_number (on_held (refer_of x) h).result) (held_zero (refer_of x) h (never (refer_sound x (tracker_in h))));
  of_span = span_zero;
  of_point = λ w b k g. zero_by (point_number (on_words w (point_of (record_of w) b k g)))
      (on_words_zero w (point_of (record_of w) b k g) (point_some (record_of w) b k g));
  of_plot = λ w b k g. zero_by (plot_number (on_words w (plot_of (record_of w) b k g)))
      (on_words_zero w (plot_of (record_of w) b k g) (plot_some (record_of w) b k g));
  of_apply = λ bytes h. zero_by (applied_number (on_held (apply_got (read_of bytes)) h).result)
      (held_zero (apply_got (read_of bytes)) h (apply_never bytes (tracker_in h)));
  of_feed = feed_zero;
  of_read = λ bytes. zero_by (event_number (read_of bytes)) (zero_when (read_of bytes) (λ e. read_some bytes e refl));
  of_write = λ e buffer. zero_by (written_number (write_of e buffer).result) (zero_when (write_of e buffer).result (write_some e buffer));
}

write_left : (e : Event) (buffer : List ℕ) (n : ℕ) → (write_of e buffer).result ≡ refused n → (write_of e buffer).left ≡ buffer
unfolding write_of
write_left e buffer n r = leaves_was (write_order e buffer) (event_length e) buffer (over (event_bytes e) buffer) n r

write_was : (e : Event) (buffer : List ℕ) → ((write_in e buffer).value.refusal ≡ 0 → ⊥) → (write_in e buffer).left ≡ buffer
write_was e buffer nonzero = result_cases (write_of e buffer).result
    (λ n r. absurd (nonzero (written_number (write_of e buffer).result ∙ ap number_of r)))
    (write_left e buffer)

pub left_as_it_was : LeftAsItWas
left_as_it_was = record {
  by_setup = setup_was;
  by_restart = λ h. held_was restart_over h (restart_sound (tracker_in h));
  by_refer = λ x h nonzero. held_was (refer_of x) h (refer_sound x (tracker_in h)) (λ z. nonzero (answer_number (on_held (refer_of x) h).result ∙ z));
  by_apply = λ bytes h other nonzero. held_was (apply_got (read_of bytes)) h (apply_sound bytes (tracker_in h) other)
      (λ z. nonzero (applied_number (on_held (apply_got (read_of bytes)) h).result ∙ z));
  by_write = write_was;
}

pub too_few_words : TooFew
too_few_words = record {
  for_setup = λ given h e. sym (setup_few h given e refl);
  for_restart = λ h e. ap (returning number_of) (by_words restart_over h true e);
  for_refer = λ x h e. ap (returning answer_words) (by_words (refer_of x) h true e);
  for_span = λ offset bytes h o e. span_by offset bytes h false o ∙ ap (returning number_of) (by_words (span_of offset bytes) h true e);
  for_point = λ w b k g e. ap point_words (few_words_lem w (point_of (record_of w) b k g) e);
  for_plot = λ w b k g e. ap plot_words (few_words_lem w (plot_of (record_of w) b k g) e);
  for_apply = λ bytes h e. ap (returning applied_words) (by_words (apply_got (read_of bytes)) h true e);
  for_feed = λ bytes h e. fed_by bytes h true e;
}

pub overrun_in : OverrunIn
overrun_in offset bytes h o = span_by offset bytes h true o

pub past_the_record : PastTheRecord
past_the_record = record {
  by_setup = setup_past;
  by_restart = λ h. held_past restart_over h;
  by_refer = λ x h. held_past (refer_of x) h;
  by_span = λ offset bytes h. span_cases offset bytes h
      (λ o e. subst (λ r. SamePast h r.left) (sym e) (refl, refl))
      (λ o e. subst (λ r. SamePast h r.left) (sym e) (held_past (span_of offset bytes) h));
  by_apply = λ bytes h. held_past (apply_got (read_of bytes)) h;
  by_feed = feed_past;
}

span_beyond : (offset bytes : ℕ) (s : Tracker) → SameBeyond (needed_by s.kept.settings) s.tables (span_of offset bytes s).left.tables
unfolding apply_of
span_beyond offset bytes s = only_needed.by_apply (event.Span offset bytes) s

pub only_needed_in : OnlyNeededIn
only_needed_in = record {
  by_setup = setup_beyond;
  by_restart = λ h.
      let kept = record_of h.words in
      let o = restart_of kept h.tables in
      let same = SameBeyond (needed_by kept.settings) h.tables in
      held_tables restart_over h same (same_all _ h.tables)
      (subst same (sym (started_tables kept o.result o.left)) (only_needed.by_restart kept h.tables));
  by_refer = λ x h. held_tables (refer_of x) h (SameBeyond (needed_by (record_of h.words).settings) h.tables) (same_all _ h.tables)
      (only_needed.by_refer x (tracker_in h));
  by_span = λ offset bytes h.
      let same = SameBeyond (needed_by (record_of h.words).settings) h.tables in
      span_cases offset bytes h
      (λ o e. subst (λ r. same r.left.tables) (sym e) (same_all _ h.tables))
      (λ o e. subst (λ r. same r.left.tables) (sym e)
      (held_tables (span_of offset bytes) h same (same_all _ h.tables) (span_beyond offset bytes (tracker_in h))));
  by_apply = λ bytes g h e.
      let same = SameBeyond (needed_by (settings_under g.event (record_of h.words).settings)) h.tables in
      held_tables (apply_got (read_of bytes)) h same (same_all _ h.tables)
      (subst (λ r. same (apply_got r (tracker_in h)).left.tables) (sym e) (only_needed.by_apply g.event (tracker_in h)));
}

pub stale_by_number : StaleByNumber
stale_by_number w believed k g d = (
  ap (λ r. point_words (on_words w r)) (stale_says (record_of w) believed k g d),
  ap (λ r. plot_words (on_words w r)) (stale_plots (record_of w) believed k g d),
)

-- the words are enough, and nothing is torn or short
pub stale_in : StaleIn
stale_in past h holds believed k d =
    let by = stale_by_number h.words believed k h.tables.histogram d in
    (by.0 ∙ ap point_words (five Point), by.1 ∙ ap plot_words (five PlotPoint))
  where
    five : (A : Type 0)
        → ◌≡◌ {A = Result A} (on_words h.words (refused (number (stale_or (record_of h.words) h.tables.histogram)))) (refused 5)
    five A = enough_words h.words _ holds.enough ∙ ap (λ why. refused (number why)) (only_stale holds.run)

-- ---- calls are a run

restart_run : (h : Held) → (restart_in h).value ≡ 0 → HoldsRun [] (restart_in h).left
restart_run h z = held_run restart_over h ((restart_zero h).0 z).0 []
    (restart_either (record_of h.words) h.tables
    (λ b. subst (Run []) (sym (ap (λ o. (started_over (record_of h.words) o.result o.left).left) b.is))
    (restart (record_of h.words) h.tables b.is))
    (λ n e. absurd (subst Accepted (ap (λ o. o.result) e) ((restart_zero h).0 z).1)))

-- a reference: the run goes on, and the answer is the history's
module _ (past : List Reference) (x : Reference) (h : Held) (holds : HoldsRun past h) (z : (refer_in x h).value.refusal ≡ 0) where
  abbrev s : Tracker
  s = tracker_in h

  is_zero : number_of (on_held (refer_of x) h).result ≡ 0
  is_zero = sym (answer_number (on_held (refer_of x) h).result) ∙ z

  answered : {C : Type 0} → ((r : Reply) → refer_of x s ≡ outcome (gives r) (refer_of x s).left → C) → C
  answered f = result_cases (refer_of x s).result
      (λ r e. f r (λ i. outcome (e i) (refer_of x s).left))
      (λ n e. absurd (subst Accepted e ((held_zero (refer_of x) h (never (refer_sound x s))).0 is_zero).1))

  refer_run : HoldsRun (x ∷ past) (refer_in x h).left
  refer_run = answered (λ r e. held_run (refer_of x) h holds.enough (x ∷ past) (refer holds.run e))

  refer_answer : (refer_in x h).value ≡ answer_words (gives (history_reply s past x))
  refer_answer = answered (λ r e.
      ap (λ o. answer_words o.result) (by_words (refer_of x) h false holds.enough) ∙ ap (λ o. answer_words o.result) e
      ∙ ap (λ q. answer_words (gives q)) (whole_answers past s (refer_of x s).left x r holds.run e))

-- an event
module _ (bytes : List ℕ) (g : Got) (h : Held) (read : read_of bytes ≡ gives g) (z : (apply_in bytes h).value.refusal ≡ 0) where
  event_number_zero : number_of (on_held (apply_got (read_of bytes)) h).result ≡ 0
  event_number_zero = sym (applied_number (on_held (apply_got (read_of bytes)) h).result) ∙ z

  event_accepted : AcceptedOn h.words (apply_got (read_of bytes) (tracker_in h)).result
  event_accepted = (held_zero (apply_got (read_of bytes)) h (apply_never bytes (tracker_in h))).0 event_number_zero

  -- it was taken, and left a run
  took : {C : Type 0} → ((left : Tracker) → Took g.event (tracker_in h) left → (apply_got (read_of bytes) (tracker_in h)).left ≡ left → C) → C
  took f = apply_either (tracker_in h) g.event
      (λ left t. f left t (ap (λ o. o.left) (got_is bytes (tracker_in h) read t.is)))
      (λ n left q. absurd (subst Accepted (ap (λ o. o.result) (got_is bytes (tracker_in h) read q.is)) event_accepted.1))

  event_run : (past : List Reference)
      → ((left : Tracker) → Took g.event (tracker_in h) left → Run past left) → HoldsRun past (apply_in bytes h).left
  event_run past runs = took (λ left t e.
      held_run (apply_got (read_of bytes)) h event_accepted.0 past (subst (Run past) (sym e) (runs left t)))

-- the history after a fresh start is empty
fresh_past : (e : Event) → fresh_start e ≡ true → past_after e [] ≡ []
fresh_past (event.Location x) b = clash b refl
fresh_past (event.Span offset n) b = clash b refl
fresh_past event.Restart b = refl
fresh_past (event.Setup body) b = refl

-- references that were made one by one
module _ (e : Event) (h : Held) (enough : few_words h.words ≡ false) {A : Type 0} (call : Tracker → Outcome A Tracker) where
  part_made : (o : Outcome (Unit {0}) Tracker) (number : ℕ) → OneByOne (overruns e) (references_of e) (tracker_in h) o
      → (call (tracker_in h)).left ≡ o.left → number ≡ number_of o.result → PartMade e h number (on_held call h).left
  part_made o number one left is =
      let after = held_is call h enough in
      let w = subst (λ z. OneByOne (overruns e) (references_of e) (tracker_in h) (outcome o.result z)) (sym (after ∙ left)) one in
      record {
        result = o.result;
        numbered = is;
        one_by_one = w;
        counted = w.counted;
        continued = λ past holds. record { enough = held_enough call h enough; run = w.continued past holds.run };
      }

module _ (offset bytes : ℕ) (h : Held) (enough : few_words h.words ≡ false) where
  abbrev span : Event
  span = event.Span offset bytes

  one_span : OneByOne (overruns span) (references_of span) (tracker_in h) (span_of offset bytes (tracker_in h))
  unfolding apply_of
  one_span = events_one_by_one span (tracker_in h) refl

  -- 10 leaves what the rules' call leaves, and is its number
  span_is : span_in offset bytes h ≡ returning number_of (on_held (span_of offset bytes) h)
  span_is = span_cases offset bytes h
      (λ o e. e ∙ sym (ap (returning number_of) (by_words (span_of offset bytes) h false enough)
      ∙ ap (λ z. returning number_of (keeping h z)) (overrun_refused offset bytes (tracker_in h) o)
      ∙ ap (λ l. returned 10 (held l h.tables)) (put_same h.words)))
      (λ o e. e)

  span_made : PartMade span h (span_in offset bytes h).value (span_in offset bytes h).left
  span_made = subst (λ r. PartMade span h r.value r.left) (sym span_is)
      (part_made span h enough (span_of offset bytes) (span_of offset bytes (tracker_in h)) _ one_span refl
      (ap (λ o. number_of o.result) (by_words (span_of offset bytes) h false enough)))

giving_number : {A B : Type 0} (b : B) (r : Result A) → number_of (giving b r) ≡ number_of r
giving_number b (refused n) = refl
giving_number b (gives a) = refl

apply_made : (bytes : List ℕ) (g : Got) (h : Held) → few_words h.words ≡ false → read_of bytes ≡ gives g → fresh_start g.event ≡ false
    → PartMade g.event h (apply_in bytes h).value.refusal (apply_in bytes h).left
apply_made bytes g h enough read not =
    let call = apply_got (read_of bytes) in
    let o = apply_of g.event (tracker_in h) in
    part_made g.event h enough call o _ (events_one_by_one g.event (tracker_in h) not) (ap (λ z. z.left) (got_is bytes (tracker_in h) read refl))
    (applied_number (on_held call h).result ∙ ap (λ z. number_of z.result) (by_words call h false enough)
    ∙ ap (λ z. number_of z.result) (got_is bytes (tracker_in h) read refl) ∙ giving_number g.taken o.result)

pub one_by_one_in : OneByOneIn
one_by_one_in = record { by_span = span_made; by_apply = apply_made }

-- a span that is accepted
span_run : (past : List Reference) (offset bytes : ℕ) (h : Held) → HoldsRun past h → (span_in offset bytes h).value ≡ 0
    → HoldsRun (past_after (event.Span offset bytes) past) (span_in offset bytes h).left
unfolding apply_of
span_run past offset bytes h holds z = apply_either (tracker_in h) (event.Span offset bytes)
    (λ left t. subst (λ r. HoldsRun (past_after (event.Span offset bytes) past) r.left) (sym (span_is offset bytes h holds.enough))
    (held_run (span_of offset bytes) h holds.enough _
    (subst (Run (past_after (event.Span offset bytes) past)) (sym (ap (λ o. o.left) t.is)) (t.runs past holds.run))))
    (λ n left q. absurd (subst Accepted (ap (λ o. o.result) q.is) ((span_zero offset bytes h).0 z).1))

pub calls_are_a_run : CallsAreARun
calls_are_a_run = record {
  by_setup = setup_run;
  by_restart = restart_run;
  by_refer = λ past x h holds z. (refer_run past x h holds z, refer_answer past x h holds z);
  by_span = span_run;
  by_apply = λ bytes g h read z past holds. event_run bytes g h read z (past_after g.event past) (λ left t. t.runs past holds.run);
  by_fresh_start = λ bytes g h read b z.
      event_run bytes g h read z [] (λ left t. subst (λ p. Run p left) (fresh_past g.event b) (t.begins b []));
  by_feed = feed_run;
}

-- ---- what was written is read back

pub read_back_in : ReadBackIn
read_back_in e before after w (is, fits) z bytes = result_cases (write_of e before).result
    (λ n filled begins.
    let told : w.length ≡ n = ap (λ o. o.value.length) is ∙ ap (λ r. (written_words r).length) filled in
    let promise : WritePromise e before (Ok n) after = ((λ i. outcome (sym filled i) (is i).left), fits) in
    ap event_words (reads_back e before after n promise bytes (subst (λ k. take k bytes ≡ take k after) told begins))
    ∙ (λ i. event_words (gives (record { event = e; taken = sym told i }))))
    (λ n r begins.
    let told : w.refusal ≡ n = ap (λ o. o.value.refusal) is ∙ ap (λ q. (written_words q).refusal) r in
    absurd (write_some e before (r ∙ ap refused (sym told ∙ z))))

-- ---- demands 2 and 3

pub threshold_in : ThresholdIn
threshold_in past h holds = threshold past (tracker_in h) holds.run

pub live_list_in : LiveListIn
live_list_in past h holds = live_list past (tracker_in h) holds.run

pub nothing_else_in : NothingElseIn
nothing_else_in past h holds = nothing_else past (tracker_in h) holds.run

pub references_in : ReferencesIn
references_in past h holds = (numbers past (tracker_in h) holds.run).references_is

pub full_rate_in : FullRateIn
full_rate_in past h holds start limit k within =
    let lru = full_rate_lem past (tracker_in h) holds.run start limit k within in
    let is = ap point_words (enough_words h.words (point_of (record_of h.words) _ k h.tables.histogram) holds.enough) in
    record { some_made = λ made. is ∙ ap point_words (lru.some_made made); none_made = λ e. is ∙ ap point_words (lru.none_made e) }
