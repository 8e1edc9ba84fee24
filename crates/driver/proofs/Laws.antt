-- How what a call returns and leaves follows from the promises of the functions that it calls. One law for words that are too few, one for a
-- call that went to the rules; a start, an event and feeding add what is theirs. Assumes nothing.
use Prim.Native.Nat.{ℕ}
use mathlib.Core.Path.{◌≡◌, refl, sym, ap, ◌∙◌}
use mathlib.Core.Bool.{Bool, true, false, not, cond, ◌||◌}
use mathlib.Core.List.{List, [], ◌++◌, append-nil}
use native.Mathlib.Omega.{arith}
use lib.Dec.{eqb}
use lib.ListN.{length, take, drop}
use borrow.Author.Tests.{eqb-true, not-false}
use Rattle.std.specs.Prelude.{Ok, Err, is_ok}
use Rattle.std.specs.declared.result.Result as told
use Rattle.rules.specs.declared.Refusal.{Refusal}
use Rattle.rules.specs.declared.Settings.{Settings}
use Rattle.rules.specs.declared.Record.{Record}
use Rattle.rules.specs.declared.Event.TheVariants.{Span}
use Rattle.rules.specs.Settings.{Tables, with_defaults, out_of_range}
use Rattle.rules.specs.declared.Reply.TheVariants.{Skipped, First, Again}
use Rattle.rules.specs.declared.Reply.{Reply}
use Rattle.rules.specs.Answers.{Result, refused, gives, number_of, result_of}
use Rattle.rules.specs.declared.Got.{Got}
use Rattle.rules.specs.Order.{Outcome, outcome}
use Rattle.rules.specs.Events.{event_bytes, Fits, overrun, read_of, write_of}
use Rattle.rules.specs.Layout.{Tracker}
use Rattle.rules.specs.Conditions.{too_short}
use Rattle.rules.specs.Calls.{setup_of, restart_of, started_over, restart_over, refer_of, span_of, apply_of}
use Rattle.rules.proofs.Tests.{cases, clash, neither}
use Rattle.rules.proofs.Order.{not_both}
use Rattle.rules.proofs.Calls.{refer_accept, refer_either}
use Rattle.rules.proofs.Events.{write_fits}
use Rattle.rules.proofs.Round.{round}
use Rattle.feed.specs.Feed.{Feeding, feed_of}
use Rattle.feed.proofs.Pieces.{none_taken, one_event}
use Rattle.words.specs.declared.AnswerWords.{AnswerWords}
use Rattle.words.specs.declared.AppliedWords.{AppliedWords}
use Rattle.words.specs.declared.WrittenWords.{WrittenWords}
use Rattle.words.specs.declared.FedWords.{FedWords}
use Rattle.words.specs.Words.{few_words, record_of, put, stored_if, stored_start, Returned, returned, answer_words, applied_words, applied_from}
use Rattle.words.specs.Words.{written_words, fed_words}
use Rattle.words.proofs.Laws.{put_same}
use Rattle.driver.specs.Calls.{Held, held, tracker_in, returning, keeping, on_held, setup_in, few_for_setup, restart_in, refer_in, giving, apply_got}
use Rattle.driver.specs.Calls.{span_in, apply_in, fed_in, fed_from, feed_in}

-- the refusal stands first
pub answer_number : (s : Result Reply) → (answer_words s).refusal ≡ number_of s
answer_number (refused n) = refl
answer_number (gives Skipped) = refl
answer_number (gives First) = refl
answer_number (gives (Again d)) = refl

-- a record that is stored only if it is another than the words' own is stored
pub stored_put : (b : Bool) (kept : Record) (w : List ℕ) → (b ≡ false → kept ≡ record_of w) → stored_if b kept w ≡ put kept w
stored_put true kept w same = refl
stored_put false kept w same = sym (ap (λ r. put r w) (same refl) ∙ put_same w)

-- a written event
pub wrote : {f : Outcome ℕ (List ℕ)} {s : Result ℕ} {r : WrittenWords} {buffer : List ℕ} → outcome s buffer ≡ f → r ≡ written_words s
    → returned r buffer ≡ returning written_words f
wrote {f} {s} {r} {buffer} e is = ap (λ z. returned z buffer) is ∙ ap (returning written_words) e

-- ---- any call that judges the record

-- what it leaves turns on whether the words are too few
pub by_words : {A : Type 0} (call : Tracker → Outcome A Tracker) (h : Held) (b : Bool) → few_words h.words ≡ b
    → on_held call h ≡ cond b (outcome (refused 2) h) (keeping h (call (tracker_in h)))
by_words call h b is = ap (λ z. cond z (outcome (refused 2) h) (keeping h (call (tracker_in h)))) is

module _ {A B : Type 0} (words : Result A → B) (call : Tracker → Outcome A Tracker) (h : Held) where
  -- the words are too few
  pub too_few : {r : B} → few_words h.words ≡ true → r ≡ words (refused 2) → returned r h ≡ returning words (on_held call h)
  too_few few is = ap (λ z. returned z h) is ∙ sym (ap (returning words) (by_words call h true few))

  -- the record and the tables are what the rules left
  module _ {s : Result A} {kept : Record} {t : Tables} (enough : few_words h.words ≡ false)
      (e : outcome s (record { kept = kept; tables = t }) ≡ call (tracker_in h)) where
    pub stored_by : {r : B} {w : List ℕ} → r ≡ words s → w ≡ put kept h.words → returned r (held w t) ≡ returning words (on_held call h)
    stored_by is stored =
        (λ i. returned (is i) (held (stored i) t)) ∙ ap (λ o. returning words (keeping h o)) e
        ∙ sym (ap (returning words) (by_words call h false enough))

-- ---- a reference

pub refer_stored : (x : ℕ) (h : Held) (answer : told.Result Reply Refusal) {kept : Record} {t : Tables} {r : AnswerWords} {w : List ℕ}
    → few_words h.words ≡ false → outcome (result_of answer) (record { kept = kept; tables = t }) ≡ refer_of x (tracker_in h)
    → r ≡ answer_words (result_of answer) → w ≡ stored_if (is_ok answer) kept h.words → returned r (held w t) ≡ refer_in x h
refer_stored x h answer {kept} enough e is stored =
    stored_by answer_words (refer_of x) h enough e is (stored ∙ stored_put (is_ok answer) kept h.words own)
  where
    -- a refused reference leaves the words' own record
    refused_is : (a : told.Result Reply Refusal) → is_ok a ≡ false → (y : Reply) → result_of a ≡ gives y → ⊥
    refused_is (Ok r) z y q = clash refl z
    refused_is (Err why) z y q = absurd (not_both refl q)

    own : is_ok answer ≡ false → kept ≡ record_of h.words
    own z = refer_either x (tracker_in h)
        (λ a. absurd (refused_is answer z _ (ap (λ o. o.result) (e ∙ refer_accept x (tracker_in h) a))))
        (λ n q. ap (λ o. o.left.kept) (e ∙ q))

pub refer_skipped : (x : ℕ) (h : Held) {kept : Record} {r : AnswerWords} {w : List ℕ} → few_words h.words ≡ false
    → outcome (gives Skipped) (record { kept = kept; tables = h.tables }) ≡ refer_of x (tracker_in h) → r ≡ answer_words (gives Skipped)
    → w ≡ stored_if true kept h.words → returned r (held w h.tables) ≡ refer_in x h
refer_skipped x h enough e is stored = stored_by answer_words (refer_of x) h enough e is stored

-- ---- starts

-- where the words are too few, setup is refused by the settings
pub few_for : (given defaulted : Settings) {out b : Bool} → defaulted ≡ with_defaults given → out ≡ out_of_range defaulted → out ≡ b
    → cond b 1 2 ≡ few_for_setup given
few_for given defaulted with out is = ap (λ z. cond z 1 2) (sym is ∙ out ∙ ap out_of_range with)

module _ (h : Held) where
  -- what is stored of a start that is refused, and of one that is not, with the tables that it left
  module _ {s : Result Record} {t : Tables} {r : ℕ} {w : List ℕ} (p : returned r w ≡ stored_start s h.words) where
    pub start_refused : {n : ℕ} → s ≡ refused n → t ≡ h.tables → returned r (held w t) ≡ returned n h
    start_refused {n} is same =
        let q : returned r w ≡ returned n h.words = p ∙ ap (λ z. stored_start z h.words) is in
        λ i. returned (q i).value (held (q i).left (same i))

    pub start_given : {kept : Record} {after : Tables} → s ≡ gives kept → t ≡ after
        → returned r (held w t) ≡ returned 0 (held (put kept h.words) after)
    start_given {kept} is same =
        let q : returned r w ≡ returned 0 (put kept h.words) = p ∙ ap (λ z. stored_start z h.words) is in
        λ i. returned (q i).value (held (q i).left (same i))

  -- setup
  module _ (given : Settings) where
    pub setup_few : {r : ℕ} → few_words h.words ≡ true → r ≡ few_for_setup given → returned r h ≡ setup_in given h
    setup_few few is = cases (out_of_range (with_defaults given))
        (λ a. rw (few, is, a))
        (λ a. cases (too_short (with_defaults given) h.tables) (λ b. rw (few, is, a, b)) (λ b. rw (few, is, a, b)))

    pub setup_stored : {s : Result Record} {t : Tables} {r : ℕ} {w : List ℕ} → few_words h.words ≡ false
        → outcome s t ≡ setup_of given h.tables → returned r w ≡ stored_start s h.words → returned r (held w t) ≡ setup_in given h
    unfolding setup_of
    setup_stored {s} {t} enough e p = cases (out_of_range (with_defaults given))
        (λ a. let q = rw a at e in start_refused p (ap (λ o. o.result) q) (ap (λ o. o.left) q) ∙ rw a)
        (λ a. cases (too_short (with_defaults given) h.tables)
        (λ b. let q = rw (a, b) at e in start_refused p (ap (λ o. o.result) q) (ap (λ o. o.left) q) ∙ rw (a, b))
        (λ b. let q = rw (a, b) at e in start_given p (ap (λ o. o.result) q) (ap (λ o. o.left) q) ∙ rw (a, b, enough)))

  -- restart
  pub restart_stored : {s : Result Record} {t : Tables} {r : ℕ} {w : List ℕ} → few_words h.words ≡ false
      → outcome s t ≡ restart_of (record_of h.words) h.tables → returned r w ≡ stored_start s h.words → returned r (held w t) ≡ restart_in h
  restart_stored {s} {t} {r} {w} enough e p = by s p (ap (λ o. started_over (record_of h.words) o.result o.left) e)
    where
      by : (s : Result Record) → returned r w ≡ stored_start s h.words → started_over (record_of h.words) s t ≡ restart_over (tracker_in h)
          → returned r (held w t) ≡ restart_in h
      by (refused n) p q =
          stored_by number_of restart_over h enough q (ap (λ z. z.value) p) (ap (λ z. z.left) p ∙ sym (put_same h.words))
      by (gives kept) p q = stored_by number_of restart_over h enough q (ap (λ z. z.value) p) (ap (λ z. z.left) p)

-- ---- trace events

-- what an event that was read gives and leaves
pub got_is : {g : Got} {o : Outcome (Unit {0}) Tracker} (bytes : List ℕ) (s : Tracker) → read_of bytes ≡ gives g → apply_of g.event s ≡ o
    → apply_got (read_of bytes) s ≡ outcome (giving g.taken o.result) o.left
got_is {g} bytes s e is = ap (λ z. apply_got z s) e ∙ ap (λ o. outcome (giving g.taken o.result) o.left) is

module _ (bytes : List ℕ) (h : Held) where
  -- an event that cannot be read
  pub apply_unread : {n : ℕ} {r : AppliedWords} → few_words h.words ≡ false → read_of bytes ≡ refused n → r ≡ applied_words (refused n)
      → returned r h ≡ apply_in bytes h
  apply_unread {n} enough read is =
      stored_by applied_words (apply_got (read_of bytes)) h enough (ap (λ z. apply_got z (tracker_in h)) (sym read)) is (sym (put_same h.words))

  -- what feeding stores: if nothing was taken and no reference made, the record is the words' own
  pub feed_stored : {f : Feeding} {r : FedWords} {w : List ℕ} → f ≡ feed_of bytes (tracker_in h) → r ≡ fed_words f.taken f.result
      → w ≡ stored_if (not (eqb f.taken 0) || not (eqb f.left.kept.numbers.references (record_of h.words).numbers.references))
      f.left.kept h.words
      → returned r (held w f.left.tables) ≡ fed_from bytes h
  feed_stored {f} {r} {w} e is stored =
      let at : w ≡ put f.left.kept h.words = stored ∙ stored_put _ f.left.kept h.words own in
      (λ i. returned (is i) (held (at i) f.left.tables)) ∙ ap (fed_in h) e
    where
      own : not (eqb f.taken 0) || not (eqb f.left.kept.numbers.references (record_of h.words).numbers.references) ≡ false
          → f.left.kept ≡ record_of h.words
      own z =
          let n = neither z in
          let taken_none : f.taken ≡ 0 = eqb-true _ _ (not-false (eqb f.taken 0) n.0) in
          let made_none : f.left.kept.numbers.references ≡ (record_of h.words).numbers.references =
          eqb-true _ _ (not-false (eqb f.left.kept.numbers.references (record_of h.words).numbers.references) n.1) in
          ap (λ q. q.left.kept) e
          ∙ ap (λ q. q.kept) (none_taken bytes (tracker_in h) (sym (ap (λ q. q.taken) e) ∙ taken_none)
          (sym (ap (λ q. q.left.kept.numbers.references) e) ∙ made_none))

  -- feeding, by whether the words are too few
  pub fed_by : (b : Bool) → few_words h.words ≡ b → feed_in bytes h ≡ cond b (returned (fed_words 0 (refused 2)) h) (fed_from bytes h)
  fed_by b e = ap (λ z. cond z (returned (fed_words 0 (refused 2)) h) (fed_from bytes h)) e

  pub feed_few : {r : FedWords} → few_words h.words ≡ true → r ≡ fed_words 0 (refused 2) → returned r h ≡ feed_in bytes h
  feed_few few is = ap (λ z. returned z h) is ∙ sym (fed_by true few)

  -- an event that is fed alone is applied
  module _ {g : Got} (enough : few_words h.words ≡ false) (read : read_of bytes ≡ gives g) where
    pub applied_alone : apply_in bytes h
        ≡ (let f = fed_from (take g.taken bytes) h in returned (applied_from f.value) f.left)
    applied_alone = one_event bytes (tracker_in h) g read
        (λ left is fed. by is ∙ sym (ap alone fed))
        (λ n left is fed. by is ∙ sym (ap alone fed))
      where
        alone : Feeding → Returned AppliedWords Held
        alone f = returned (applied_from (fed_words f.taken f.result)) (held (put f.left.kept h.words) f.left.tables)

        by : {o : Outcome (Unit {0}) Tracker} → apply_of g.event (tracker_in h) ≡ o
            → apply_in bytes h ≡ returning applied_words (keeping h (outcome (giving g.taken o.result) o.left))
        by is = ap (returning applied_words) (by_words (apply_got (read_of bytes)) h false enough)
            ∙ ap (λ o. returning applied_words (keeping h o)) (got_is bytes (tracker_in h) read is)

    pub apply_fed : {f : FedWords} {r : AppliedWords} {after : Held} → returned f after ≡ fed_from (take g.taken bytes) h → r ≡ applied_from f
        → returned r after ≡ apply_in bytes h
    apply_fed {f} {r} {after} e is = (λ i. returned (is i) after) ∙ ap (λ z. returned (applied_from z.value) z.left) e ∙ sym applied_alone

-- ---- a span

-- its event, written to a buffer of its length
pub span_written : (offset bytes : ℕ) (before : List ℕ) {s : Result ℕ} {after : List ℕ} → overrun offset bytes ≡ false → length before ≡ 13
    → drop 13 before ≡ [] → outcome s after ≡ write_of (Span offset bytes) before → after ≡ event_bytes (Span offset bytes)
span_written offset bytes before within long nothing e =
    ap (λ o. o.left) (e ∙ write_fits (Span offset bytes) before within (omega (arith, long)))
    ∙ ap (λ l. event_bytes (Span offset bytes) ++ l) nothing ∙ append-nil (event_bytes (Span offset bytes))

module _ (offset bytes : ℕ) (h : Held) where
  -- by whether it overruns
  pub span_by : (b : Bool) → overrun offset bytes ≡ b
      → span_in offset bytes h ≡ returning number_of (cond b (outcome (refused 10) h) (on_held (span_of offset bytes) h))
  span_by b is = ap (λ z. returning number_of (cond z (outcome (refused 10) h) (on_held (span_of offset bytes) h))) is

  pub span_overrun : {r : ℕ} → overrun offset bytes ≡ true → r ≡ 10 → returned r h ≡ span_in offset bytes h
  span_overrun over is = ap (λ z. returned z h) is ∙ sym (span_by true over)

  module _ (within : overrun offset bytes ≡ false) where
    pub span_few : {r : ℕ} → few_words h.words ≡ true → r ≡ 2 → returned r h ≡ span_in offset bytes h
    span_few few is = too_few number_of (span_of offset bytes) h few is ∙ sym (span_by false within)

    -- its event, fed alone
    module _ (enough : few_words h.words ≡ false) (fits : Fits (Span offset bytes)) where
      abbrev event : List ℕ
      event = event_bytes (Span offset bytes)

      reads : read_of event ≡ gives (record { event = Span offset bytes; taken = 13 })
      reads = ap read_of (sym (append-nil event)) ∙ round (Span offset bytes) [] fits within

      span_alone : returning number_of (on_held (span_of offset bytes) h) ≡ (let f = fed_from event h in returned f.value.refusal f.left)
      unfolding apply_of
      span_alone = one_event event (tracker_in h) _ reads
          (λ left is fed. by is ∙ sym (ap alone fed))
          (λ n left is fed. by is ∙ sym (ap alone fed))
        where
          alone : Feeding → Returned ℕ Held
          alone f = returned (fed_words f.taken f.result).refusal (held (put f.left.kept h.words) f.left.tables)

          by : {o : Outcome (Unit {0}) Tracker} → span_of offset bytes (tracker_in h) ≡ o
              → returning number_of (on_held (span_of offset bytes) h) ≡ returning number_of (keeping h o)
          by is = ap (returning number_of) (by_words (span_of offset bytes) h false enough) ∙ ap (λ o. returning number_of (keeping h o)) is

      pub span_fed : {f : FedWords} {r : ℕ} {after : Held} {written : List ℕ} → written ≡ event → returned f after ≡ fed_from written h
          → r ≡ f.refusal
          → returned r after ≡ span_in offset bytes h
      span_fed {f} {r} {after} put e is =
          (λ i. returned (is i) after) ∙ ap (λ z. returned z.value.refusal z.left) (e ∙ ap (λ l. fed_from l h) put) ∙ sym span_alone
          ∙ sym (span_by false within)
