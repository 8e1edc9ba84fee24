-- The demands, of what a C caller holds and of what its calls return. Assumes nothing.
use Rattle.std.specs.Prelude.{ℕ, ◌+◌, ◌-◌, ◌*◌, ◌≤◌, ◌<◌, ◌≡◌, true, false, List, [], ◌∷◌, ◌++◌, length, get_or, take, drop}
use Rattle.rules.specs.declared.Settings.{Settings}
use Rattle.rules.specs.declared.Shape.{Shape}
use Rattle.rules.specs.declared.Event.{Event}
use Rattle.rules.specs.declared.Event.TheVariants.{Span}
use Rattle.rules.specs.Lists.{keep}
use Rattle.rules.specs.Settings.{with_defaults, Histogram, full_rate, one_reference}
use Rattle.rules.specs.Answers.{Result, refused, gives, number, number_of}
use Rattle.rules.specs.declared.Got.{Got}
use Rattle.rules.specs.Order.{outcome}
use Rattle.rules.specs.Events.{Fits, references_of, fresh_start, overrun, overruns, read_of, write_of}
use Rattle.rules.specs.Layout.{hash_for}
use Rattle.rules.specs.Calls.{setup_of, restart_of, refer_of, span_of, point_of, plot_of}
use Rattle.rules.specs.History.{recency, Largest, Reference, locations}
use Rattle.rules.specs.Cache.{hits}
use Rattle.demands.specs.Runs.{Run, onto}
use Rattle.demands.specs.Spans.{Made, OneByOne}
use Rattle.demands.specs.Refusing.{is_span, AnotherShape, stale_or}
use Rattle.demands.specs.Needed.{needed_by, SameBeyond, settings_under, most_needed}
use Rattle.demands.specs.Statements.{history_reply, in_force, size_at, Alone}
use Rattle.feed.specs.declared.End.TheVariants.{Whole}
use Rattle.feed.specs.Feed.{feed_of}
use Rattle.feed.specs.Past.{past_after, past_of, any_fresh_start, Events, references_next}
use Rattle.words.specs.declared.PointWords.{PointWords}
use Rattle.words.specs.declared.WrittenWords.{WrittenWords}
use Rattle.words.specs.Words.{few_words, record_of, returned, answer_words, point_words, plot_words, event_words, fed_words}
use Rattle.driver.specs.Calls.{Held, tracker_in, on_words, apply_got, few_for_setup}
use Rattle.driver.specs.Calls.{setup_in, restart_in, refer_in, span_in, point_in, plot_in, apply_in, feed_in, read_in, write_in}

-- ---- demand 1: 0 exactly when the call is accepted

abbrev pub Accepted : {A : Type 0} → Result A → Type 0
Accepted (refused n) = ⊥
Accepted (gives a) = Unit {0}

-- the words are enough for a record, and the rules accept the call
abbrev pub AcceptedOn : {A : Type 0} → List ℕ → Result A → Type 0
AcceptedOn w result = (few_words w ≡ false) × Accepted result

abbrev pub ZeroWhen : (number : ℕ) → Type 0 → Type 0
ZeroWhen number P = (number ≡ 0 → P) × (P → number ≡ 0)

pub record ZeroIsAccepted : Type 0 where
  pub of_setup : (given : Settings) (h : Held) → ZeroWhen (setup_in given h).value (AcceptedOn h.words (setup_of given h.tables).result)
  pub of_restart : (h : Held) → ZeroWhen (restart_in h).value (AcceptedOn h.words (restart_of (record_of h.words) h.tables).result)
  pub of_refer : (x : ℕ) (h : Held) → ZeroWhen (refer_in x h).value.refusal (AcceptedOn h.words (refer_of x (tracker_in h)).result)
  pub of_span : (offset bytes : ℕ) (h : Held)
      → ZeroWhen (span_in offset bytes h).value (AcceptedOn h.words (span_of offset bytes (tracker_in h)).result)
  pub of_point : (w : List ℕ) (believed : Shape) (k : ℕ) (g : Histogram)
      → ZeroWhen (point_in w believed k g).refusal (AcceptedOn w (point_of (record_of w) believed k g))
  pub of_plot : (w : List ℕ) (believed : Shape) (k : ℕ) (g : Histogram)
      → ZeroWhen (plot_in w believed k g).refusal (AcceptedOn w (plot_of (record_of w) believed k g))
  pub of_apply : (bytes : List ℕ) (h : Held)
      → ZeroWhen (apply_in bytes h).value.refusal (AcceptedOn h.words (apply_got (read_of bytes) (tracker_in h)).result)
  pub of_feed : (bytes : List ℕ) (h : Held) → ZeroWhen (feed_in bytes h).value.refusal (AcceptedOn h.words (feed_of bytes (tracker_in h)).result)
  pub of_read : (bytes : List ℕ) → ZeroWhen (read_in bytes).refusal (Accepted (read_of bytes))
  pub of_write : (e : Event) (buffer : List ℕ) → ZeroWhen (write_in e buffer).value.refusal (Accepted (write_of e buffer).result)

-- ---- demand 1: any return but 0 leaves words, tables and buffer as they were. Points, plots and reading are lent nothing that they could
-- change; what a span leaves, and what feeding leaves, is below

pub record LeftAsItWas : Type 0 where
  pub by_setup : (given : Settings) (h : Held) → ((setup_in given h).value ≡ 0 → ⊥) → (setup_in given h).left ≡ h
  pub by_restart : (h : Held) → ((restart_in h).value ≡ 0 → ⊥) → (restart_in h).left ≡ h
  pub by_refer : (x : ℕ) (h : Held) → ((refer_in x h).value.refusal ≡ 0 → ⊥) → (refer_in x h).left ≡ h
  pub by_apply : (bytes : List ℕ) (h : Held) → ((g : Got) → read_of bytes ≡ gives g → is_span g.event ≡ false)
      → ((apply_in bytes h).value.refusal ≡ 0 → ⊥) → (apply_in bytes h).left ≡ h
  pub by_write : (e : Event) (buffer : List ℕ) → ((write_in e buffer).value.refusal ≡ 0 → ⊥) → (write_in e buffer).left ≡ buffer

-- feeding just the bytes that were taken is accepted, and what is left is what applying the event behind them then leaves; if feeding is
-- refused, that event is, by the same number
pub record FedThenApplied (bytes : List ℕ) (h : Held) : Type 0 where
  pub between : Held
  pub before : let n = (feed_in bytes h).value.taken in feed_in (take n bytes) h ≡ returned (fed_words n (gives Whole)) between
  pub left_is : (feed_in bytes h).left ≡ (apply_in (drop (feed_in bytes h).value.taken bytes) between).left
  pub same_refusal : ((feed_in bytes h).value.refusal ≡ 0 → ⊥)
      → (apply_in (drop (feed_in bytes h).value.taken bytes) between).value.refusal ≡ (feed_in bytes h).value.refusal

abbrev pub FedAlone : Type 0
FedAlone = (bytes : List ℕ) (h : Held) → few_words h.words ≡ false → FedThenApplied bytes h

-- ---- demand 1: the words that are lent

-- too few: 2 before all else; setup as its settings allow, and a span after 10; feeding takes nothing
pub record TooFew : Type 0 where
  pub for_setup : (given : Settings) (h : Held) → few_words h.words ≡ true → setup_in given h ≡ returned (few_for_setup given) h
  pub for_restart : (h : Held) → few_words h.words ≡ true → restart_in h ≡ returned 2 h
  pub for_refer : (x : ℕ) (h : Held) → few_words h.words ≡ true → refer_in x h ≡ returned (answer_words (refused 2)) h
  pub for_span : (offset bytes : ℕ) (h : Held) → overrun offset bytes ≡ false → few_words h.words ≡ true → span_in offset bytes h ≡ returned 2 h
  pub for_point : (w : List ℕ) (believed : Shape) (k : ℕ) (g : Histogram) → few_words w ≡ true → point_in w believed k g ≡ point_words (refused 2)
  pub for_plot : (w : List ℕ) (believed : Shape) (k : ℕ) (g : Histogram) → few_words w ≡ true → plot_in w believed k g ≡ plot_words (refused 2)
  pub for_apply : (bytes : List ℕ) (h : Held) → few_words h.words ≡ true → apply_in bytes h ≡ returned (record { refusal = 2; taken = 0 }) h
  pub for_feed : (bytes : List ℕ) (h : Held) → few_words h.words ≡ true → feed_in bytes h ≡ returned (fed_words 0 (refused 2)) h

-- 10 before all else, whatever is held
abbrev pub OverrunIn : Type 0
OverrunIn = (offset bytes : ℕ) (h : Held) → overrun offset bytes ≡ true → span_in offset bytes h ≡ returned 10 h

-- the words past the record are as they were, and there are as many
abbrev pub SamePast : Held → Held → Type 0
SamePast h after = (length after.words ≡ length h.words) × (drop 9 after.words ≡ drop 9 h.words)

pub record PastTheRecord : Type 0 where
  pub by_setup : (given : Settings) (h : Held) → SamePast h (setup_in given h).left
  pub by_restart : (h : Held) → SamePast h (restart_in h).left
  pub by_refer : (x : ℕ) (h : Held) → SamePast h (refer_in x h).left
  pub by_span : (offset bytes : ℕ) (h : Held) → SamePast h (span_in offset bytes h).left
  pub by_apply : (bytes : List ℕ) (h : Held) → SamePast h (apply_in bytes h).left
  pub by_feed : (bytes : List ℕ) (h : Held) → SamePast h (feed_in bytes h).left

-- ---- demand 1: entries of the tables past the needed ones are as they were; feeding is below, and an event that cannot be read changes nothing

pub record OnlyNeededIn : Type 0 where
  pub by_setup : (given : Settings) (h : Held) → SameBeyond (needed_by (with_defaults given)) h.tables (setup_in given h).left.tables
  pub by_restart : (h : Held) → SameBeyond (needed_by (record_of h.words).settings) h.tables (restart_in h).left.tables
  pub by_refer : (x : ℕ) (h : Held) → SameBeyond (needed_by (record_of h.words).settings) h.tables (refer_in x h).left.tables
  pub by_span : (offset bytes : ℕ) (h : Held)
      → SameBeyond (needed_by (record_of h.words).settings) h.tables (span_in offset bytes h).left.tables
  pub by_apply : (bytes : List ℕ) (g : Got) (h : Held) → read_of bytes ≡ gives g
      → SameBeyond (needed_by (settings_under g.event (record_of h.words).settings)) h.tables (apply_in bytes h).left.tables

-- ---- demand 1: a point under another shape is refused by its number, whatever the point

-- 5; only too few words, a torn record and a short table are refused before
abbrev pub StaleByNumber : Type 0
StaleByNumber = (w : List ℕ) (believed : Shape) (k : ℕ) (g : Histogram) → AnotherShape believed (record_of w).settings
    → let why = number (stale_or (record_of w) g) in
    (point_in w believed k g ≡ point_words (on_words w (refused why))) × (plot_in w believed k g ≡ plot_words (on_words w (refused why)))

-- ---- calls are a run: those that return 0 begin and continue one, and a refused span or feeding continues it by what it made

-- the word that counts the references
abbrev pub references_word : Held → ℕ
references_word h = get_or h.words 7 0

-- what is held is a record with tables that a run left
pub record HoldsRun (past : List Reference) (h : Held) : Type 0 where
  pub enough : few_words h.words ≡ false
  pub run : Run past (tracker_in h)

-- what feeding left: with the events that it took, and then the accepted references of one that was refused, it continues a run, or begins
-- one if one of the events was a fresh start; entries past the most that any settings needed under which one of them was taken, or a
-- reference made, are as they were
pub record FedRun (bytes : List ℕ) (h : Held) : Type 0 where
  pub events : List Event
  pub are : Events (take (feed_in bytes h).value.taken bytes) events
  -- the accepted ones come first among the references of the event behind the bytes taken
  pub made : List Reference
  pub rest : List Reference
  pub first_part : made ++ rest ≡ references_next (on_words h.words (read_of (drop (feed_in bytes h).value.taken bytes)))
  pub accepted : Made made (tracker_in (feed_in (take (feed_in bytes h).value.taken bytes) h).left) (tracker_in (feed_in bytes h).left)
  pub continued : (past : List Reference) → HoldsRun past h → HoldsRun (onto made (past_of events past)) (feed_in bytes h).left
  pub from_fresh_start : any_fresh_start events ≡ true → (past : List Reference)
      → HoldsRun (onto made (past_of events past)) (feed_in bytes h).left
  pub only_needed : SameBeyond (most_needed events made (record_of h.words).settings) h.tables (feed_in bytes h).left.tables

-- what a call left that made the references of an event: a first part of them was made, each accepted, and continues a run; the references
-- word counts them; and the number returned is 0, that of the next reference, or 10
pub record PartMade (e : Event) (h : Held) (number : ℕ) (after : Held) : Type 0 where
  pub result : Result (Unit {0})
  pub numbered : number ≡ number_of result
  pub one_by_one : OneByOne (overruns e) (references_of e) (tracker_in h) (outcome result (tracker_in after))
  pub counted : references_word after ≡ references_word h + length one_by_one.made
  pub continued : (past : List Reference) → HoldsRun past h → HoldsRun (onto one_by_one.made past) after

-- a span, by its call or as an event that was read; a location too
pub record OneByOneIn : Type 0 where
  pub by_span : (offset bytes : ℕ) (h : Held) → few_words h.words ≡ false
      → PartMade (Span offset bytes) h (span_in offset bytes h).value (span_in offset bytes h).left
  pub by_apply : (bytes : List ℕ) (g : Got) (h : Held) → few_words h.words ≡ false → read_of bytes ≡ gives g → fresh_start g.event ≡ false
      → PartMade g.event h (apply_in bytes h).value.refusal (apply_in bytes h).left

pub record CallsAreARun : Type 0 where
  pub by_setup : (given : Settings) (h : Held) → (setup_in given h).value ≡ 0 → HoldsRun [] (setup_in given h).left
  pub by_restart : (h : Held) → (restart_in h).value ≡ 0 → HoldsRun [] (restart_in h).left
  pub by_refer : (past : List Reference) (x : Reference) (h : Held) → HoldsRun past h → (refer_in x h).value.refusal ≡ 0
      → HoldsRun (x ∷ past) (refer_in x h).left × ((refer_in x h).value ≡ answer_words (gives (history_reply (tracker_in h) past x)))
  pub by_span : (past : List Reference) (offset bytes : ℕ) (h : Held) → HoldsRun past h → (span_in offset bytes h).value ≡ 0
      → HoldsRun (past_after (Span offset bytes) past) (span_in offset bytes h).left
  pub by_apply : (bytes : List ℕ) (g : Got) (h : Held) → read_of bytes ≡ gives g → (apply_in bytes h).value.refusal ≡ 0
      → (past : List Reference) → HoldsRun past h → HoldsRun (past_after g.event past) (apply_in bytes h).left
  pub by_fresh_start : (bytes : List ℕ) (g : Got) (h : Held) → read_of bytes ≡ gives g → fresh_start g.event ≡ true
      → (apply_in bytes h).value.refusal ≡ 0 → HoldsRun [] (apply_in bytes h).left
  pub by_feed : (bytes : List ℕ) (h : Held) → FedRun bytes h

-- of what such calls left, a point under another shape is always refused 5
abbrev pub StaleIn : Type 0
StaleIn = (past : List Reference) (h : Held) → HoldsRun past h → (believed : Shape) (k : ℕ) → AnotherShape believed (record_of h.words).settings
    → (point_in h.words believed k h.tables.histogram ≡ point_words (refused 5))
    × (plot_in h.words believed k h.tables.histogram ≡ plot_words (refused 5))

-- ---- demand 2: what a C call wrote is read back

-- the promise of each call that writes an event, both clauses
abbrev pub WritingPromise : Event → (before : List ℕ) → WrittenWords → (after : List ℕ) → Type 0
WritingPromise e before w after = (returned w after ≡ write_in e before) × Fits e

-- reading any bytes that begin with those that were filled returns the event with their number
abbrev pub ReadBackIn : Type 0
ReadBackIn = (e : Event) (before after : List ℕ) (w : WrittenWords) → WritingPromise e before w after → w.refusal ≡ 0
    → (bytes : List ℕ) → take w.length bytes ≡ take w.length after → read_in bytes ≡ event_words (gives (record { event = e; taken = w.length }))

-- ---- demands 2 and 3, of the words that such calls left

-- the words by their numbers, as in the header
abbrev pub limit_word : Held → ℕ
limit_word h = get_or h.words 0 0

abbrev pub start_word : Held → ℕ
start_word h = get_or h.words 1 0

abbrev pub buckets_word : Held → ℕ
buckets_word h = get_or h.words 3 0

abbrev pub threshold_word : Held → ℕ
threshold_word h = get_or h.words 5 0

abbrev pub live_word : Held → ℕ
live_word h = get_or h.words 6 0

-- a point under the shape that the words have
abbrev pub own_point_in : Held → (point : ℕ) → PointWords
own_point_in h k = point_in h.words (record { buckets = buckets_word h; width = get_or h.words 2 0 }) k h.tables.histogram

-- demand 3
abbrev pub ThresholdIn : Type 0
ThresholdIn = (past : List Reference) (h : Held) → HoldsRun past h
    → Largest (hash_for (tracker_in h).kept.settings) (limit_word h) (start_word h) (locations past) (threshold_word h)

abbrev pub LiveListIn : Type 0
LiveListIn = (past : List Reference) (h : Held) → HoldsRun past h
    → take (live_word h) h.tables.locations ≡ keep (in_force (tracker_in h)) (recency (locations past))

abbrev pub NothingElseIn : Type 0
NothingElseIn = (past : List Reference) (h : Held) → HoldsRun past h → Alone past (tracker_in h)

abbrev pub ReferencesIn : Type 0
ReferencesIn = (past : List Reference) (h : Held) → HoldsRun past h → references_word h ≡ length past

-- demand 2: at full rate, with the limit never exceeded, the points are those of a least-recently-used cache; 9 before the first reference
pub record LikeLruIn (past : List Reference) (h : Held) (k : ℕ) : Type 0 where
  pub some_made : 0 < length past → own_point_in h k ≡ record {
    refusal = 0;
    size = size_at (tracker_in h) k;
    hits = one_reference * hits (size_at (tracker_in h) k) (locations past);
    misses = one_reference * length past - one_reference * hits (size_at (tracker_in h) k) (locations past);
    total = one_reference * length past;
  }
  pub none_made : past ≡ [] → own_point_in h k ≡ point_words (refused 9)

abbrev pub FullRateIn : Type 0
FullRateIn = (past : List Reference) (h : Held) → HoldsRun past h → start_word h ≡ full_rate → length (recency (locations past)) ≤ limit_word h
    → (k : ℕ) → k ≤ buckets_word h → LikeLruIn past h k
