-- Demands 2 and 3 over whole runs, in their own words. The proofs stand in proofs/. Assumes nothing.
use Rattle.std.specs.Prelude.{ℕ, ◌-◌, ◌*◌, ◌≤◌, ◌<◌, ◌≡◌, Bool, true, false, cond, List, [], ◌∷◌, ◌++◌, ltb, eqb, length}
use Rattle.rules.specs.declared.Settings.{Settings}
use Rattle.rules.specs.declared.Event.{Event}
use Rattle.rules.specs.Lists.{keep, has, upto}
use Rattle.rules.specs.Settings.{needed, most_references, full_rate, one_reference}
use Rattle.rules.specs.Reference.{count_at, threshold_at}
use Rattle.rules.specs.declared.Reply.{Reply}
use Rattle.rules.specs.declared.Reply.TheVariants.{Skipped, First, Again}
use Rattle.rules.specs.Curve.{raw_to, total_of}
use Rattle.rules.specs.Answers.{refused, gives}
use Rattle.rules.specs.Order.{outcome}
use Rattle.rules.specs.Events.{event_bytes, event_length, Fits, overruns, read_of, write_of}
use Rattle.rules.specs.Layout.{Tracker, live_of, hash_for, profile_of}
use Rattle.rules.specs.Calls.{setup_of, restart_of, refer_of, point_on, own_point}
use Rattle.rules.specs.History.{recency, distance, Largest, Reference, location, locations}
use Rattle.rules.specs.Cache.{hits}
use Rattle.demands.specs.Runs.{Run, answers, sampled_in}

-- the hash of a location is below the threshold in force
abbrev pub in_force : Tracker → ℕ → Bool
in_force s x = ltb (hash_for s.kept.settings x) s.kept.threshold

-- ---- demand 3

-- "However often the threshold fell, it is the largest whole number, not above the starting one, below which at most the limit of
-- different referenced locations hash."
abbrev pub Threshold : Type 0
Threshold = (past : List Reference) (s : Tracker) → Run past s
    → Largest (hash_for s.kept.settings) s.kept.settings.limit s.kept.settings.start (locations past) s.kept.threshold

-- "The live list is exactly those locations, latest first,
abbrev pub LiveList : Type 0
LiveList = (past : List Reference) (s : Tracker) → Run past s → live_of s ≡ keep (in_force s) (recency (locations past))

-- as if nothing else had been tracked.": it is the live list of a run, on the same settings, of just the references that hash below it
pub record Alone (past : List Reference) (s : Tracker) : Type 0 where
  pub other : Tracker
  pub run : Run (keep (λ x. in_force s (location x)) past) other
  pub same_settings : other.kept.settings ≡ s.kept.settings
  pub same_list : live_of other ≡ live_of s

abbrev pub NothingElse : Type 0
NothingElse = (past : List Reference) (s : Tracker) → Run past s → Alone past s

-- "Each distance answered is the number of different other locations, hashing below the threshold then in force, referenced since that
-- location's previous reference.": the whole answer is the history's
abbrev pub history_reply : Tracker → List Reference → Reference → Reply
history_reply s past x =
    let here = location x in
    cond (in_force s here) (cond (has here (locations past)) (Again (distance (in_force s) here (locations past))) First) Skipped

abbrev pub Answers : Type 0
Answers = (past : List Reference) (s after : Tracker) (x : Reference) (r : Reply) → Run past s
    → refer_of x s ≡ outcome (gives r) after → r ≡ history_reply s past x

-- references is the number of references since the start, sampled of those answered Again or First, live the list's length
pub record Numbered (past : List Reference) (s : Tracker) (replies : List Reply) : Type 0 where
  pub references_is : s.kept.numbers.references ≡ length past
  pub sampled_is : s.kept.numbers.sampled ≡ sampled_in replies
  pub live_is : s.kept.live ≡ length (live_of s)

abbrev pub Numbers : Type 0
Numbers = (past : List Reference) (s : Tracker) (run : Run past s) → Numbered past s (answers run)

-- ---- demand 2

-- "In a run from a fresh start at full rate, record and tables untouched, with the sample limit never exceeded, each point's hits, in the
-- rules' count units, are exactly those of a least-recently-used cache of that size fed the same trace."
abbrev pub size_at : Tracker → (point : ℕ) → ℕ
size_at s k = (profile_of s.kept.settings).size k

pub record LikeLru (past : List Reference) (s : Tracker) (k : ℕ) : Type 0 where
  pub some_made : 0 < length past → own_point s.kept k s.tables.histogram ≡ gives (record {
    size = size_at s k;
    hits = one_reference * hits (size_at s k) (locations past);
    misses = one_reference * length past - one_reference * hits (size_at s k) (locations past);
    total = one_reference * length past;
  })
  pub none_made : past ≡ [] → own_point s.kept k s.tables.histogram ≡ refused 9

abbrev pub FullRate : Type 0
FullRate = (past : List Reference) (s : Tracker) → Run past s → s.kept.settings.start ≡ full_rate
    → length (recency (locations past)) ≤ s.kept.settings.limit
    → (k : ℕ) → k ≤ s.kept.settings.buckets → LikeLru past s k

-- "Trace events written are read back the same.": with their length, any bytes behind them; one that overruns is not written
abbrev pub ReadBack : Type 0
ReadBack = (e : Event) → Fits e → overruns e ≡ false → (rest : List ℕ)
    → read_of (event_bytes e ++ rest) ≡ gives (record { event = e; taken = event_length e })

abbrev pub WrittenReadBack : Type 0
WrittenReadBack = (e : Event) → Fits e → (buffer : List ℕ) (n : ℕ) → (write_of e buffer).result ≡ gives n
    → read_of (write_of e buffer).left ≡ gives (record { event = e; taken = n })

-- ---- clean runs

-- a reference is refused only when Full, and then it is
abbrev pub OnlyFull : Type 0
OnlyFull = (past : List Reference) (s : Tracker) (x : Reference) → Run past s
    → refer_of x s ≡ cond (eqb (length past) most_references) (outcome (refused 4) s) (outcome (gives (history_reply s past x)) (refer_of x s).left)

-- a point under the record's own shape is refused only 6 or 9, exactly on their conditions
abbrev pub OnlyPointOrEmpty : Type 0
OnlyPointOrEmpty = (past : List Reference) (s : Tracker) (k : ℕ) → Run past s
    → own_point s.kept k s.tables.histogram
    ≡ cond (ltb s.kept.settings.buckets k) (refused 6)
    (cond (eqb (total_of s.kept.threshold s.kept.settings.buckets s.tables.histogram) 0) (refused 9)
    (gives (point_on s.kept k s.tables.histogram)))

-- every bucket threshold is at least 1 and between T and T0, and counts stay within their bounds
pub record Bounded (s : Tracker) (j : ℕ) : Type 0 where
  pub at_least_one : 0 < threshold_at j s.tables.histogram
  pub not_below : s.kept.threshold ≤ threshold_at j s.tables.histogram
  pub not_above : threshold_at j s.tables.histogram ≤ s.kept.settings.start
  pub count_high : count_at j s.tables.histogram ≤ one_reference * s.kept.numbers.references
  pub raw_high : raw_to (needed s.kept.settings.buckets) s.tables.histogram ≤ one_reference * s.kept.numbers.references

abbrev pub Bounds : Type 0
Bounds = (past : List Reference) (s : Tracker) → Run past s → (j : ℕ) → j < needed s.kept.settings.buckets → Bounded s j

-- a refused reference, restart or setup leaves the run what it was, so that they may stand anywhere in it; a refused span continues it
-- (specs/Spans)
pub record Unmoved (past : List Reference) (s : Tracker) : Type 0 where
  pub by_refer : (x : Reference) (n : ℕ) → (refer_of x s).result ≡ refused n → Run past (refer_of x s).left
  pub by_restart : (n : ℕ) → (restart_of s.kept s.tables).result ≡ refused n
      → Run past (record { kept = s.kept; tables = (restart_of s.kept s.tables).left })
  pub by_setup : (given : Settings) (n : ℕ) → (setup_of given s.tables).result ≡ refused n
      → Run past (record { kept = s.kept; tables = (setup_of given s.tables).left })

abbrev pub RefusedAnywhere : Type 0
RefusedAnywhere = (past : List Reference) (s : Tracker) → Run past s → Unmoved past s

-- ---- the right-hand sides are what they say

-- the place of x's last reference, the latest being 0
abbrev pub last_reference : List ℕ → ℕ → ℕ
last_reference past x = length (upto x past)

-- a list whose entries stand in the order of their last reference, the latest first, each once
abbrev pub ByLastReference : List ℕ → List ℕ → Type 0
ByLastReference past [] = Unit {0}
ByLastReference past (x ∷ l) = ((y : ℕ) → has y l ≡ true → last_reference past x < last_reference past y) × ByLastReference past l

pub record Recency (past : List ℕ) : Type 0 where
  pub exactly : (x : ℕ) → has x (recency past) ≡ has x past
  pub ordered : ByLastReference past (recency past)
