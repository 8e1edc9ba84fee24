-- Document 01, "Refusal numbers": the condition of each refusal. 1 is `out_of_range` in Settings, 7, 8 and 10 are in Events, 6 and
-- 9 in the order of a point in Calls. Assumes nothing.
use Rattle.std.specs.Prelude.{ℕ, zero, suc, ◌*◌, Bool, false, not, cond, ◌||◌, eqb, ltb, length}
use Rattle.rules.specs.declared.Settings.{Settings}
use Rattle.rules.specs.declared.Numbers.{Numbers}
use Rattle.rules.specs.declared.Record.{Record}
use Rattle.rules.specs.declared.Shape.{Shape}
use Rattle.rules.specs.Settings.{full_rate, most_references, one_reference, out_of_range, Histogram, Tables, needed}
use Rattle.rules.specs.Reference.{first_place, under, count_at, threshold_at, bucket_for}
use Rattle.rules.specs.Curve.{raw_to}
use Rattle.rules.specs.Layout.{Tracker, live_of, hash_for, profile_of}

-- ---- 2 Tables

-- a bucket table is shorter than needed
abbrev pub buckets_too_short : Settings → Histogram → Bool
buckets_too_short s g = ltb (length g.counts) (needed s.buckets) || ltb (length g.thresholds) (needed s.buckets)

-- a lent table is shorter than needed
abbrev pub too_short : Settings → Tables → Bool
too_short s t = ltb (length t.locations) s.limit || buckets_too_short s t.histogram

-- ---- 3 Torn

-- the record
unfoldable pub torn_record : Record → Bool
torn_record kept =
    out_of_range kept.settings
    || (ltb kept.settings.limit kept.live || ltb kept.settings.start kept.threshold
    || ltb kept.numbers.references kept.numbers.sampled || ltb most_references kept.numbers.references)

-- a bucket: threshold 0, below t or above P, or count above 256·references
unfoldable pub torn_bucket : (references t count threshold : ℕ) → Bool
torn_bucket references t count threshold =
    eqb threshold 0 || ltb threshold t || ltb full_rate threshold || ltb (one_reference * references) count

-- bucket j
abbrev pub torn_at : (references t j : ℕ) → Histogram → Bool
torn_at references t j g = torn_bucket references t (count_at j g) (threshold_at j g)

-- one of the buckets below n
unfoldable pub any_torn : (references t n : ℕ) → Histogram → Bool
any_torn references t zero g = false
any_torn references t (suc n) g = any_torn references t n g || torn_at references t n g

-- of the buckets below n one is torn, or their raw counts sum above 256·references
unfoldable pub torn_to : (references t n : ℕ) → Histogram → Bool
torn_to references t n g = any_torn references t n g || ltb (one_reference * references) (raw_to n g)

-- the buckets at a report: all that are needed
abbrev pub torn_report : (references t buckets : ℕ) → Histogram → Bool
torn_report references t buckets g = torn_to references t (needed buckets) g

-- the single bucket that a reference to x would record in; none if it would be Skipped
abbrev pub torn_for : (x : ℕ) → Tracker → Bool
torn_for x s =
    let t = s.kept.threshold in
    let bucket = bucket_for (profile_of s.kept.settings) t (first_place x (live_of s)) in
    cond (under (hash_for s.kept.settings) t x) (torn_at s.kept.numbers.references t bucket s.tables.histogram) false

-- ---- 4 Full

abbrev pub full : Numbers → Bool
full n = eqb n.references most_references

-- ---- 5 Stale

-- the shape of the curve under these settings
abbrev pub shape_of : Settings → Shape
shape_of s = record { buckets = s.buckets; width = s.width }

-- the believed B or W differs from the tracker's
abbrev pub stale : Shape → Settings → Bool
stale b s = not (eqb b.buckets s.buckets) || not (eqb b.width s.width)
