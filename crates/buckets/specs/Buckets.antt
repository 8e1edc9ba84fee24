-- Recording in the histogram, and reporting it. Assumes nothing.
use Rattle.std.specs.Prelude.{ℕ, ◌*◌, ◌≤◌, min, ◌≡◌, Bool, true, false, ◌||◌, List, [], ◌∷◌, Ok, Err, ltb, leb, length}
use Rattle.std.specs.declared.result.Result as told
use Rattle.rules.specs.declared.Refusal.{Refusal}
use Rattle.rules.specs.Settings.{Histogram, one_reference}
use Rattle.rules.specs.Reference.{record_in}
use Rattle.rules.specs.Curve.{sum_to, raw_to}
use Rattle.rules.specs.declared.Refusal.TheVariants as refusal
use Rattle.rules.specs.Answers.{Result}
use Rattle.rules.specs.Order.{Outcome, Judged, ◌when◌, says, by_order}
use Rattle.rules.specs.Conditions.{torn_at, any_torn, torn_to}
use Rattle.buckets.specs.declared.Sums.{Sums}
use Rattle.buckets.specs.declared.Adding.{Adding}

-- whether place j is outside a table or its bucket is torn
unfoldable pub unrecordable : (references t j : ℕ) → Histogram → Bool
unrecordable references t j g = leb (length g.counts) j || leb (length g.thresholds) j || torn_at references t j g

-- one reference recorded in bucket j under t: 3 if it cannot be
abbrev pub recorded_order : (references t j : ℕ) → Histogram → List Judged
recorded_order references t j g = (refusal.Torn when unrecordable references t j g) ∷ []

unfoldable pub recorded_of : (references t j : ℕ) → Histogram → Outcome (Unit {0}) Histogram
recorded_of references t j g = by_order (recorded_order references t j g) tt g (record_in t j g)

-- the report of the first n buckets under t: the hits at a point and the total; 2 if a table is shorter, 3 for the buckets
abbrev pub report_order : (references t n : ℕ) → Histogram → List Judged
report_order references t n g =
    (refusal.Tables when (ltb (length g.counts) n || ltb (length g.thresholds) n)) ∷ (refusal.Torn when torn_to references t n g) ∷ []

unfoldable pub report_of : (references t n point : ℕ) → Histogram → Result Sums
report_of references t n point g = says (report_order references t n g) (record { hits = sum_to t (min point n) g; total = sum_to t n g })

-- the buckets below n are not torn, and add up to raw and sum
pub record SoFar (references t n : ℕ) (g : Histogram) (raw sum : ℕ) : Type 0 where
  pub whole : any_torn references t n g ≡ false
  pub raw_is : raw ≡ raw_to n g
  pub sum_is : sum ≡ sum_to t n g
  pub raw_high : raw ≤ one_reference * references
  pub sum_high : sum ≤ raw

-- the buckets below n add up to this, or they are torn
abbrev pub added_to : (references t n : ℕ) → Histogram → told.Result Adding Refusal → Type 0
added_to references t n g (Ok a) = SoFar references t n g a.raw a.sum
added_to references t n g (Err why) = (why ≡ refusal.Torn) × (torn_to references t n g ≡ true)
