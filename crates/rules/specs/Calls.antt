-- Document 01, "Refusal numbers": each call as one function from what it is handed to what it answers and leaves, by its order of
-- refusals, a span by its references. Assumes nothing.
use Rattle.std.specs.Prelude.{ℕ, cond, List, [], ◌∷◌, eqb, ltb}
use Rattle.rules.specs.declared.Settings.{Settings}
use Rattle.rules.specs.declared.Record.{Record}
use Rattle.rules.specs.declared.Shape.{Shape}
use Rattle.rules.specs.declared.Refusal.TheVariants as refusal
use Rattle.rules.specs.declared.Point.{Point}
use Rattle.rules.specs.declared.PlotPoint.{PlotPoint}
use Rattle.rules.specs.declared.Event.{Event}
use Rattle.rules.specs.declared.Event.TheVariants.{Location, Span, Restart, Setup}
use Rattle.rules.specs.Settings.{with_defaults, out_of_range, Histogram, Tables}
use Rattle.rules.specs.Reference.{Stepped, step}
use Rattle.rules.specs.declared.Reply.{Reply}
use Rattle.rules.specs.Curve.{total_of, curve_point, plot_point}
use Rattle.rules.specs.Answers.{Result, refused, gives}
use Rattle.rules.specs.Order.{Outcome, outcome, Judged, ◌when◌, says, by_order}
use Rattle.rules.specs.Events.{settings_of, references_of, overrun}
use Rattle.rules.specs.Layout.{Tracker, sample_of, hash_for, profile_of, stored, fresh_tables, fresh_record}
use Rattle.rules.specs.Conditions.{buckets_too_short, too_short, torn_record, torn_report, torn_for, full, shape_of, stale}
use Rattle.rules.specs.History.{Reference}

-- setup: 1, 2
abbrev pub setup_order : Settings → Tables → List Judged
setup_order given t = (refusal.Settings when out_of_range (with_defaults given)) ∷ (refusal.Tables when too_short (with_defaults given) t) ∷ []

unfoldable pub setup_of : Settings → Tables → Outcome Record Tables
setup_of given t = by_order (setup_order given t) (fresh_record (with_defaults given)) t (fresh_tables (with_defaults given) t)

-- a restart with the same settings: 3 for the record, 2
abbrev pub restart_order : Record → Tables → List Judged
restart_order kept t = (refusal.Torn when torn_record kept) ∷ (refusal.Tables when too_short kept.settings t) ∷ []

unfoldable pub restart_of : Record → Tables → Outcome Record Tables
restart_of kept t = by_order (restart_order kept t) (fresh_record kept.settings) t (fresh_tables kept.settings t)

-- what one reference does, once nothing refuses it
abbrev pub step_of : (x : ℕ) → Tracker → Stepped
step_of x s = step (hash_for s.kept.settings) s.kept.settings.limit (profile_of s.kept.settings) x (sample_of s)

-- a reference: 3 for the record, 2, 4, then 3 for the single bucket it would record in
abbrev pub refer_order : (x : ℕ) → Tracker → List Judged
refer_order x s =
    (refusal.Torn when torn_record s.kept)
    ∷ (refusal.Tables when too_short s.kept.settings s.tables)
    ∷ (refusal.Full when full s.kept.numbers)
    ∷ (refusal.Torn when torn_for x s)
    ∷ []

unfoldable pub refer_of : (x : ℕ) → Tracker → Outcome Reply Tracker
refer_of x s = by_order (refer_order x s) (step_of x s).reply s (stored (step_of x s) s)

-- a point: 3 for the record, 2, 5, 6, 3 for the buckets, 9
abbrev pub point_order : Record → Shape → (point : ℕ) → Histogram → List Judged
point_order kept believed point g =
    (refusal.Torn when torn_record kept)
    ∷ (refusal.Tables when buckets_too_short kept.settings g)
    ∷ (refusal.Stale when stale believed kept.settings)
    ∷ (refusal.Point when ltb kept.settings.buckets point)
    ∷ (refusal.Torn when torn_report kept.numbers.references kept.threshold kept.settings.buckets g)
    ∷ (refusal.Empty when eqb (total_of kept.threshold kept.settings.buckets g) 0)
    ∷ []

-- a point of the record's curve
abbrev pub point_on : Record → (point : ℕ) → Histogram → Point
point_on kept point g = curve_point (profile_of kept.settings) kept.threshold point g

unfoldable pub point_of : Record → Shape → (point : ℕ) → Histogram → Result Point
point_of kept believed point g = says (point_order kept believed point g) (point_on kept point g)

-- the shape that the record itself has
abbrev pub own_shape : Record → Shape
own_shape kept = shape_of kept.settings

-- a point under the record's own shape
abbrev pub own_point : Record → (point : ℕ) → Histogram → Result Point
own_point kept point g = point_of kept (own_shape kept) point g

-- the same point as a pair of doubles
unfoldable pub plot_of : Record → Shape → (point : ℕ) → Histogram → Result PlotPoint
plot_of kept believed point g = says (point_order kept believed point g) (plot_point (point_on kept point g))

-- ---- trace events

-- a start over a tracker that had the record `kept`: a refused start leaves that record
abbrev pub started_over : Record → Result Record → Tables → Outcome (Unit {0}) Tracker
started_over kept (refused n) t = outcome (refused n) (record { kept = kept; tables = t })
started_over kept (gives r) t = outcome (gives tt) (record { kept = r; tables = t })

abbrev pub setup_over : Settings → Tracker → Outcome (Unit {0}) Tracker
setup_over given s = started_over s.kept (setup_of given s.tables).result (setup_of given s.tables).left

abbrev pub restart_over : Tracker → Outcome (Unit {0}) Tracker
restart_over s = started_over s.kept (restart_of s.kept s.tables).result (restart_of s.kept s.tables).left

-- after a reference that was refused nothing more is done
abbrev pub going_on : Result Reply → Tracker → Outcome (Unit {0}) Tracker → Outcome (Unit {0}) Tracker
going_on (refused n) s rest = outcome (refused n) s
going_on (gives r) s rest = rest

-- references one after the other, until one is refused
unfoldable pub refer_all : List Reference → Tracker → Outcome (Unit {0}) Tracker
refer_all [] s = outcome (gives tt) s
refer_all (x ∷ xs) s = going_on (refer_of x s).result (refer_of x s).left (refer_all xs (refer_of x s).left)

-- an I/O: 10 before anything else, then its references
unfoldable pub span_of : (offset bytes : ℕ) → Tracker → Outcome (Unit {0}) Tracker
span_of offset bytes s = cond (overrun offset bytes) (outcome (refused 10) s) (refer_all (references_of (Span offset bytes)) s)

-- one event
unfoldable pub apply_of : Event → Tracker → Outcome (Unit {0}) Tracker
apply_of (Location x) s = refer_all (references_of (Location x)) s
apply_of (Span offset bytes) s = span_of offset bytes s
apply_of Restart s = restart_over s
apply_of (Setup b) s = setup_over (settings_of b) s
