-- A point from the report's sums, and its numbers within what a double holds. Assumes nothing.
use Prim.Native.Nat.{ℕ, ◌≤◌, ◌<◌, ◌^◌}
use mathlib.Core.Path.{◌≡◌, sym, ap, subst, ◌∙◌}
use mathlib.Core.Bool.{true, false, cond}
use native.Mathlib.Nat.{le_of_lt}
use native.Mathlib.Omega.{arith}
use lib.Dec.{ltb, eqb}
use lib.Ieee.{binary64, round, div}
use lib.Ieee.Exact.{HasValue}
use lib.Ieee.Back.{round_whole}
use borrow.Author.Tests.{le-ltb, ltb-false, eqb-false}
use Rattle.rules.specs.declared.Record.{Record}
use Rattle.rules.specs.declared.Shape.{Shape}
use Rattle.rules.specs.declared.Point.{Point}
use Rattle.buckets.specs.declared.Sums.{Sums}
use Rattle.rules.specs.Settings.{Histogram, needed}
use Rattle.rules.specs.Curve.{hits_at, total_of, plot_point}
use Rattle.rules.specs.Answers.{refused, gives}
use Rattle.rules.specs.Conditions.{buckets_too_short, torn_record, torn_report, stale}
use Rattle.rules.specs.Calls.{point_on, point_of}
use Rattle.rules.proofs.Tests.{cases}
use Rattle.rules.proofs.Bounds.{whole, buckets_long}
use Rattle.rules.proofs.Report.{sum_rises, total_high}
use Rattle.rules.proofs.Order.{not_both}
use Rattle.rules.proofs.Answers.{gives_same, refused_same}
use Rattle.rules.proofs.FullRate.{size_fits as size_below}
use Rattle.rules.proofs.Calls.{point_buckets, point_empty, point_given, point_accepted}
use Rattle.buckets.specs.Buckets.{report_of}
use Rattle.buckets.proofs.Laws.{report_needed}
use Rattle.points.specs.Points.{from_sums}
use Rattle.points.proofs.Doubles.{quotient}

-- the record is not torn, the histogram is long enough, the shape is the record's, and the number is on the curve
module _ (kept : Record) (believed : Shape) (n : ℕ) (g : Histogram)
    (e : torn_record kept ≡ false) (f : buckets_too_short kept.settings g ≡ false)
    (h : stale believed kept.settings ≡ false) (l : n ≤ kept.settings.buckets) where
  no_point : ltb kept.settings.buckets n ≡ false
  no_point = le-ltb kept.settings.buckets n l

  report_is : report_of kept.numbers.references kept.threshold (needed kept.settings.buckets) n g
      ≡ cond (torn_report kept.numbers.references kept.threshold kept.settings.buckets g)
      (refused 3)
      (gives (record { hits = hits_at kept.threshold n g; total = total_of kept.threshold kept.settings.buckets g }))
  report_is = let long = buckets_long kept.settings g f in
      report_needed kept.numbers.references kept.threshold kept.settings.buckets g
      long.counts_long long.thresholds_long n (omega arith)

  report_torn : torn_report kept.numbers.references kept.threshold kept.settings.buckets g ≡ true
      → report_of kept.numbers.references kept.threshold (needed kept.settings.buckets) n g ≡ refused 3
  report_torn t = report_is ∙ rw t

  report_sums : torn_report kept.numbers.references kept.threshold kept.settings.buckets g ≡ false
      → report_of kept.numbers.references kept.threshold (needed kept.settings.buckets) n g
      ≡ gives (record { hits = hits_at kept.threshold n g; total = total_of kept.threshold kept.settings.buckets g })
  report_sums t = report_is ∙ rw t

  -- the report is refused: the buckets are torn
  pub from_refused : {m : ℕ} → refused m ≡ report_of kept.numbers.references kept.threshold (needed kept.settings.buckets) n g
      → refused m ≡ point_of kept believed n g
  from_refused r = cases (torn_report kept.numbers.references kept.threshold kept.settings.buckets g)
      (λ t. ap refused (refused_same (r ∙ report_torn t)) ∙ sym (point_buckets kept believed n g e f h no_point t))
      (λ t. absurd (not_both (sym r) (report_sums t)))

  -- it has its sums
  module _ (sums : Sums) (r : gives sums ≡ report_of kept.numbers.references kept.threshold (needed kept.settings.buckets) n g) where
    whole_report : (torn_report kept.numbers.references kept.threshold kept.settings.buckets g ≡ false)
        × (sums ≡ record { hits = hits_at kept.threshold n g; total = total_of kept.threshold kept.settings.buckets g })
    whole_report = cases (torn_report kept.numbers.references kept.threshold kept.settings.buckets g)
        (λ t. absurd (not_both (report_torn t) (sym r)))
        (λ t. (t, gives_same (r ∙ report_sums t)))

    pub from_sums_lem : from_sums kept.settings n sums ≡ point_of kept believed n g
    from_sums_lem = rw whole_report.1 (cases (eqb (total_of kept.threshold kept.settings.buckets g) 0)
        (λ z. rw z (sym (point_empty kept believed n g e f h no_point whole_report.0 z)))
        (λ z. rw z (sym (point_given kept believed n g (record {
          record_whole = e;
          buckets_long = f;
          shape_same = h;
          on_curve = no_point;
          report_whole = whole_report.0;
          some_total = z;
        })))))

    pub sums_ordered : sums.hits ≤ sums.total
    sums_ordered = rw whole_report.1 (sum_rises kept.threshold g n (needed kept.settings.buckets) (omega arith))

-- ---- what a point that is answered holds

-- "Size, misses and total are below 2^53."
pub record InDouble (p : Point) : Type 0 where
  pub size_fits : p.size < 2 ^ 53
  pub misses_fit : p.misses < 2 ^ 53
  pub total_fits : p.total < 2 ^ 53
  pub total_some : 0 < p.total

pub in_double : (kept : Record) (believed : Shape) (n : ℕ) (g : Histogram) (p : Point) → point_of kept believed n g ≡ gives p → InDouble p
in_double kept believed n g p a = let w = point_accepted kept believed n g a in
    fits w.record_whole (ltb-false kept.settings.buckets n w.on_curve) w.report_whole
    (eqb-false (total_of kept.threshold kept.settings.buckets g) 0 w.some_total)
    (gives_same (sym (point_given kept believed n g w) ∙ a))
  where
    fits : torn_record kept ≡ false → n ≤ kept.settings.buckets
        → torn_report kept.numbers.references kept.threshold kept.settings.buckets g ≡ false
        → (total_of kept.threshold kept.settings.buckets g ≡ 0 → ⊥)
        → point_on kept n g ≡ p → InDouble p
    fits e l t z q =
        let w = whole kept e in
        let high = total_high kept.numbers.references kept.threshold g kept.settings.buckets t in
        subst InDouble q (record {
          size_fits = size_below kept.settings w.range n l;
          misses_fit = omega (arith, w.references_high);
          total_fits = omega (arith, w.references_high);
          total_some = omega arith;
        })

-- the doubles are those of the rules: the size exactly, and the exact quotient rounded once
pub doubles : (p : Point) → InDouble p
    → record {
      size = round binary64 false p.size 1;
      ratio = div binary64 (round binary64 false p.misses 1) (round binary64 false p.total 1);
    } ≡ plot_point p
doubles p d = λ i. record {
  size = round binary64 false p.size 1;
  ratio = quotient binary64 p.misses p.total (le_of_lt d.misses_fit) (le_of_lt d.total_fits) d.total_some i;
}

pub size_exact : (p : Point) → InDouble p → HasValue (plot_point p).size false p.size 1
size_exact p d = round_whole binary64 false p.size (le_of_lt d.size_fits)
