-- The text of a run: no refusal but 9 is left of its points, so none of its curve; and its newlines, counted line by line. No digit and no word
-- has a newline. Assumes nothing.
use Prim.Native.Nat.{ℕ, zero, suc, ◌+◌, ◌/◌, ◌%◌}
use mathlib.Core.Path.{◌≡◌, refl, sym, ap, ◌∙◌}
use mathlib.Core.Bool.{Bool, cond}
use mathlib.Core.List.{List, [], ◌∷◌, ◌++◌, append_assoc}
use native.Mathlib.Omega.{arith}
use lib.Dec.{eqb, ltb}
use borrow.Author.Tests.{eq-eqb, ne_eqb, le-ltb}
use Rattle.rules.specs.declared.Record.{Record}
use Rattle.rules.specs.declared.Point.{Point}
use Rattle.rules.specs.Settings.{Histogram}
use Rattle.rules.specs.Curve.{total_of}
use Rattle.rules.specs.Answers.{refused, gives}
use Rattle.rules.specs.Layout.{Tracker}
use Rattle.rules.specs.Calls.{point_on}
use Rattle.rules.specs.History.{Reference}
use Rattle.rules.proofs.Tests.{cases}
use Rattle.demands.specs.Runs.{Run}
use Rattle.demands.proofs.Points.{only_point_or_empty}
use Rattle.text.specs.Text.{decimal_most, decimal, refs_word, sampled_word, threshold_word, live_word, space, newline, end_line, empty_line}
use Rattle.text.specs.Text.{first_line, point_line, lines_to, no_total, Judges}
use Rattle.text.specs.OfRun.{newlines, OneLine, OfRun}
use Rattle.text.proofs.Curves.{judgement, point_judges, text_empty, text_points, curve_given}

-- ---- newlines

newlines_append : (a b : List ℕ) → newlines (a ++ b) ≡ newlines a + newlines b
newlines_append [] b = omega arith
newlines_append (x ∷ a) b = cases (eqb x 10)
    (λ e. rw e (omega (arith, newlines_append a b)))
    (λ e. rw e (newlines_append a b))

neither_has : (a b : List ℕ) → newlines a ≡ 0 → newlines b ≡ 0 → newlines (a ++ b) ≡ 0
neither_has a b e f = omega (arith, newlines_append a b)

digits_none : (digits n : ℕ) → newlines (decimal_most digits n) ≡ 0
digits_none zero n = refl
digits_none (suc digits) n = cases (ltb n 10)
    (λ e. rw (e, ne_eqb (48 + n) 10 (λ z. omega arith)))
    (λ e. rw e (neither_has (decimal_most digits (n / 10)) ((48 + n % 10) ∷ []) (digits_none digits (n / 10))
    (rw (ne_eqb (48 + n % 10) 10 (λ z. omega arith)))))

-- ---- lines

-- a line, with a word and a number put in front of it
worded : (word : List ℕ) (n : ℕ) {line : List ℕ} → newlines word ≡ 0 → OneLine line → OneLine ((word ++ decimal n) ++ line)
unfolding decimal
worded word n e o = record {
  front = (word ++ decimal n) ++ o.front;
  is = ap (λ l. (word ++ decimal n) ++ l) o.is ∙ sym (append_assoc (word ++ decimal n) o.front newline);
  none_before = neither_has (word ++ decimal n) o.front (neither_has word (decimal n) e (digits_none 20 n)) o.none_before;
}

line_end : OneLine newline
line_end = record { front = []; is = refl; none_before = refl }

one : {line : List ℕ} → OneLine line → newlines line ≡ 1
one o = rw (o.is, newlines_append o.front newline, o.none_before)

first_line_lem : (kept : Record) → OneLine (first_line kept)
first_line_lem kept =
    worded refs_word kept.numbers.references refl (worded sampled_word kept.numbers.sampled refl
    (worded threshold_word kept.threshold refl (worded live_word kept.live refl line_end)))

point_line_lem : (p : Point) → OneLine (point_line p)
point_line_lem p = worded [] p.size refl (worded space p.misses refl (worded space p.total refl line_end))

point_lines : (n : ℕ) (kept : Record) (g : Histogram) → newlines (lines_to n kept g) ≡ n
unfolding lines_to
point_lines zero kept g = refl
point_lines (suc n) kept g =
    let line = point_line (point_on kept n g) in
    omega (arith, newlines_append (lines_to n kept g) line, point_lines n kept g, one (point_line_lem (point_on kept n g)))

-- ---- the text

-- the curve of a run is not refused
judged : (past : List Reference) (s : Tracker) → Run past s
    → Judges s.kept s.tables.histogram (gives (no_total s.kept s.tables.histogram))
judged past s run = cases (no_total s.kept s.tables.histogram) (λ e. rw e (asked e)) (λ e. rw e (asked e))
  where
    -- by what is answered to point 0
    asked : {b : Bool} → no_total s.kept s.tables.histogram ≡ b
        → Judges s.kept s.tables.histogram (judgement (cond b (refused 9) (gives (point_on s.kept 0 s.tables.histogram))))
    asked e = rw (only_point_or_empty past s 0 run, le-ltb s.kept.settings.buckets 0 (omega arith), e) at
        (point_judges s.kept s.tables.histogram)

module _ (kept : Record) (g : Histogram) where
  abbrev points : List ℕ
  points = lines_to (kept.settings.buckets + 1) kept g

  two : newlines (first_line kept ++ empty_line) ≡ 2
  two = omega (arith, newlines_append (first_line kept) empty_line, one (first_line_lem kept))

  three_more : newlines (first_line kept ++ (points ++ end_line)) ≡ kept.settings.buckets + 3
  three_more = omega (
    arith,
    newlines_append (first_line kept) (points ++ end_line),
    one (first_line_lem kept),
    newlines_append points end_line,
    point_lines (kept.settings.buckets + 1) kept g,
  )

pub of_run : OfRun
of_run past s run =
    let kept = s.kept in
    let g = s.tables.histogram in
    record {
      given = curve_given (judged past s run);
      first_line_lem = first_line_lem kept;
      point_line_lem = λ k. point_line_lem (point_on kept k g);
      without_total = λ z. let is = text_empty kept g (eq-eqb _ 0 z) in record { is = is; lines = ap newlines is ∙ two kept g };
      some_total = λ z. let is = text_points kept g (ne_eqb (total_of kept.threshold kept.settings.buckets g) 0 (λ e. omega arith)) in record {
        is = is;
        between = point_lines (kept.settings.buckets + 1) kept g;
        lines = ap newlines is ∙ three_more kept g;
      };
    }
