-- What is printed of a run: its curve is never refused, and how many lines it has. The proof is in proofs/OfRun. Assumes nothing.
use Rattle.std.specs.Prelude.{ℕ, suc, ◌+◌, ◌<◌, ◌≡◌, cond, List, [], ◌∷◌, ◌++◌, eqb}
use Rattle.rules.specs.declared.Record.{Record}
use Rattle.rules.specs.Settings.{Histogram}
use Rattle.rules.specs.Curve.{total_of}
use Rattle.rules.specs.Answers.{gives}
use Rattle.rules.specs.Layout.{Tracker}
use Rattle.rules.specs.Calls.{point_on}
use Rattle.rules.specs.History.{Reference}
use Rattle.demands.specs.Runs.{Run}
use Rattle.text.specs.Text.{newline, end_line, empty_line, first_line, point_line, lines_to, curve_text, curve_of}

-- how many bytes are a newline
abbrev pub newlines : List ℕ → ℕ
newlines [] = 0
newlines (b ∷ text) = cond (eqb b 10) (suc (newlines text)) (newlines text)

-- a text that is one line: its last byte is a newline, and no other is
pub record OneLine (text : List ℕ) : Type 0 where
  pub front : List ℕ
  pub is : text ≡ front ++ newline
  pub none_before : newlines front ≡ 0

-- the curve is empty: two lines, the first one and `empty`
pub record Empty (kept : Record) (text : List ℕ) : Type 0 where
  pub is : text ≡ first_line kept ++ empty_line
  pub lines : newlines text ≡ 2

-- the curve has points: the first line, B + 1 lines, that of point k being one of them for each k from 0 to B, and `end`
pub record Points (kept : Record) (g : Histogram) (text : List ℕ) : Type 0 where
  pub is : text ≡ first_line kept ++ (lines_to (kept.settings.buckets + 1) kept g ++ end_line)
  pub between : newlines (lines_to (kept.settings.buckets + 1) kept g) ≡ kept.settings.buckets + 1
  pub lines : newlines text ≡ kept.settings.buckets + 3

-- the text is given; it is an empty curve's if the total is 0, and otherwise one with points, which has more than two lines
pub record Printable (kept : Record) (g : Histogram) : Type 0 where
  pub given : curve_of kept g ≡ gives (curve_text kept g)
  pub first_line_lem : OneLine (first_line kept)
  pub point_line_lem : (k : ℕ) → OneLine (point_line (point_on kept k g))
  pub without_total : total_of kept.threshold kept.settings.buckets g ≡ 0 → Empty kept (curve_text kept g)
  pub some_total : 0 < total_of kept.threshold kept.settings.buckets g → Points kept g (curve_text kept g)

-- so it is of what any run left
abbrev pub OfRun : Type 0
OfRun = (past : List Reference) (s : Tracker) → Run past s → Printable s.kept s.tables.histogram
