-- Each promise decides what is answered: any two that it allows coincide. Assumes nothing.
use Prim.Native.Nat.{ℕ}
use mathlib.Core.Path.{◌≡◌, sym, ◌∙◌}
use Rattle.std.specs.declared.result.Result as told
use Rattle.rules.specs.declared.Record.{Record}
use Rattle.rules.specs.declared.Shape.{Shape}
use Rattle.rules.specs.declared.Refusal.{Refusal}
use Rattle.rules.specs.declared.Point.{Point}
use Rattle.rules.specs.declared.PlotPoint.{PlotPoint}
use Rattle.rules.specs.Settings.{Histogram}
use Rattle.rules.specs.Answers.{result_of}
use Rattle.rules.specs.Calls.{point_of, plot_of}
use Rattle.rules.proofs.Answers.{result_injective}

module _ (kept : Record) (believed : Shape) (n : ℕ) (g : Histogram) where
  pub point_once : (r r' : told.Result Point Refusal) → result_of r ≡ point_of kept believed n g → result_of r' ≡ point_of kept believed n g → r ≡ r'
  point_once r r' p q = result_injective r r' (p ∙ sym q)

  pub plot_point_once : (r r' : told.Result PlotPoint Refusal) → result_of r ≡ plot_of kept believed n g → result_of r' ≡ plot_of kept believed n g → r ≡ r'
  plot_point_once r r' p q = result_injective r r' (p ∙ sym q)
