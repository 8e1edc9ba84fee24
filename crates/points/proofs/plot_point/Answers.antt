-- The answer is the point's, with its numbers as doubles: each is below 2^53, so it is held exactly, and the quotient is rounded once.
use mathlib.Core.Path.{sym, ap, ◌∙◌}
use native.Mathlib.Nat.{le_of_lt}
use lib.Dec.{le→leb}
use lib.Ieee.{in_float, of_int}
use Rattle.std.proofs.lemmas.Result.{err_from_is_err_and}
use Rattle.rules.specs.Answers.{gives}
use Rattle.rules.proofs.Calls.{plotted, plot_is}
use Rattle.points.proofs.CurvePoints.{in_double, doubles}
use Rattle.points.proofs.plot_point.Goals as goal

pub returns-in_err-p : goal.returns-in_err-p
returns-in_err-p c =
    let passed = err_from_is_err_and c.from_residual.result c.from_residual.ensures.1 in
    rw (passed.1, passed.2) (ap plotted c.in_err-p.ensures ∙ plot_is _ _ _ _)

pub int_to_float-result : goal.int_to_float-result
unfolding in_float
int_to_float-result c = le→leb _ _ (le_of_lt (in_double _ _ _ _ _ (sym c.in_ok-p.ensures)).size_fits)

pub int_to_float-result-2 : goal.int_to_float-result-2
unfolding in_float
int_to_float-result-2 c = le→leb _ _ (le_of_lt (in_double _ _ _ _ _ (sym c.in_ok-p.ensures)).misses_fit)

pub int_to_float-result-3 : goal.int_to_float-result-3
unfolding in_float
int_to_float-result-3 c = le→leb _ _ (le_of_lt (in_double _ _ _ _ _ (sym c.in_ok-p.ensures)).total_fits)

pub returns : goal.returns
unfolding of_int
returns c = ap gives (doubles _ (in_double _ _ _ _ _ (sym c.in_ok-p.ensures))) ∙ ap plotted c.in_ok-p.ensures ∙ plot_is _ _ _ _
