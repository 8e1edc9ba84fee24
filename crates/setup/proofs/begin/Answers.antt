-- Settings in range begin at a threshold of at most 2^24, which 32 bits hold.
use native.Mathlib.Omega.{arith}
use Rattle.rules.proofs.Bounds.{in_range}
use Rattle.setup.proofs.begin.Goals as goal

pub overflow_cast-start : goal.overflow_cast-start
overflow_cast-start c = omega (arith, (in_range _ c.requires.0).start_high)
