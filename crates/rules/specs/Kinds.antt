-- Document 01, "Trace events": the number of each kind of event. Assumes nothing.
use Rattle.std.specs.Prelude.{ℕ, cond, eqb}
use Rattle.rules.specs.declared.Kind.{Kind}
use Rattle.rules.specs.declared.Kind.TheVariants as kind
use Rattle.rules.specs.Answers.{Result, refused, gives}

abbrev pub kind_number : Kind → ℕ
kind_number kind.Location = 1
kind_number kind.Span = 2
kind_number kind.Restart = 3
kind_number kind.Setup = 4

-- the kind of a number; 8 where no kind has it
abbrev pub kind_of : (n : ℕ) → Result Kind
kind_of n =
    cond (eqb n 1) (gives kind.Location)
    (cond (eqb n 2) (gives kind.Span)
    (cond (eqb n 3) (gives kind.Restart)
    (cond (eqb n 4) (gives kind.Setup) (refused 8))))
