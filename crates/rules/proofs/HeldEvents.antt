-- The numbers of an event that a program holds fit their types. Assumes nothing.
use mathlib.Core.List.{[], ◌∷◌}
use native.Mathlib.Omega.{arith}
use denote.Laws.{Is}
use denote.Enum.Declared.{row}
use denote.Enum.Laws.{val, owed}
use Rattle.rules.specs.declared.Event.{Event}
use Rattle.rules.specs.declared.Event.TheVariants.{Location, Span, Restart, Setup}
use Rattle.rules.specs.Events.{Fits}
use Rattle.rules.specs.contracts.Event.{the_type}
use Rattle.rules.proofs.Event.TheLaws.{the_laws}

pub held_fits : (e : Event) → Is (row the_type) e (val the_type the_laws e ∷ []) → Fits e
held_fits (Location x) held = omega (arith, owed the_type the_laws (Location x) _ held)
held_fits (Span offset bytes) held = omega (arith, owed the_type the_laws (Span offset bytes) _ held)
held_fits Restart held = tt
held_fits (Setup b) held = omega (arith, owed the_type the_laws (Setup b) _ held)
