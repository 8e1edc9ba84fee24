-- Each promise decides the answer and all that is handed back or lent: any two that it allows coincide. Assumes nothing.
use mathlib.Core.Path.{◌≡◌, sym, ap, ◌∙◌}
use Prim.Native.Nat.{ℕ}
use mathlib.Core.List.{List}
use Rattle.rules.specs.declared.Event.{Event}
use Rattle.rules.specs.declared.Refusal.{Refusal}
use Rattle.std.specs.Prelude.{Result}
use Rattle.rules.specs.Answers.{result_of}
use Rattle.rules.specs.Order.{outcome}
use Rattle.rules.specs.Events.{write_of}
use Rattle.rules.proofs.Answers.{result_injective}

pub write_once : (event : Event) (buffer : List ℕ) (a b : Result ℕ Refusal) (afterA afterB : List ℕ)
    → outcome (result_of a) afterA ≡ write_of event buffer → outcome (result_of b) afterB ≡ write_of event buffer → (a ≡ b) × (afterA ≡ afterB)
write_once event buffer a b afterA afterB p q =
    let same = p ∙ sym q in
    (result_injective a b (ap (λ z. z.result) same), ap (λ z. z.left) same)
