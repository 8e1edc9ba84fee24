-- "Trace events written are read back the same.", by the promises of `write` and `read` alone. Assumes nothing.
use Rattle.std.specs.Prelude.{ℕ, ◌≡◌, List, take, Result, Ok}
use Rattle.rules.specs.declared.Event.{Event}
use Rattle.rules.specs.declared.Got.{Got}
use Rattle.rules.specs.declared.Refusal.{Refusal}
use Rattle.rules.specs.Answers.{result_of}
use Rattle.rules.specs.Order.{outcome}
use Rattle.rules.specs.Events.{read_of, write_of, Fits}

-- the promise of `write`, both clauses: of an event, the buffer as it was, the answer, and the buffer on return
abbrev pub WritePromise : Event → (before : List ℕ) → Result ℕ Refusal → (after : List ℕ) → Type 0
WritePromise event before r after = (outcome (result_of r) after ≡ write_of event before) × Fits event

-- if `write` filled n bytes, then `read` of any bytes that begin with these n, as the buffer does, answers the event with n: with no premise, since
-- an event that overruns is refused
abbrev pub WrittenIsRead : Type 0
WrittenIsRead = (event : Event) (before after : List ℕ) (n : ℕ) → WritePromise event before (Ok n) after
    → (bytes : List ℕ) → take n bytes ≡ take n after → (r : Result Got Refusal) → result_of r ≡ read_of bytes → r ≡ Ok (record { event = event; taken = n })
