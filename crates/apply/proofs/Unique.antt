-- Each promise decides the answer, the record and every lent table at exit: any two that it allows coincide. Assumes nothing.
use Prim.Native.Nat.{ℕ}
use mathlib.Core.Path.{◌≡◌, sym, ap, ◌∙◌}
use mathlib.Core.List.{List}
use Rattle.std.specs.Prelude.{Option}
use Rattle.std.specs.declared.result.Result as told
use Rattle.rules.specs.declared.Event.{Event}
use Rattle.rules.specs.declared.Record.{Record}
use Rattle.rules.specs.declared.Refusal.{Refusal}
use Rattle.rules.specs.Answers.{result_of}
use Rattle.rules.specs.Order.{outcome}
use Rattle.rules.specs.Layout.{Tracker, tracker}
use Rattle.rules.specs.Calls.{apply_of}
use Rattle.rules.proofs.Tables.{each_same}
use Rattle.rules.proofs.Answers.{result_injective}
use Rattle.apply.specs.EventCall.{skip_event}

pub apply_once : (event : Event) (kept : Record) (locations counts thresholds : List ℕ)
    (r r' : told.Result (Unit {0}) Refusal) (k k' : Record) (ls cs ts ls' cs' ts' : List ℕ)
    → outcome (result_of r) (tracker k ls cs ts) ≡ apply_of event (tracker kept locations counts thresholds)
    → outcome (result_of r') (tracker k' ls' cs' ts') ≡ apply_of event (tracker kept locations counts thresholds)
    → (r ≡ r') × (k ≡ k') × (ls ≡ ls') × (cs ≡ cs') × (ts ≡ ts')
apply_once event kept locations counts thresholds r r' k k' ls cs ts ls' cs' ts' p q =
    let same = p ∙ sym q in
    let e = each_same (ap (λ z. z.left.tables) same) in
    (result_injective r r' (ap (λ z. z.result) same), ap (λ z. z.left.kept) same, e.0, e.1, e.2)

pub skip_once : (event : Event) (s : Tracker) (r r' : Option Record) → r ≡ skip_event event s → r' ≡ skip_event event s → r ≡ r'
skip_once event s r r' p q = p ∙ sym q
