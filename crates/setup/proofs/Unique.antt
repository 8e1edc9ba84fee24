-- Each promise decides the answer, the record and every lent table at exit: any two that it allows coincide. Assumes nothing.
use Prim.Native.Nat.{ℕ}
use mathlib.Core.Path.{◌≡◌, sym, ap, ◌∙◌}
use mathlib.Core.List.{List}
use Rattle.std.specs.declared.result.Result as told
use Rattle.rules.specs.declared.Settings.{Settings}
use Rattle.rules.specs.declared.Record.{Record}
use Rattle.rules.specs.declared.Refusal.{Refusal}
use Rattle.rules.specs.Settings.{Tables, with_defaults}
use Rattle.rules.specs.Answers.{result_of}
use Rattle.rules.specs.Order.{outcome, Outcome}
use Rattle.rules.specs.Layout.{tables_of}
use Rattle.rules.specs.Calls.{setup_of, restart_of}
use Rattle.rules.proofs.Tables.{each_same}
use Rattle.rules.proofs.Answers.{result_injective}

pub with_defaults_once : (given r r' : Settings) → r ≡ with_defaults given → r' ≡ with_defaults given → r ≡ r'
with_defaults_once given r r' p q = p ∙ sym q

-- the answer, and the tables on return one by one
abbrev Once : Outcome Record Tables → Type 0
Once o = (r r' : told.Result Record Refusal) (ls cs ts ls' cs' ts' : List ℕ)
    → outcome (result_of r) (tables_of ls cs ts) ≡ o → outcome (result_of r') (tables_of ls' cs' ts') ≡ o
    → (r ≡ r') × (ls ≡ ls') × (cs ≡ cs') × (ts ≡ ts')

once : (o : Outcome Record Tables) → Once o
once o r r' ls cs ts ls' cs' ts' p q =
    let same = p ∙ sym q in
    let e = each_same (ap (λ z. z.left) same) in
    (result_injective r r' (ap (λ z. z.result) same), e.0, e.1, e.2)

pub setup_once : (given : Settings) (locations counts thresholds : List ℕ) → Once (setup_of given (tables_of locations counts thresholds))
setup_once given locations counts thresholds = once _

pub restart_once : (kept : Record) (locations counts thresholds : List ℕ) → Once (restart_of kept (tables_of locations counts thresholds))
restart_once kept locations counts thresholds = once _
