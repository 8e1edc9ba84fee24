-- Each promise decides the answer, the record and every lent table at exit: any two that it allows coincide. Assumes nothing.
use Prim.Native.Nat.{ℕ}
use mathlib.Core.Path.{◌≡◌, sym, ap, ◌∙◌}
use mathlib.Core.List.{List}
use Rattle.std.specs.Prelude.{Option}
use Rattle.std.specs.declared.result.Result as told
use Rattle.rules.specs.declared.Record.{Record}
use Rattle.rules.specs.declared.Refusal.{Refusal}
use Rattle.rules.specs.declared.Reply.{Reply}
use Rattle.rules.specs.Answers.{result_of}
use Rattle.rules.specs.Order.{Outcome, outcome}
use Rattle.rules.specs.Layout.{tracker, Tracker}
use Rattle.rules.specs.Calls.{refer_of}
use Rattle.rules.proofs.Tables.{each_same}
use Rattle.rules.proofs.Answers.{result_injective}
use Rattle.refer.specs.Refer.{skip_of}

-- the answer, the record and the tables on return one by one
abbrev Once : Outcome Reply Tracker → Type 0
Once o = (r r' : told.Result Reply Refusal) (k k' : Record) (ls cs ts ls' cs' ts' : List ℕ)
    → outcome (result_of r) (tracker k ls cs ts) ≡ o
    → outcome (result_of r') (tracker k' ls' cs' ts') ≡ o
    → (r ≡ r') × (k ≡ k') × (ls ≡ ls') × (cs ≡ cs') × (ts ≡ ts')

once : (o : Outcome Reply Tracker) → Once o
once o r r' k k' ls cs ts ls' cs' ts' p q =
    let same = p ∙ sym q in
    let e = each_same (ap (λ z. z.left.tables) same) in
    (result_injective r r' (ap (λ z. z.result) same), ap (λ z. z.left.kept) same, e.0, e.1, e.2)

module _ (location : ℕ) (kept : Record) (locations counts thresholds : List ℕ) where
  pub refer_once : Once (refer_of location (tracker kept locations counts thresholds))
  refer_once = once _

  pub skip_once : (r r' : Option Record) → r ≡ skip_of location (tracker kept locations counts thresholds)
      → r' ≡ skip_of location (tracker kept locations counts thresholds) → r ≡ r'
  skip_once r r' p q = p ∙ sym q
