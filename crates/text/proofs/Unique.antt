-- Each promise decides the answer and the buffer at exit: any two results that it allows coincide. Assumes nothing.
use Prim.Native.Nat.{ℕ}
use mathlib.Core.Path.{◌≡◌, sym, ap, ◌∙◌}
use mathlib.Core.List.{List}
use Rattle.std.specs.declared.result.Result as told
use Rattle.rules.specs.declared.Record.{Record}
use Rattle.rules.specs.declared.Refusal.{Refusal}
use Rattle.rules.specs.Settings.{Histogram}
use Rattle.rules.specs.Answers.{result_of}
use Rattle.rules.specs.Order.{Outcome, outcome}
use Rattle.rules.proofs.Answers.{result_injective}
use Rattle.text.specs.Text.{curve_in, refused_in}

-- any two answers, each with its buffer, coincide if they are this outcome
abbrev WrittenOnce : Outcome ℕ (List ℕ) → Type 0
WrittenOnce x = (a b : told.Result ℕ Refusal) (u v : List ℕ) → outcome (result_of a) u ≡ x → outcome (result_of b) v ≡ x → (a ≡ b) × (u ≡ v)

written_once : (x : Outcome ℕ (List ℕ)) → WrittenOnce x
written_once x a b u v p q =
    let same = p ∙ sym q in
    (result_injective a b (ap (λ z. z.result) same), ap (λ z. z.left) same)

pub put_curve_once : (kept : Record) (g : Histogram) (buffer : List ℕ) → WrittenOnce (curve_in kept g buffer)
put_curve_once kept g buffer = written_once _

pub put_refused_line_once : (number place : ℕ) (buffer : List ℕ) → WrittenOnce (refused_in number place buffer)
put_refused_line_once number place buffer = written_once _
