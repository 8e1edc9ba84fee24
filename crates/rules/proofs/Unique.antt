-- Each promise decides the answer: any two that it allows coincide. Assumes nothing.
use Prim.Native.Nat.{ℕ}
use mathlib.Core.Path.{◌≡◌, sym, ◌∙◌}
use Rattle.std.specs.declared.result.Result as told
use Rattle.rules.specs.declared.Refusal.{Refusal}
use Rattle.rules.specs.declared.Kind.{Kind}
use Rattle.rules.specs.declared.Settings.{Settings}
use Rattle.rules.specs.declared.Shape.{Shape}
use Rattle.rules.specs.declared.SetupBody.{SetupBody}
use Rattle.rules.specs.Answers.{number, result_of}
use Rattle.rules.specs.Events.{settings_of}
use Rattle.rules.specs.Conditions.{shape_of}
use Rattle.rules.specs.Kinds.{kind_number, kind_of}
use Rattle.rules.proofs.Answers.{result_injective}

pub number_once : (why : Refusal) (n m : ℕ) → n ≡ number why → m ≡ number why → n ≡ m
number_once why n m p q = p ∙ sym q

pub kind_number_once : (kind : Kind) (n m : ℕ) → n ≡ kind_number kind → m ≡ kind_number kind → n ≡ m
kind_number_once kind n m p q = p ∙ sym q

pub kind_once : (byte : ℕ) (r r' : told.Result Kind Refusal) → result_of r ≡ kind_of byte → result_of r' ≡ kind_of byte → r ≡ r'
kind_once byte r r' p q = result_injective r r' (p ∙ sym q)

pub shape_once : (settings : Settings) (s s' : Shape) → s ≡ shape_of settings → s' ≡ shape_of settings → s ≡ s'
shape_once settings s s' p q = p ∙ sym q

pub settings_once : (body : SetupBody) (s s' : Settings) → s ≡ settings_of body → s' ≡ settings_of body → s ≡ s'
settings_once body s s' p q = p ∙ sym q
