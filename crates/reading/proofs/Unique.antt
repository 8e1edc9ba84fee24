-- Each promise decides the answer and all that is handed back or lent: any two that it allows coincide. Assumes nothing.
use mathlib.Core.Path.{◌≡◌, sym, ◌∙◌}
use Prim.Native.Nat.{ℕ}
use mathlib.Core.List.{List}
use denote.Ref.{Bor}
use Rattle.std.specs.declared.result.Result as told
use Rattle.rules.specs.declared.Got.{Got}
use Rattle.rules.specs.declared.Refusal.{Refusal}
use Rattle.rules.specs.Answers.{result_of}
use Rattle.rules.specs.Events.{read_of, unread_of}
use Rattle.rules.specs.Layout.{part, tail_of}
use Rattle.rules.proofs.Answers.{result_injective}
use Rattle.rules.proofs.Tables.{part_injective}

pub read_once : (bytes : List ℕ) (a b : told.Result Got Refusal) → result_of a ≡ read_of bytes → result_of b ≡ read_of bytes → a ≡ b
read_once bytes a b p q = result_injective a b (p ∙ sym q)

-- the part that is handed back: where it stands, and its bytes
pub unread_once : (bytes a b : Bor (List ℕ))
    → part a ≡ tail_of bytes (unread_of bytes.now) → part b ≡ tail_of bytes (unread_of bytes.now) → (a.ref_ptr ≡ b.ref_ptr) × (a.now ≡ b.now)
unread_once bytes a b p q = part_injective a b (p ∙ sym q)
