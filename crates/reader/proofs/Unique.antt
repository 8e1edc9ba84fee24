-- Each promise decides the answer and all that is handed back or lent: any two that it allows coincide. Assumes nothing.
use mathlib.Core.Path.{◌≡◌, sym, ap, ◌∙◌}
use Prim.Native.Nat.{ℕ}
use mathlib.Core.List.{List}
use denote.Ref.{Bor}
use Rattle.rules.specs.Layout.{part, tail_of}
use Rattle.std.specs.declared.result.Result as told
use Rattle.rules.specs.declared.Got.{Got}
use Rattle.rules.specs.declared.Refusal.{Refusal}
use Rattle.rules.proofs.Answers.{result_injective}
use Rattle.rules.proofs.Tables.{part_injective}
use Rattle.reader.specs.declared.Reader.{Reader}
use Rattle.reader.specs.declared.Front.{Front}
use Rattle.reader.specs.Reader.{left_at, at_front, next_of, moved, front_of}

pub new_once : (src : Bor (List ℕ)) (a b : Reader) → a ≡ at_front src → b ≡ at_front src → a ≡ b
new_once src a b p q = p ∙ sym q

pub next_once : (r : Reader) (a b : told.Result Got Refusal) (afterA afterB : Reader)
    → moved a afterA ≡ next_of r → moved b afterB ≡ next_of r → (a ≡ b) × (afterA ≡ afterB)
next_once r a b afterA afterB p q =
    let same = p ∙ sym q in
    (result_injective a b (ap (λ z. z.result) same), ap (λ z. z.reader) same)

-- the part that is handed back: where it stands, and its bytes
pub left_once : (r : Reader) (a b : Bor (List ℕ)) → part a ≡ tail_of r.src (left_at r.src.now r.at)
    → part b ≡ tail_of r.src (left_at r.src.now r.at) → (a.ref_ptr ≡ b.ref_ptr) × (a.now ≡ b.now)
left_once r a b p q = part_injective a b (p ∙ sym q)

pub whole_events_once : (bytes : List ℕ) (a b : Front) → a ≡ front_of bytes → b ≡ front_of bytes → a ≡ b
whole_events_once bytes a b p q = p ∙ sym q
