-- Which case of reading it is, by the library's first byte and by the kind that it is. Assumes nothing.
use Prim.Native.Nat.{ℕ, ◌≤◌}
use mathlib.Core.Path.{◌≡◌, refl, sym, ap, ◌∙◌}
use mathlib.Core.Bool.{true, false}
use mathlib.Core.List.{List, [], ◌∷◌}
use native.Mathlib.Omega.{arith}
use lib.Dec.{eqb}
use lib.ListN.{length, get_or}
use borrow.Author.Tests.{ne_eqb}
use Rattle.std.specs.Prelude.{Option, Some, None, Err}
use Rattle.std.specs.Option.{ok_or, option_copied}
use denote.Ref.{Bor}
use Rattle.std.specs.List.{slice_get}
use Rattle.std.proofs.lemmas.Option.{slice_get_within, get_or_from_slice_get}
use Rattle.rules.specs.declared.Kind.{Kind}
use Rattle.rules.specs.declared.Kind.TheVariants as kind
use Rattle.rules.specs.declared.Refusal.{Refusal}
use Rattle.rules.specs.declared.Refusal.TheVariants as refusal
use Rattle.rules.specs.Answers.{refused, gives, number}
use Rattle.rules.specs.Kinds.{kind_number, kind_of}
use Rattle.rules.specs.Events.{unknown, read_of}
use Rattle.rules.proofs.Answers.{gives_same, refused_same}
use Rattle.rules.proofs.Order.{not_both}
use Rattle.rules.proofs.Events.{of_kind, by_kind, read_empty, read_kind}

-- a byte that is no kind's
module _ (byte : ℕ) (u : unknown byte ≡ true) where
  not : (i : ℕ) → unknown i ≡ false → eqb byte i ≡ false
  not i known = ne_eqb byte i (λ e. let z : false ≡ true = sym known ∙ ap unknown (sym e) ∙ u in cc)

  kind_none : kind_of byte ≡ refused 8
  kind_none = simp (not 1 refl, not 2 refl, not 3 refl, not 4 refl)

-- by what the library's `first` answers
module _ (s : List ℕ) {first : Option (Bor ℕ)} (value : option_copied first ≡ slice_get s 0) where
  -- there is no byte: the refusal that stands for that is Short
  pub read_none : {why : Refusal} → Err why ≡ ok_or first refusal.Short → first ≡ None → refused (number why) ≡ read_of s
  read_none {why} said none =
      let w : why ≡ refusal.Short = cc in
      rw w (sym (read_empty s (empty s (sym (ap option_copied none) ∙ value))))
    where
      empty : (l : List ℕ) → None ≡ slice_get l 0 → length l ≡ 0
      empty [] e = refl
      empty (x ∷ l) e = absurd (cc)

  module _ {r : Bor ℕ} (some : first ≡ Some r) where
    at_front : slice_get s 0 ≡ Some r.now
    at_front = sym value ∙ ap option_copied some

    pub there : 1 ≤ length s
    there = slice_get_within s 0 _ at_front

    any : length s ≡ 0 → ⊥
    any z = omega (arith, there)

    is : get_or s 0 0 ≡ r.now
    is = get_or_from_slice_get s 0 _ 0 at_front

    pub read_known : {given is_kind : Kind} → gives given ≡ kind_of r.now → given ≡ is_kind → read_of s ≡ of_kind (kind_number is_kind) s
    read_known {given} {is_kind} h e = read_kind (kind_number is_kind) s any (is ∙ number ∙ ap kind_number e)
      where
        one : (k : Kind) → r.now ≡ kind_number k → kind_of (kind_number k) ≡ gives k → r.now ≡ kind_number given
        one k at f = at ∙ ap kind_number (sym (gives_same (h ∙ ap kind_of at ∙ f)))

        number : r.now ≡ kind_number given
        number = by_kind r.now (λ at. one kind.Location at refl) (λ at. one kind.Span at refl) (λ at. one kind.Restart at refl) (λ at. one kind.Setup at refl)
            (λ u. absurd (not_both (kind_none r.now u) (sym h)))

    pub read_unknown : {n : ℕ} → refused n ≡ kind_of r.now → refused n ≡ read_of s
    read_unknown h = by_kind r.now
        (λ e. absurd (not_both (sym h) (ap kind_of e)))
        (λ e. absurd (not_both (sym h) (ap kind_of e)))
        (λ e. absurd (not_both (sym h) (ap kind_of e)))
        (λ e. absurd (not_both (sym h) (ap kind_of e)))
        (λ u. ap refused (refused_same (h ∙ kind_none r.now u)) ∙ sym (read_kind r.now s any is ∙ rw u))
