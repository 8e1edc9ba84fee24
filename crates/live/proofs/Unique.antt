-- Any two results that a promise of this crate allows coincide: what is answered, and every lent slice at exit. Assumes nothing.
use Prim.Native.Nat.{ℕ}
use mathlib.Core.Path.{◌≡◌, sym, ap, ◌∙◌}
use mathlib.Core.List.{List, ◌∷◌}
use lib.ListN.{length, take}
use Rattle.std.specs.Prelude.{Option}
use Rattle.rules.specs.declared.Hashing.{Hashing}
use Rattle.rules.specs.Settings.{hash_of}
use Rattle.rules.specs.Lists.{over}
use Rattle.rules.specs.Reference.{first_place, largest, keep_below, lowered}
use Rattle.live.specs.declared.Lowered.{Lowered}
use Rattle.live.specs.Live.{moved_to_front, Remaining, remaining, remaining_of, Lowering, lowering, staying, lowering_of}

-- whatever is promised of both
same_remaining : {r s : ℕ} {ys zs : List ℕ} {o : Remaining} → remaining r ys ≡ o → remaining s zs ≡ o → (r ≡ s) × (ys ≡ zs)
same_remaining e f = let g = e ∙ sym f in (ap (λ k. k.number) g, ap (λ k. k.table) g)

same_lowering : {r s : Lowered} {ys zs : List ℕ} {o : Lowering} → lowering r ys ≡ o → lowering s zs ≡ o → (r ≡ s) × (ys ≡ zs)
same_lowering e f = let g = e ∙ sym f in (ap (λ k. k.result) g, ap (λ k. k.table) g)

module _ (xs : List ℕ) where
  pub first_place_unique : (x : ℕ) (r s : Option ℕ) → r ≡ first_place x xs → s ≡ first_place x xs → r ≡ s
  first_place_unique x r s e f = e ∙ sym f

  pub to_front_unique : (d x : ℕ) (ys zs : List ℕ) → ys ≡ moved_to_front d x xs → zs ≡ moved_to_front d x xs → ys ≡ zs
  to_front_unique d x ys zs e f = e ∙ sym f

  module _ (h : Hashing) where
    pub largest_hash_unique : (r s : ℕ) → r ≡ largest (hash_of h) xs → s ≡ largest (hash_of h) xs → r ≡ s
    largest_hash_unique r s e f = e ∙ sym f

    pub keep_below_unique : (t r s : ℕ) (ys zs : List ℕ) → remaining r ys ≡ remaining_of (hash_of h) t xs
        → remaining s zs ≡ remaining_of (hash_of h) t xs → (r ≡ s) × (ys ≡ zs)
    keep_below_unique t r s ys zs e f = same_remaining e f

    pub lower_unique : (t x : ℕ) (r s : Lowered) (ys zs : List ℕ) → lowering r ys ≡ lowering_of (hash_of h) t x xs
        → lowering s zs ≡ lowering_of (hash_of h) t x xs → (r ≡ s) × (ys ≡ zs)
    lower_unique t x r s ys zs e f = same_lowering e f

  -- and where a table's first n entries are lent, the whole table (how it is left then: `kept_part`, `lowered_part` in Laws)
  module _ (h : Hashing) (n : ℕ) where
    pub keep_below_part_unique : (t r s : ℕ) (ys zs : List ℕ) → let kept = keep_below (hash_of h) t (take n xs) in
        remaining r ys ≡ remaining (length kept) (over kept xs) → remaining s zs ≡ remaining (length kept) (over kept xs)
        → (r ≡ s) × (ys ≡ zs)
    keep_below_part_unique t r s ys zs e f = same_remaining e f

    pub lower_part_unique : (t x : ℕ) (r s : Lowered) (ys zs : List ℕ) → let list = x ∷ take n xs in
        lowering r ys ≡ staying (hash_of h) (lowered (hash_of h) t list) list xs
        → lowering s zs ≡ staying (hash_of h) (lowered (hash_of h) t list) list xs
        → (r ≡ s) × (ys ≡ zs)
    lower_part_unique t x r s ys zs e f = same_lowering e f
