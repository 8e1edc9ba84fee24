-- Any two results that a promise of this crate allows coincide. Assumes nothing.
use Rattle.std.proofs.Common.{◌≡◌, ℕ, ◌*◌, ◌%◌, ◌^◌, sym, ◌∙◌}
use Rattle.rules.specs.declared.Hashing.{Hashing}
use Rattle.rules.specs.Settings.{hash_of}

pub times_unique : (x m r s : ℕ) → r ≡ x * m % 2 ^ 64 → s ≡ x * m % 2 ^ 64 → r ≡ s
times_unique x m r s e f = e ∙ sym f

pub hash_of_unique : (h : Hashing) (location r s : ℕ) → r ≡ hash_of h location → s ≡ hash_of h location → r ≡ s
hash_of_unique h location r s e f = e ∙ sym f
