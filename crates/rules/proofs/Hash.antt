-- Laws of the hash. Assumes nothing.
use mathlib.Core.Path.{◌≡◌, refl}
use Prim.Native.Nat.{ℕ, ◌<◌}
use native.Mathlib.Nat.{mod-lt}
use lib.Dec.{eqb}
use lib.Pow.{pow_pos}
use Rattle.rules.specs.declared.Hashing.{Hashing}
use Rattle.rules.specs.Settings.{shift_step, finaliser, hash_of, full_rate}
use Rattle.rules.proofs.Tests.{cases}

-- every hash is below fullRate
pub hash_below : (how : Hashing) (location : ℕ) → hash_of how location < full_rate
unfolding hash_of
hash_below how location = cases (eqb how.kind 0)
    (λ e. rw e (mod-lt location (pow_pos 24)))
    (λ e. rw e (mod-lt (finaliser location) (pow_pos 24)))

-- the kind 1 hash of 0 is 0
pub hash_zero : hash_of (record { kind = 1 }) 0 ≡ 0
unfolding hash_of finaliser shift_step
hash_zero = refl
