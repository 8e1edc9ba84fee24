-- What a read came to, from the tests on what it returned: on the number of bytes, or on the kind of the error. Assumes nothing.
use Prim.Native.Nat.{ℕ, ◌≤◌, ◌<◌}
use mathlib.Core.Path.{◌≡◌, refl, sym, ◌∙◌}
use mathlib.Core.Bool.{true, false, cond}
use native.Mathlib.Omega.{arith}
use lib.Dec.{eqb}
use borrow.Author.Tests.{ne_eqb}
use Rattle.std.specs.Prelude.{min, Ok, Err}
use Rattle.std.specs.declared.result.Result as told
use Rattle.std.specs.declared.io.Error.{Error}
use Rattle.std.specs.declared.io.ErrorKind.{ErrorKind}
use Rattle.std.specs.declared.io.ErrorKind.TheVariants as kind
use Rattle.std.specs.IoError.{error_kind}
use Rattle.rules.proofs.Tests.{cases}
use Rattle.curve.specs.Program.{interruption, interrupted, Came, some_bytes, no_more, once_more, failure, came_of}

is_interrupted : (error : Error) → error_kind error ≡ kind.Interrupted → interrupted error ≡ true
is_interrupted error is = rw is

not_interruption : (k : ErrorKind) → (k ≡ kind.Interrupted → ⊥) → interruption k ≡ false
not_interruption kind.Interrupted not = absurd (not refl)
not_interruption _ not = refl

not_interrupted : (error : Error) → (error_kind error ≡ kind.Interrupted → ⊥) → interrupted error ≡ false
not_interrupted error not = not_interruption (error_kind error) not

module _ (room : ℕ) where
  pub came_bytes : (k : ℕ) {n : ℕ} → 0 < k → n ≡ min k room → some_bytes n ≡ came_of (Ok k) room
  came_bytes k some is = rw (ne_eqb k 0 (λ z. omega (arith, z, some)), is)

  pub came_end : no_more ≡ came_of (Ok 0) room
  came_end = refl

  -- of an error, which was a negative number of the system's
  came_negative : (error : Error) → came_of (Err error) room ≡ cond (interrupted error) once_more (failure error)
  came_negative error = refl

  pub came_again : (error : Error) → error_kind error ≡ kind.Interrupted → once_more ≡ came_of (Err error) room
  came_again error is = sym (came_negative error ∙ rw (is_interrupted error is))

  pub came_failed : (error : Error) → (error_kind error ≡ kind.Interrupted → ⊥) → failure error ≡ came_of (Err error) room
  came_failed error not = sym (came_negative error ∙ rw (not_interrupted error not))

-- no more came than there was room for
abbrev Within : Came → (room : ℕ) → Type 0
Within (some_bytes n) room = n ≤ room
Within no_more room = Unit {0}
Within once_more room = Unit {0}
Within (failure e) room = Unit {0}

within : (got : told.Result ℕ Error) (room : ℕ) → Within (came_of got room) room
within (Ok k) room = cases (eqb k 0) (λ z. rw z tt) (λ z. rw z (omega arith))
within (Err e) room = cases (interrupted e) (λ z. rw z tt) (λ z. rw z tt)

pub came_fits : (got : told.Result ℕ Error) (room : ℕ) {n : ℕ} → came_of got room ≡ some_bytes n → n ≤ room
came_fits got room e = rw e at (within got room)
