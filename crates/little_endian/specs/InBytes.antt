-- Little-endian numbers in bytes, at any place. Assumes nothing.
use Rattle.std.specs.Prelude.{ℕ, ◌+◌, cond, List, leb, length}
use Rattle.std.proofs.lemmas.List.Edits.{sets}
use Rattle.rules.specs.Events.{bytes_of, number_at}

-- the number in n bytes from a place on, or 0 if they are not all there
unfoldable pub got_from : (n at : ℕ) → List ℕ → ℕ
got_from n at s = cond (leb (at + n) (length s)) (number_at n at s) 0

-- a number put as n bytes from a place on; nothing changes if they do not fit
unfoldable pub put_into : (n at x : ℕ) → List ℕ → List ℕ
put_into n at x s = cond (leb (at + n) (length s)) (sets s at (bytes_of n x)) s
