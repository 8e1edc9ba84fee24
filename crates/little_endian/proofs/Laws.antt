-- Numbers got from bytes and put there. Where all its bytes are there the definitions for any place are those of the rules; the library's
-- eight bytes are the rules' bytes, with zeros behind them where a number has fewer. Assumes nothing.
use Prim.Native.Nat.{ℕ, zero, suc, ◌+◌, ◌-◌, ◌/◌, ◌%◌, ◌^◌, ◌≤◌, ◌<◌}
use mathlib.Core.Path.{◌≡◌, refl, sym, ap, ◌∙◌}
use mathlib.Core.Bool.{false}
use mathlib.Core.List.{List, [], ◌∷◌, ◌++◌}
use native.Mathlib.Nat.{zero-add, add-zero, suc-add, pow-suc, div-div-eq-div-mul}
use native.Mathlib.Omega.{arith}
use lib.Dec.{leb}
use lib.ListN.{length, get_or, take, drop, replicate}
use lib.Seq.{sets, length-sets, sets-eq}
use borrow.Author.Tests.{le-leb, lt-leb, leb-true, leb-false}
use borrow.Rule.Slice.PartMut.{put_mid}
use Rattle.std.proofs.lemmas.List.{length-take-le, append_assoc, length-drop, drop-drop, drop-replicate}
use Rattle.std.specs.Int.{w64, byte_at, bytes_low_first, to_le_bytes, from_le_bytes}
use Rattle.rules.specs.Events.{bytes_of, number_at, Bytes}
use Rattle.rules.proofs.Tests.{cases}
use Rattle.rules.proofs.LittleEndian.{sets_append, number_below, number_drop}
use Rattle.little_endian.specs.InBytes.{got_from, put_into}

-- ---- whether bytes are there

pub too_many : (all at count : ℕ) → all < count → false ≡ leb (at + count) all
too_many all at count h = sym (lt-leb (at + count) all (omega arith))

pub as_many : (all at count : ℕ) → count ≤ all → leb at (all - count) ≡ leb (at + count) all
as_many all at count h = cases (leb at (all - count))
    (λ e. e ∙ sym (le-leb (at + count) all (omega (arith, leb-true at (all - count) e))))
    (λ e. e ∙ sym (lt-leb (at + count) all (omega (arith, leb-false at (all - count) e))))

-- ---- got

module _ (n at : ℕ) (s : List ℕ) where
  pub got_there : at + n ≤ length s → got_from n at s ≡ number_at n at s
  unfolding got_from
  got_there h = rw (le-leb (at + n) (length s) h)

  pub got_none : leb (at + n) (length s) ≡ false → got_from n at s ≡ 0
  unfolding got_from
  got_none e = rw e

-- what is got fits its bytes
pub got_small : (n at : ℕ) (s : List ℕ) → Bytes s → got_from n at s < 256 ^ n
got_small n at s b = cases (leb (at + n) (length s))
    (λ e. rw (got_there n at s (leb-true _ _ e)) (number_below s b n at))
    (λ e. rw (got_none n at s e) (omega (arith, number_below s b n at)))

-- ---- put

module _ (n at x : ℕ) (s : List ℕ) where
  pub put_there : at + n ≤ length s → put_into n at x s ≡ sets s at (bytes_of n x)
  unfolding put_into
  put_there h = rw (le-leb (at + n) (length s) h)

  pub put_none : leb (at + n) (length s) ≡ false → put_into n at x s ≡ s
  unfolding put_into
  put_none e = rw e

-- a number put behind bytes that stand at the front
pub put_behind : (l bytes : List ℕ) (n x : ℕ) {before after : List ℕ} → before ≡ sets l 0 bytes → length bytes + n ≤ length l
    → after ≡ put_into n (length bytes) x before → after ≡ sets l 0 (bytes ++ bytes_of n x)
put_behind l bytes n x is h put =
    put ∙ ap (put_into n (length bytes) x) is ∙ put_there n (length bytes) x (sets l 0 bytes) (omega (arith, length-sets l 0 bytes))
    ∙ ap (λ (i : ℕ). sets (sets l 0 bytes) i (bytes_of n x)) (sym (zero-add (length bytes))) ∙ sets_append l bytes (bytes_of n x) 0

-- ---- the eight bytes that a number is got from: its own, and zeros

shifted : (n at y : ℕ) (l : List ℕ) → number_at n (suc at) (y ∷ l) ≡ number_at n at l
shifted zero at y l = refl
shifted (suc n) at y l = rw (shifted n (suc at) y l)

no_byte : (m i : ℕ) → ◌≡◌ {A = ℕ} (get_or (replicate m 0) i 0) 0
no_byte zero i = refl
no_byte (suc m) zero = refl
no_byte (suc m) (suc i) = no_byte m i

zeros : (n at m : ℕ) → number_at n at (replicate m 0) ≡ 0
zeros zero at m = refl
zeros (suc n) at m = rw (no_byte m at, zeros n (suc at) m)

padded : (n k : ℕ) (s : List ℕ) → n ≤ length s → number_at (n + k) 0 (take n s ++ replicate k 0) ≡ number_at n 0 s
padded zero k s h = zeros (0 + k) 0 k
padded (suc n) k [] h = absurd (omega arith)
padded (suc n) k (y ∷ s) h =
    rw (suc-add n k, shifted (n + k) 0 y (take n s ++ replicate k 0), padded n k s (omega arith), shifted n 0 y s)

all_bytes : (l : List ℕ) → from_le_bytes w64 l ≡ number_at 8 0 l
all_bytes l = omega arith

pub got_low : (n at : ℕ) (s low : List ℕ) {x : ℕ} → n ≤ 8 → at + n ≤ length s → low ≡ take (at + n - at) (drop at s)
    → x ≡ from_le_bytes w64 (put_mid 0 n (replicate 8 0) low) → x ≡ number_at n at s
got_low n at s low {x} few there is from =
    let own : low ≡ take n (drop at s) = is ∙ ap (λ (k : ℕ). take k (drop at s)) (let e : at + n - at ≡ n = omega arith in e) in
    let fill : 8 ≡ n + (8 - n) = omega arith in
    let all : put_mid 0 n (replicate 8 0) low ≡ take n (drop at s) ++ replicate (8 - n) 0 = rw (own, drop-replicate {X = ℕ} n 8 0) in
    from ∙ all_bytes (put_mid 0 n (replicate 8 0) low) ∙ ap (number_at 8 0) all
    ∙ ap (λ (k : ℕ). number_at k 0 (take n (drop at s) ++ replicate (8 - n) 0)) fill
    ∙ padded n (8 - n) (drop at s) (omega (arith, length-drop at s)) ∙ number_drop n at 0 s ∙ rw add-zero

-- ---- the lowest bytes of a number

nth : (i x : ℕ) → byte_at i x ≡ x / 256 ^ i % 256
nth zero x = omega arith
nth (suc i) x = refl

low_bytes : (i k n x : ℕ) → n ≤ k → take n (bytes_low_first i k x) ≡ bytes_of n (x / 256 ^ i)
low_bytes i k zero x h = refl
low_bytes i zero (suc n) x h = absurd (omega arith)
low_bytes i (suc k) (suc n) x h =
    let first : byte_at i x ≡ x / 256 ^ i % 256 = nth i x in
    let rest : x / 256 ^ suc i ≡ x / 256 ^ i / 256 = rw (pow-suc 256 i, div-div-eq-div-mul) in
    rw (first, low_bytes (suc i) k n x (omega arith), rest)

pub put_low : (n at x : ℕ) (s low : List ℕ) → n ≤ 8 → at + n ≤ length s → low ≡ take n (to_le_bytes w64 x)
    → put_mid at (at + n - at) s low ≡ sets s at (bytes_of n x)
put_low n at x s low few there is =
    let own : low ≡ bytes_of n x = is ∙ low_bytes 0 8 n x few ∙ ap (bytes_of n) (let e : x / 256 ^ 0 ≡ x = omega arith in e) in
    let after : drop (at + n - at) (drop at s) ≡ drop (at + n) s = drop-drop _ at s ∙ ap (λ (k : ℕ). drop k s) (let e : at + (at + n - at) ≡ at + n = omega arith in e) in
    let size = sym (ap length own) ∙ ap length is ∙ length-take-le n (to_le_bytes w64 x) few in
    rw (own, after) (sym (sets-eq (bytes_of n x) s at (omega (arith, size)) ∙ rw (size, append_assoc)))
