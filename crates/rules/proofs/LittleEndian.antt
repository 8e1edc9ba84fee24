-- Numbers as bytes, little-endian: laws over the width, by induction on it. The first byte is the remainder by 256, and those behind it are the
-- quotient's. Assumes nothing.
use Prim.Native.Nat.{ℕ, zero, suc, ◌+◌, ◌*◌, ◌/◌, ◌%◌, ◌^◌, ◌≤◌, ◌<◌}
use mathlib.Core.Path.{◌≡◌, refl, sym, ap, ◌∙◌}
use mathlib.Core.List.{List, [], ◌∷◌, ◌++◌}
use native.Mathlib.Nat.{zero-add, add-zero, suc-add, add-suc, pow-suc, mod-add-div, mod-lt, add-mul-mod_self_left, add-mul-div_left}
use native.Mathlib.Omega.{arith}
use lib.ListN.{length, get_or, take, drop, set, take-append-drop}
use lib.Seq.{drop-cons, get_or-drop, sets}
use Rattle.rules.specs.Events.{bytes_of, number_at, Bytes}

-- ---- m bytes, and n behind them

pub number_two : (m n at : ℕ) (s : List ℕ) → number_at (m + n) at s ≡ number_at m at s + 256 ^ m * number_at n (at + m) s
number_two zero n at s = rw (zero-add n, add-zero at) (omega arith)
number_two (suc m) n at s =
    let ih : number_at (m + n) (suc at) s ≡ number_at m (suc at) s + 256 ^ m * number_at n (suc (at + m)) s =
    rw (← suc-add at m) (number_two m n (suc at) s) in
    rw (suc-add m n, add-suc at m, pow-suc 256 m) (omega arith)

bytes_join : (m n low high : ℕ) → low < 256 ^ m → bytes_of (m + n) (low + 256 ^ m * high) ≡ bytes_of m low ++ bytes_of n high
bytes_join zero n low high h = rw (zero-add n) (ap (bytes_of n) (let q : low + 256 ^ 0 * high ≡ high = omega arith in q))
bytes_join (suc m) n low high h =
    let e : low + 256 ^ suc m * high ≡ low + 256 * (256 ^ m * high) = rw pow-suc (omega arith) in
    rw (suc-add, e, add-mul-mod_self_left low 256 (256 ^ m * high), add-mul-div_left low (256 ^ m * high) {y = 256} (omega arith))
    (ap (λ (l : List ℕ). low % 256 ∷ l) (bytes_join m n (low / 256) high (omega (arith, pow-suc 256 m))))

positive : (m : ℕ) → 0 < 256 ^ m
positive zero = omega arith
positive (suc m) = omega (arith, positive m, pow-suc 256 m)

length_bytes : (n x : ℕ) → length (bytes_of n x) ≡ n
length_bytes zero x = refl
length_bytes (suc n) x = ap suc (length_bytes n (x / 256))

pub sets_append : (l a b : List ℕ) (at : ℕ) → sets (sets l at a) (at + length a) b ≡ sets l at (a ++ b)
sets_append l [] b at = rw add-zero
sets_append l (x ∷ a) b at = rw (add-suc, ← suc-add at (length a)) (sets_append (set l at x) a b (suc at))

pub puts_two : (m n at x : ℕ) (l : List ℕ)
    → sets (sets l at (bytes_of m (x % 256 ^ m))) (at + m) (bytes_of n (x / 256 ^ m)) ≡ sets l at (bytes_of (m + n) x)
puts_two m n at x l =
    let low = x % 256 ^ m in
    let high = x / 256 ^ m in
    ap (λ (k : ℕ). sets (sets l at (bytes_of m low)) (at + k) (bytes_of n high)) (sym (length_bytes m low))
    ∙ sets_append l (bytes_of m low) (bytes_of n high) at
    ∙ ap (sets l at) (sym (bytes_join m n low high (mod-lt x (positive m))) ∙ ap (bytes_of (m + n)) (mod-add-div x (256 ^ m)))

-- ---- a number is what its bytes hold

-- the places of what is left of a list
pub number_drop : (n k at : ℕ) (s : List ℕ) → number_at n at (drop k s) ≡ number_at n (k + at) s
number_drop zero k at s = refl
number_drop (suc n) k at s = rw (get_or-drop k s at 0, number_drop n k (suc at) s, add-suc k at)

at_front_lem : (n x : ℕ) (rest : List ℕ) → x < 256 ^ n → number_at n 0 (bytes_of n x ++ rest) ≡ x
at_front_lem zero x rest h = omega arith
at_front_lem (suc n) x rest h =
    omega (arith, pow-suc 256 n, number_drop n 1 0 (bytes_of (suc n) x ++ rest), at_front_lem n (x / 256) rest (omega (arith, pow-suc 256 n)))

pub number_bytes : (n at x : ℕ) (s : List ℕ) → x < 256 ^ n → take n (drop at s) ≡ bytes_of n x → number_at n at s ≡ x
number_bytes n at x s h is =
    ap (λ (i : ℕ). number_at n i s) (sym (add-zero at))
    ∙ sym (number_drop n at 0 s)
    ∙ ap (number_at n 0) (sym (take-append-drop n (drop at s)))
    ∙ rw is (at_front_lem n x (drop n (drop at s)) h)

-- ---- and the bytes are those of the number, if they are bytes

module _ (s : List ℕ) (b : Bytes s) where
  pub number_below : (n at : ℕ) → number_at n at s < 256 ^ n
  number_below zero at = omega arith
  number_below (suc n) at = omega (arith, pow-suc 256 n, b at, number_below n (suc at))

  pub bytes_number : (n at : ℕ) → at + n ≤ length s → bytes_of n (number_at n at s) ++ drop (at + n) s ≡ drop at s
  bytes_number zero at h = rw add-zero
  bytes_number (suc n) at h =
      let first = get_or s at 0 in
      let more = number_at n (suc at) s in
      let below : first < 256 = b at in
      let low : (first + 256 * more) % 256 ≡ first = omega arith in
      let high : (first + 256 * more) / 256 ≡ more = omega arith in
      rw (low, high, add-suc at n, ← suc-add at n, drop-cons s at 0 (omega arith))
      (ap (λ (l : List ℕ). first ∷ l) (bytes_number n (suc at) (omega arith)))
