-- Text in a buffer: what is put behind what was put, at the front of it, and a number's digits. Texts put one behind another add up
-- (`adds_then`); that a number's digits are its decimal goes by induction on how many there are. Assumes nothing.
use Prim.Native.Nat.{ℕ, zero, suc, ◌+◌, ◌-◌, ◌/◌, ◌%◌, ◌^◌, ◌≤◌, ◌<◌}
use mathlib.Core.Path.{◌≡◌, refl, sym, ap, ◌∙◌}
use mathlib.Core.List.{List, [], ◌∷◌, ◌++◌, append_assoc, append-nil}
use native.Mathlib.Nat.{not-suc-le-zero, add-zero, pow-suc, pow-le-pow_right}
use native.Mathlib.Omega.{arith}
use native.Mathlib.Numerals.{add-one}
use lib.Dec.{leb}
use lib.ListN.{length, take, drop, take-append-drop, length-append}
use lib.Seq.{drop-drop}
use borrow.Rule.Slice.PartMut.{put_mid, same_len_mid}
use Rattle.std.proofs.lemmas.List.{length-take, length-drop}
use Rattle.std.proofs.lemmas.Slice.{take-put_mid, drop-put_mid}
use borrow.Author.Tests.{lt-ltb, le-ltb, leb-true, leb-false}
use Rattle.rules.specs.declared.Record.{Record}
use Rattle.rules.specs.Lists.{over}
use Rattle.rules.specs.Settings.{Histogram}
use Rattle.rules.specs.Calls.{point_on}
use Rattle.rules.proofs.Tests.{cases}
use Rattle.io.specs.Digits.{last_digits, IsDigitCount}
use Rattle.text.specs.declared.Page.{Page}
use Rattle.text.specs.Text.{decimal_most, decimal, point_line, lines_to, Adds, Puts}

-- ---- one text behind another

pub adds_then : {a b c t u : List ℕ} {i j k : ℕ} → Adds a i t b j → Adds b j u c k → Adds a i (t ++ u) c k
adds_then {a} {b} {c} {t} {u} {i} {j} {k} p q =
    let more : j + length u ≡ k = sym q.ends in
    record {
      front = q.front ∙ ap (λ l. l ++ u) p.front ∙ append_assoc (take i a) t u;
      behind = q.behind ∙ (rw (drop-drop (length u) j b, drop-drop (length u) j a, more) at (ap (drop (length u)) p.behind));
      ends = omega (arith, p.ends, q.ends, length-append t u);
      fits = q.fits;
    }

pub puts_then : {a b c : Page} {t u : List ℕ} → Puts a t b → Puts b u c → Puts a (t ++ u) c
puts_then p q = record {
  same_buffer = q.same_buffer ∙ p.same_buffer;
  same_length = q.same_length ∙ p.same_length;
  adds = adds_then p.adds q.adds;
}

-- the buffer is left as the page holds it
pub left_so : {before text now final : List ℕ} {at end : ℕ} → Adds before at text now end → final ≡ now → Adds before at text final end
left_so a e = rw e a

-- a text put over the bytes behind the first `at`
module _ (out text : List ℕ) (at : ℕ) (h : at + length text ≤ length out) where
  pub put_length : length (put_mid at (at + length text - at) out text) ≡ length out
  put_length =
      same_len_mid at (at + length text - at) out text (omega (arith, length-take (at + length text - at) (drop at out), length-drop at out))

  pub adds_put : Adds out at text (put_mid at (at + length text - at) out text) (at + length text)
  adds_put = record {
    front = take-put_mid at (at + length text - at) out text (at + length text) refl (omega arith);
    behind = drop-put_mid at (at + length text - at) out text (at + length text) (omega arith) (omega arith) (omega arith);
    ends = refl;
    fits = rw put_length h;
  }

-- the lines of no points, and of one point more
pub lines_none : (page : Page) (kept : Record) (g : Histogram) → page.filled ≤ length page.out.now → Puts page (lines_to 0 kept g) page
unfolding lines_to
lines_none page kept g h = record {
  same_buffer = refl;
  same_length = refl;
  adds = record { front = sym (append-nil (take page.filled page.out.now)); behind = refl; ends = sym (add-zero page.filled); fits = h };
}

pub lines_more : {a b c : Page} (n : ℕ) (kept : Record) (g : Histogram)
    → Puts a (lines_to n kept g) b → Puts b (point_line (point_on kept n g)) c → Puts a (lines_to (n + 1) kept g) c
unfolding lines_to
lines_more n kept g p q = rw (add-one n) (puts_then p q)

-- a text behind nothing stands over the front
pub over_all : {before text after : List ℕ} {n : ℕ} → Adds before 0 text after n → after ≡ over text before
over_all {before} {text} {after} {n} a =
    let count : n ≡ length text = omega (arith, a.ends) in
    sym (take-append-drop n after) ∙ ap (λ l. l ++ drop n after) a.front ∙ ap (λ l. text ++ l) (a.behind ∙ ap (λ m. drop m before) count)

-- ---- numbers

some : (k : ℕ) → 0 < 10 ^ k
some zero = omega arith
some (suc k) = omega (arith, pow-suc 10 k, some k)

spelled : (m k n : ℕ) → IsDigitCount 10 1 n k → k ≤ m → last_digits 10 k n ≡ decimal_most m n
spelled m zero n f h = absurd (not-suc-le-zero f.0)
spelled zero (suc k) n f h = absurd (not-suc-le-zero h)
spelled (suc m) (suc zero) n f h =
    let low : n < 10 = f.1 in
    let same : n % 10 ≡ n = omega arith in
    rw (lt-ltb n 10 low, same, lt-ltb n 10 low)
spelled (suc m) (suc (suc k)) n f h =
    let two : suc (suc k) - 1 ≡ suc k = omega arith in
    let one : suc k - 1 ≡ k = omega arith in
    let high : 10 ^ suc k ≤ n = rw two at (f.2 (omega arith)) in
    let last : n % 10 < 10 = omega arith in
    rw (le-ltb n 10 (omega (arith, pow-suc 10 k, some k)), lt-ltb (n % 10) 10 last)
    (ap (λ l. l ++ ((48 + n % 10) ∷ []))
    (spelled m (suc k) (n / 10) (omega arith, omega (arith, pow-suc 10 (suc k)), λ z. rw one (omega (arith, pow-suc 10 k))) (omega arith)))

-- 64 bits have at most 20 digits
few : (k n : ℕ) → n < 2 ^ 64 → IsDigitCount 10 1 n k → k ≤ 20
few k n h f = cases (leb k 20) (leb-true k 20) (λ e. absurd (
    let more : 20 < k = leb-false k 20 e in
    let high : 10 ^ (k - 1) ≤ n = f.2 (omega arith) in
    let huge : 10 ^ 20 ≤ 10 ^ (k - 1) = pow-le-pow_right {n = 10} (omega arith) {i = 20} {j = k - 1} (omega arith) in
    omega arith))

pub record Spelled (k n : ℕ) : Type 0 where
  pub are : last_digits 10 k n ≡ decimal n
  pub few : k ≤ 20

pub decimal_spelled : (k n : ℕ) → n < 2 ^ 64 → IsDigitCount 10 1 n k → Spelled k n
unfolding decimal
decimal_spelled k n h f = record { are = spelled 20 k n f (few k n h f); few = few k n h f }
