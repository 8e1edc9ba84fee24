-- A list written over the front of a table, by induction on the two lists, the lent tables one by one, and the tail of lent bytes.
-- Assumes nothing.
use Prim.Native.Nat.{ℕ, zero, suc, ◌+◌, ◌-◌, ◌≤◌, ◌<◌, min}
use mathlib.Core.Path.{◌≡◌, refl, sym, ap, subst, ◌∙◌}
use mathlib.Core.Logic.{⊎_elim}
use mathlib.Core.List.{List, [], ◌∷◌, ◌++◌}
use native.Mathlib.Nat.{not-suc-le-zero, le_of_suc-le-suc, eq-or-lt_of_le}
use native.Mathlib.Omega.{arith}
use lib.ListN.{length, get_or, take, drop, set, replicate, length-append, length-drop}
use lib.ListN.{length-set, length-replicate, replicate-append-replicate, take-append-drop}
use lib.Seq.{take_all, length-take-le, take_at, drop-append-add, drop-drop}
use denote.Ref.{Bor}
use Rattle.rules.specs.Lists.{over}
use Rattle.rules.specs.Settings.{Tables}
use Rattle.rules.specs.Layout.{part, tail_of}

pub over_at : (new old : List ℕ) (i : ℕ) → length new ≤ i → i < length old → get_or (over new old) i 0 ≡ get_or old i 0
over_at [] old i h k = refl
over_at (x ∷ new) [] i h k = absurd (not-suc-le-zero k)
over_at (x ∷ new) (y ∷ old) zero h k = absurd (not-suc-le-zero h)
over_at (x ∷ new) (y ∷ old) (suc i) h k = over_at new old i (le_of_suc-le-suc h) (le_of_suc-le-suc k)

pub over_set : (new old : List ℕ) (v : ℕ) → length new < length old → set (over new old) (length new) v ≡ over (new ++ (v ∷ [])) old
over_set new [] v h = absurd (not-suc-le-zero h)
over_set [] (y ∷ old) v h = refl
over_set (x ∷ new) (y ∷ old) v h = ap (λ (l : List ℕ). x ∷ l) (over_set new old v (le_of_suc-le-suc h))

pub over_length : (new old : List ℕ) → length new ≤ length old → length (over new old) ≡ length old
over_length new old h = rw (length-append, length-drop) (omega arith)

-- what stands at the front again
pub over_front : (new old : List ℕ) → take (length new) (over new old) ≡ new
over_front new old = take_at new (drop (length new) old) (length new) refl

-- what stands behind it is as it was
pub over_behind : (new old : List ℕ) (n : ℕ) → length new ≤ n → drop n (over new old) ≡ drop n old
over_behind new old n h =
    let k = n - length new in
    let sum : length new + k ≡ n = omega arith in
    subst (λ m. drop m (over new old) ≡ drop m old) sum (drop-append-add new (drop (length new) old) k ∙ drop-drop k (length new) old)

-- what stands at the front already
pub over_same : (n : ℕ) (old : List ℕ) → n ≤ length old → over (take n old) old ≡ old
over_same n old h = rw (length-take-le n old h) (take-append-drop n old)

-- over what was written over the front and is no longer
pub over_over : (new mid old : List ℕ) → length mid ≤ length new → length new ≤ length old → over new (over mid old) ≡ over new old
over_over new mid old h k = ap (λ (l : List ℕ). new ++ l) (rest new mid old h k)
  where
    rest : (new mid old : List ℕ) → length mid ≤ length new → length new ≤ length old
        → drop (length new) (mid ++ drop (length mid) old) ≡ drop (length new) old
    rest new [] old h k = refl
    rest [] (m ∷ mid) old h k = absurd (not-suc-le-zero h)
    rest (x ∷ new) (m ∷ mid) [] h k = absurd (not-suc-le-zero k)
    rest (x ∷ new) (m ∷ mid) (y ∷ old) h k = rest new mid old (le_of_suc-le-suc h) (le_of_suc-le-suc k)

-- the first i are all of the first n
pub takes : (xs : List ℕ) (i n : ℕ) → i ≤ n → i ≤ length xs → min n (length xs) ≤ i → take i xs ≡ take n xs
takes xs i n k l m =
    ⊎_elim (λ (e : i ≡ n). ap (λ (j : ℕ). take j xs) e) (λ (e : i < n). take_all i xs (omega arith) ∙ sym (take_all n xs (omega arith)))
    (eq-or-lt_of_le k)

-- one more of the same, over the front of a table
pub record Filled (v : ℕ) (xs now : List ℕ) (i : ℕ) : Type 0 where
  pub is : now ≡ over (replicate i v) xs
  pub same : length now ≡ length xs

pub fill_none : (v : ℕ) (xs : List ℕ) → Filled v xs xs 0
fill_none v xs = record { is = refl; same = refl }

pub fill_more : (v : ℕ) (xs now : List ℕ) (i : ℕ) → i < length xs → Filled v xs now i → Filled v xs (set now i v) (i + 1)
fill_more v xs now i h f = record {
  is = rw f.is (ap (λ (j : ℕ). set (over (replicate i v) xs) j v) (sym (length-replicate i v))
      ∙ over_set (replicate i v) xs v (rw length-replicate h)
      ∙ ap (λ (l : List ℕ). over l xs) (replicate-append-replicate i 1 v));
  same = length-set now i v ∙ f.same;
}

-- the same tables are the same one by one
pub each_same : {t u : Tables} → t ≡ u
    → (t.locations ≡ u.locations) × (t.histogram.counts ≡ u.histogram.counts) × (t.histogram.thresholds ≡ u.histogram.thresholds)
each_same e = (ap (λ z. z.locations) e, ap (λ z. z.histogram.counts) e, ap (λ z. z.histogram.thresholds) e)

-- a part from a place on, as the machine takes it, has all that follows the place
pub from_place_lem : (s : List ℕ) (at : ℕ) → take (length s - at) (drop at s) ≡ drop at s
from_place_lem s at = take_all (length s - at) (drop at s) (simp length-drop (omega arith))

-- the part of lent bytes from a place on, as the machine takes it
abbrev pub from_place : Bor (List ℕ) → (at : ℕ) → Bor (List ℕ)
from_place r at = record { ref_ptr = (r.ref_ptr.0, at + r.ref_ptr.1); now = take (length r.now - at) (drop at r.now) }

-- it is the tail that follows the place
pub tail_from : (r : Bor (List ℕ)) (at : ℕ) → at ≤ length r.now → part (from_place r at) ≡ tail_of r (drop at r.now)
tail_from r at h =
    let all = from_place_lem r.now at in
    let ending : (part (from_place r at)).ending ≡ (part r).ending = rw (all, length-drop) (omega arith) in
    λ i. record { block = r.ref_ptr.0; ending = ending i; bytes = all i }

-- a part tells where it begins, too
pub part_injective : (r s : Bor (List ℕ)) → part r ≡ part s → (r.ref_ptr ≡ s.ref_ptr) × (r.now ≡ s.now)
part_injective r s e =
    let bytes = ap (λ z. z.bytes) e in
    let begin : r.ref_ptr.1 ≡ s.ref_ptr.1 = omega (arith, ap (λ z. z.ending) e, ap length bytes) in
    ((λ i. ((e i).block, begin i)), bytes)
