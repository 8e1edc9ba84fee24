-- The laws of a list of locations. The loop of `keep_below` has a record that it keeps (`Keeping`), with a law for how it begins, for each turn
-- and for its end; a lowering is put together from the laws of the others. Assumes nothing.
use Prim.Native.Nat.{ℕ, zero, suc, ◌+◌, ◌-◌, ◌≤◌, ◌<◌, min, max}
use mathlib.Core.Path.{◌≡◌, refl, ap, ◌∙◌}
use mathlib.Core.Bool.{Bool, true, false, cond}
use mathlib.Core.List.{List, [], ◌∷◌, ◌++◌, append-nil, append_assoc}
use Rattle.std.specs.Prelude.{Some, None}
use native.Mathlib.Nat.{not-suc-le-zero, le_of_suc-le-suc}
use native.Mathlib.Numerals.{add-one}
use native.Mathlib.Omega.{arith}
use lib.Dec.{eqb, ltb}
use lib.ListN.{length, get_or, take, drop, set, length-set, length-append, length-take, drop_of_length-le, take-append-drop}
use lib.Seq.{drop-cons, take-suc, take_all}
use borrow.Author.Tests.{eq-eqb, ne_eqb, lt-ltb, le-ltb, ltb-true}
use borrow.Rule.Slice.PartMut.{put_mid}
use Rattle.std.specs.List.{copy_within}
use Rattle.rules.specs.Lists.{keep, over}
use Rattle.rules.specs.Reference.{first_from, first_place, to_front, under, largest, keep_below, lowered}
use Rattle.rules.proofs.Tests.{cases}
use Rattle.rules.proofs.Lists.{keep_append, keep_length}
use Rattle.rules.proofs.Tables.{over_at, over_set, over_length, over_front, over_over}
use Rattle.rules.proofs.Places.{found_lt, front_length, front_over, front_new}
use Rattle.live.specs.Live.{moved_to_front, remaining, remaining_of, lowering, staying, lowering_of}

-- ---- the search, at the place i

module _ (x : ℕ) (xs : List ℕ) (i : ℕ) where
  opened : i < length xs → first_from i x (drop i xs) ≡ cond (eqb (get_or xs i 0) x) (Some i) (first_from (suc i) x (drop (suc i) xs))
  unfolding first_from
  opened h = rw (drop-cons xs i 0 h)

  pub search_hit : i < length xs → get_or xs i 0 ≡ x → first_from i x (drop i xs) ≡ Some i
  search_hit h e = rw (opened h, eq-eqb _ _ e)

  pub search_miss : i < length xs → (get_or xs i 0 ≡ x → ⊥) → first_from i x (drop i xs) ≡ first_from (i + 1) x (drop (i + 1) xs)
  search_miss h e = rw (opened h, ne_eqb _ _ e, add-one)

  pub search_end : length xs ≤ i → first_from i x (drop i xs) ≡ None
  unfolding first_from
  search_end h = rw (drop_of_length-le xs h)

-- ---- the move to the front

-- the first d copied one place on, and x in front
pub moved_some : (d x : ℕ) (xs : List ℕ) → d < length xs → set (copy_within xs 0 d 1) 0 x ≡ moved_to_front d x xs
unfolding moved_to_front
moved_some d x [] h = absurd (not-suc-le-zero h)
moved_some d x (y ∷ xs) h = let e : d - 0 ≡ d = omega arith in let f : 1 + d ≡ suc d = omega arith in rw (lt-ltb _ _ h, e, f) refl

-- (then nothing filled: so the deliberate bug that fills the list with one entry is refused for those it fills)
pub moved_unfilled : (d x : ℕ) (xs ys : List ℕ) → d < length xs → length ys ≡ d - d
    → set (put_mid d (d - d) (copy_within xs 0 d 1) ys) 0 x ≡ moved_to_front d x xs
moved_unfilled d x xs [] h e =
    let none : d - d ≡ 0 = omega arith in
    let same : put_mid d 0 (copy_within xs 0 d 1) [] ≡ copy_within xs 0 d 1 = take-append-drop d (copy_within xs 0 d 1) in
    rw (none, same) (moved_some d x xs h)
moved_unfilled d x xs (y ∷ ys) h e = absurd (omega arith)

pub moved_none : (d x : ℕ) (xs : List ℕ) → length xs ≤ d → xs ≡ moved_to_front d x xs
unfolding moved_to_front
moved_none d x xs h = rw (le-ltb _ _ h)

-- ---- the largest hash

largest_append : (hash : ℕ → ℕ) (xs ys : List ℕ) → largest hash (xs ++ ys) ≡ max (largest hash xs) (largest hash ys)
unfolding largest
largest_append hash [] ys = omega arith
largest_append hash (x ∷ xs) ys = rw (largest_append hash xs ys) (omega arith)

pub largest_more : (hash : ℕ → ℕ) (xs : List ℕ) (i : ℕ) → i < length xs
    → largest hash (take (i + 1) xs) ≡ max (largest hash (take i xs)) (hash (get_or xs i 0))
unfolding largest
largest_more hash xs i h = rw (add-one, take-suc xs i 0 h, largest_append) (omega arith)

-- ---- the entries that stay: of the first i those that pass a test stand over the front

pub record Keeping (p : ℕ → Bool) (xs now : List ℕ) (number i : ℕ) : Type 0 where
  pub reach : i ≤ length xs
  pub less : number ≤ i
  pub count : number ≡ length (keep p (take i xs))
  pub is : now ≡ over (keep p (take i xs)) xs
  pub same : length now ≡ length xs

pub keep_none : (p : ℕ → Bool) (xs : List ℕ) → Keeping p xs xs 0 0
keep_none p xs = record { reach = omega arith; less = omega arith; count = refl; is = refl; same = refl }

module _ (p : ℕ → Bool) (xs now : List ℕ) (number i : ℕ) (k : Keeping p xs now number i) (l : i < length xs) where
  here : get_or now i 0 ≡ get_or xs i 0
  here = rw k.is (over_at (keep p (take i xs)) xs i (omega arith) l)

  more : keep p (take (i + 1) xs) ≡ keep p (take i xs) ++ keep p (get_or xs i 0 ∷ [])
  more = rw (add-one, take-suc xs i 0 l, keep_append)

  pub keep_in : p (get_or now i 0) ≡ true → Keeping p xs (set now number (get_or now i 0)) (number + 1) (i + 1)
  keep_in b =
      let b' : p (get_or xs i 0) ≡ true = rw here at b in
      let e : keep p (take (i + 1) xs) ≡ keep p (take i xs) ++ (get_or xs i 0 ∷ []) = more ∙ rw b' in
      record {
        reach = omega arith;
        less = omega arith;
        count = rw (e, length-append, k.count);
        is = rw (e, here, k.is, k.count) (over_set (keep p (take i xs)) xs (get_or xs i 0) (omega arith));
        same = length-set now number (get_or now i 0) ∙ k.same;
      }

  pub keep_out : p (get_or now i 0) ≡ false → Keeping p xs now number (i + 1)
  keep_out b =
      let b' : p (get_or xs i 0) ≡ false = rw here at b in
      let e : keep p (take (i + 1) xs) ≡ keep p (take i xs) = more ∙ rw b' (append-nil (keep p (take i xs))) in
      record { reach = omega arith; less = omega arith; count = rw e k.count; is = rw e k.is; same = k.same }

pub keep_end : (p : ℕ → Bool) (xs now : List ℕ) (number i : ℕ) → Keeping p xs now number i → i ≡ length xs
    → remaining number now ≡ remaining (length (keep p xs)) (over (keep p xs) xs)
keep_end p xs now number i k m =
    rw (k.count, k.is) (ap (λ (l : List ℕ). remaining (length (keep p l)) (over (keep p l) xs)) (take_all i xs (omega arith)))

-- ---- a lowering

-- at or above the threshold, which the largest hash reaches, one at least stands, and leaves
keep_lt : (hash : ℕ → ℕ) (t : ℕ) (l : List ℕ) → 0 < t → t ≤ largest hash l → length (keep_below hash t l) < length l
unfolding largest
keep_lt hash t [] p k = omega arith
keep_lt hash t (x ∷ l) p k = cases (under hash t x)
    (λ e. let b : hash x < t = ltb-true _ _ e in rw e (omega (arith, keep_lt hash t l p (omega arith))))
    (λ e. rw e (omega (arith, keep_length (under hash t) l)))

module _ (hash : ℕ → ℕ) (t x : ℕ) (l : List ℕ) where
  -- where a new location stays, one of the others leaves
  pub leaves : hash x < lowered hash t (x ∷ l) → length (keep_below hash (lowered hash t (x ∷ l)) l) < length l
  unfolding largest
  leaves k = keep_lt hash (lowered hash t (x ∷ l)) l (omega arith) (omega arith)

  -- so a lowered list is no longer than the others were
  pub lowered_length : length (keep_below hash (lowered hash t (x ∷ l)) (x ∷ l)) ≤ length l
  lowered_length = cases (under hash (lowered hash t (x ∷ l)) x)
      (λ e. rw e (leaves (ltb-true _ _ e)))
      (λ e. rw e (keep_length (under hash (lowered hash t (x ∷ l))) l))

-- a new location in front of the first n of a table, and of those that stay
pub moved_new : (x n : ℕ) (xs : List ℕ) → n < length xs → moved_to_front n x xs ≡ over (x ∷ take n xs) xs
unfolding moved_to_front
moved_new x n xs h = rw (lt-ltb _ _ h) (front_new x n xs h)

moved_kept : (x : ℕ) (new xs : List ℕ) → length new < length xs → moved_to_front (length new) x (over new xs) ≡ over (x ∷ new) xs
moved_kept x new xs h =
    moved_new x (length new) (over new xs) (rw (over_length new xs (omega arith)) h)
    ∙ ap (λ (l : List ℕ). over (x ∷ l) (over new xs)) (over_front new xs)
    ∙ over_over (x ∷ new) new xs (omega arith) h

-- the new location's hash is its own, and the threshold has fallen
pub record Fallen (hash : ℕ → ℕ) (t x : ℕ) (xs : List ℕ) (own fallen : ℕ) : Type 0 where
  pub own_is : own ≡ hash x
  pub fallen_is : fallen ≡ lowered hash t (x ∷ xs)

pub falls : (hash : ℕ → ℕ) (t x : ℕ) (xs : List ℕ) {own others most fallen : ℕ} → own ≡ hash x → others ≡ largest hash xs
    → most ≡ max own others → fallen ≡ min t most → Fallen hash t x xs own fallen
unfolding largest
falls hash t x xs p q r s = record { own_is = p; fallen_is = rw (← p, ← q, ← r) s }

-- and of the list, those below it stay
module _ (hash : ℕ → ℕ) (t x : ℕ) (xs mid : List ℕ) (own fallen number : ℕ) (f : Fallen hash t x xs own fallen)
    (k : remaining number mid ≡ remaining_of hash fallen xs) where
  pub room : own < fallen → number < length xs
  room h =
      let l : hash x < lowered hash t (x ∷ xs) = rw (← f.own_is, ← f.fallen_is) h in
      let m : length (keep_below hash fallen xs) < length xs = rw f.fallen_is (leaves hash t x xs l) in
      omega (arith, ap (λ r. r.number) k)

  -- the new location stays, in front of the others that stay, or leaves
  pub stays : own < fallen → lowering (record { threshold = fallen; live = number + 1 }) (moved_to_front number x mid) ≡ lowering_of hash t x xs
  stays h =
      let q : number ≡ length (keep_below hash fallen xs) = ap (λ r. r.number) k in
      let l : hash x < lowered hash t (x ∷ xs) = rw (← f.own_is, ← f.fallen_is) h in
      rw (
        ap (λ r. r.table) k,
        q,
        f.fallen_is,
        lt-ltb _ _ l,
        moved_kept x (keep_below hash (lowered hash t (x ∷ xs)) xs) xs (rw (← f.fallen_is, ← q) (room h)),
        add-one,
      )

  pub goes : fallen ≤ own → lowering (record { threshold = fallen; live = number }) mid ≡ lowering_of hash t x xs
  goes h =
      let l : lowered hash t (x ∷ xs) ≤ hash x = rw (← f.own_is, ← f.fallen_is) h in
      rw (ap (λ r. r.number) k, ap (λ r. r.table) k, f.fallen_is, le-ltb _ _ l)

-- ---- what a caller needs besides

-- a place that was found is one of the first n
pub found_below : (x n : ℕ) (xs : List ℕ) (d : ℕ) → first_place x (take n xs) ≡ Some d → (d < n) × (d < length xs)
found_below x n xs d e = let h : d < length (take n xs) = found_lt x (take n xs) d e in
    (omega (arith, length-take n xs), omega (arith, length-take n xs))

-- a move to the front within the first n
pub moved_over : (x d n : ℕ) (xs : List ℕ) → d < n → n ≤ length xs → moved_to_front d x xs ≡ over (to_front d x (take n xs)) xs
unfolding moved_to_front
moved_over x d n xs h k = rw (lt-ltb d (length xs) (omega arith)) (front_over x d n xs h k)

-- no table becomes longer or shorter, and after a lowering there are no more locations than before
pub moved_length : (d x : ℕ) (xs : List ℕ) → length (moved_to_front d x xs) ≡ length xs
unfolding moved_to_front
moved_length d x xs = cases (ltb d (length xs)) (λ e. rw e (front_length d x xs (ltb-true _ _ e))) (λ e. rw e)

pub kept_length : (hash : ℕ → ℕ) (t : ℕ) (xs : List ℕ) → length (remaining_of hash t xs).table ≡ length xs
kept_length hash t xs = over_length (keep_below hash t xs) xs (keep_length (under hash t) xs)

pub lowering_live : (hash : ℕ → ℕ) (t x : ℕ) (xs : List ℕ) → (lowering_of hash t x xs).result.live ≤ length xs
lowering_live hash t x xs = lowered_length hash t x xs

pub lowering_length : (hash : ℕ → ℕ) (t x : ℕ) (xs : List ℕ) → length (lowering_of hash t x xs).table ≡ length xs
lowering_length hash t x xs = over_length (keep_below hash (lowered hash t (x ∷ xs)) (x ∷ xs)) xs (lowering_live hash t x xs)

-- ---- where a list is the first n of a table, or all of it if the table is shorter, what is done to the list is done over the front of the table

over_part : (new xs : List ℕ) (n : ℕ) → length new ≤ n → over new (take n xs) ++ drop n xs ≡ over new xs
over_part new xs n h = append_assoc new (drop (length new) (take n xs)) (drop n xs) ∙ ap (λ (l : List ℕ). new ++ l) (rest new xs n h)
  where
    rest : (new xs : List ℕ) (n : ℕ) → length new ≤ n → drop (length new) (take n xs) ++ drop n xs ≡ drop (length new) xs
    rest [] xs n h = take-append-drop n xs
    rest (y ∷ new) xs zero h = absurd (not-suc-le-zero h)
    rest (y ∷ new) [] (suc n) h = refl
    rest (y ∷ new) (x ∷ xs) (suc n) h = rest new xs n (le_of_suc-le-suc h)

pub kept_part : (hash : ℕ → ℕ) (t n : ℕ) (xs : List ℕ)
    → remaining (remaining_of hash t (take n xs)).number ((remaining_of hash t (take n xs)).table ++ drop n xs)
    ≡ remaining (length (keep_below hash t (take n xs))) (over (keep_below hash t (take n xs)) xs)
kept_part hash t n xs = ap (remaining _)
    (over_part (keep_below hash t (take n xs)) xs n (omega (arith, keep_length (under hash t) (take n xs), length-take n xs)))

pub lowered_part : (hash : ℕ → ℕ) (t n x : ℕ) (xs : List ℕ)
    → lowering (lowering_of hash t x (take n xs)).result ((lowering_of hash t x (take n xs)).table ++ drop n xs)
    ≡ staying hash (lowered hash t (x ∷ take n xs)) (x ∷ take n xs) xs
lowered_part hash t n x xs = ap (lowering _)
    (over_part (keep_below hash (lowered hash t (x ∷ take n xs)) (x ∷ take n xs)) xs n
    (omega (arith, lowering_live hash t x (take n xs), length-take n xs)))
