-- The laws of the histogram in its tables. What is torn stays torn with more buckets, by induction on their number; the sums keep `SoFar`, to
-- which each bucket that is not torn adds its own count; the report is made of the sums at two places. Assumes nothing.
use Prim.Native.Nat.{ℕ, zero, suc, ◌+◌, ◌-◌, ◌*◌, ◌≤◌, ◌<◌, min}
use mathlib.Core.Path.{◌≡◌, refl, subst, ◌∙◌}
use mathlib.Core.List.{List}
use mathlib.Core.Logic.{⊎_elim}
use mathlib.Core.Bool.{true, false, cond, ◌||◌}
use native.Mathlib.Nat.{eq-or-lt_of_le, le_of_suc-le-suc}
use native.Mathlib.Numerals.{add-one}
use native.Mathlib.Omega.{arith}
use lib.Dec.{ltb}
use lib.ListN.{length, take, drop, length-set}
use Rattle.std.proofs.Common.{Option, Some, Bor, Iter}
use Rattle.std.specs.declared.iter.Zip.{Zip}
use Rattle.std.specs.Iterator.{Yields}
use Rattle.std.specs.Iterator.Adapters.{zip_first, zip_second}
use Rattle.std.specs.Slice.Iter.{iter_rest}
use Rattle.std.proofs.iter.Yields.{fronts}
use Rattle.std.proofs.lemmas.Iterator.{zips}
use Rattle.std.proofs.lemmas.List.{get_or-take, get_or-drop, length-take}
use Rattle.std.proofs.lemmas.Slice.Zip.{zip_turn}
use borrow.Author.Tests.{ltb-true, le-ltb, lt-ltb, lt-leb}
use Rattle.rules.specs.Settings.{Histogram, needed, one_reference}
use Rattle.rules.specs.Reference.{rescaled, count_at, threshold_at, record_in}
use Rattle.rules.specs.Curve.{sum_to, raw_to, hits_at, total_of}
use Rattle.rules.specs.Answers.{refused, gives}
use Rattle.rules.specs.Order.{outcome}
use Rattle.rules.specs.Layout.{buckets_of}
use Rattle.rules.specs.Conditions.{torn_at, any_torn, torn_to, torn_report}
use Rattle.rules.proofs.Tests.{cases, or_left, or_right}
use Rattle.rules.proofs.Bounds.{sound, sound_rescaled}
use Rattle.buckets.specs.Buckets.{unrecordable, recorded_of, report_of, SoFar}

-- ---- a pass over the buckets from one place up to another

-- the turn's pair is the bucket behind those that were passed
pub record Here (g : Histogram) (place to count own : ℕ) : Type 0 where
  pub below : place < to
  pub count_is : count ≡ count_at place g
  pub own_is : own ≡ threshold_at place g

module _ (counts thresholds : List ℕ) (from to : ℕ) where
  abbrev passed : (l : List ℕ) → List ℕ
  passed l = take (to - from) (drop from l)

  pub turn : (pairs : List (Bor ℕ × Bor ℕ)) (s t u : Zip (Iter ℕ) (Iter ℕ)) (given : Option (Bor ℕ × Bor ℕ)) (pair : Bor ℕ × Bor ℕ)
      → iter_rest (zip_first s) ≡ passed counts → iter_rest (zip_second s) ≡ passed thresholds
      → Yields (zips fronts fronts) s pairs t → given ≡ Some pair → zips fronts fronts t given u
      → Here (buckets_of counts thresholds) (from + length pairs) to pair.0.now pair.1.now
  turn pairs s t u given pair first second yielded some goes =
      let h = zip_turn (passed counts) (passed thresholds) pairs s t u given first second yielded pair some goes in
      let low : length pairs < to - from = omega (arith, h.0, length-take (to - from) (drop from counts)) in
      record {
        below = omega arith;
        count_is = h.2 0 ∙ get_or-take _ _ _ _ low ∙ get_or-drop from counts (length pairs) 0;
        own_is = h.3 0 ∙ get_or-take _ _ _ _ low ∙ get_or-drop from thresholds (length pairs) 0;
      }

-- ---- torn buckets, and raw counts that are too many

module _ (references t : ℕ) (g : Histogram) where
  any_torn_lem : (n : ℕ) → any_torn references t n g ≡ true → torn_to references t n g ≡ true
  unfolding torn_to
  any_torn_lem n e = or_left (any_torn references t n g) _ e

  too_many : (n : ℕ) → one_reference * references < raw_to n g → torn_to references t n g ≡ true
  unfolding torn_to
  too_many n h = or_right (any_torn references t n g) _ (lt-ltb _ _ h)

  torn_step : (n : ℕ) → torn_to references t n g ≡ true → torn_to references t (suc n) g ≡ true
  unfolding torn_to any_torn raw_to
  torn_step n e = cases (any_torn references t n g)
      (λ a. any_torn_lem (suc n) (or_left (any_torn references t n g) _ a))
      (λ a. let h : one_reference * references < raw_to n g = ltb-true _ _ (rw a at e) in too_many (suc n) (omega arith))

  -- what is torn stays torn with more buckets
  pub torn_more : (i n : ℕ) → i ≤ n → torn_to references t i g ≡ true → torn_to references t n g ≡ true
  torn_more i zero h e = subst (λ j. torn_to references t j g ≡ true) (let q : i ≡ 0 = omega arith in q) e
  torn_more i (suc n) h e =
      ⊎_elim (λ (q : i ≡ suc n). subst (λ j. torn_to references t j g ≡ true) q e)
      (λ (l : i < suc n). torn_step n (torn_more i n (le_of_suc-le-suc l) e)) (eq-or-lt_of_le h)

  -- bucket i is torn, or the raw counts are too many with it
  pub torn_here : (i n : ℕ) → i < n → torn_at references t i g ≡ true → torn_to references t n g ≡ true
  unfolding any_torn
  torn_here i n h e = torn_more (suc i) n h (any_torn_lem (suc i) (or_right (any_torn references t i g) _ e))

  pub torn_over : (raw i n : ℕ) → i < n → raw ≡ raw_to i g → one_reference * references < raw + count_at i g → torn_to references t n g ≡ true
  unfolding raw_to
  torn_over raw i n h q e = torn_more (suc i) n h (too_many (suc i) (omega arith))

  -- ---- the sums

  pub so_far_none : SoFar references t 0 g 0 0
  unfolding any_torn raw_to sum_to
  so_far_none = record { whole = refl; raw_is = refl; sum_is = refl; raw_high = omega arith; sum_high = omega arith }

  pub so_far_more : (raw sum i : ℕ) → SoFar references t i g raw sum → torn_at references t i g ≡ false → raw + count_at i g ≤ one_reference * references
      → SoFar references t (i + 1) g (raw + count_at i g) (sum + rescaled t (count_at i g) (threshold_at i g))
  unfolding any_torn raw_to sum_to
  so_far_more raw sum i s e h = record {
    whole = rw (add-one, s.whole, e);
    raw_is = rw (add-one, s.raw_is);
    sum_is = rw (add-one, s.sum_is);
    raw_high = h;
    sum_high = omega (arith, s.sum_high, sound_rescaled (sound references t (count_at i g) (threshold_at i g) e));
  }

  -- ---- the report

  module _ (n point : ℕ) where
    pub report_short : ltb (length g.counts) n || ltb (length g.thresholds) n ≡ true → refused 2 ≡ report_of references t n point g
    unfolding report_of
    report_short e = rw e

  module _ (n point : ℕ) (long : ltb (length g.counts) n || ltb (length g.thresholds) n ≡ false) where
    pub report_torn : torn_to references t n g ≡ true → refused 3 ≡ report_of references t n point g
    unfolding report_of
    report_torn e = rw (long, e)

    pub report_whole : {middle raw hits all total : ℕ} → middle ≡ min point n → SoFar references t middle g raw hits
        → SoFar references t n g all total → gives (record { hits = hits; total = total }) ≡ report_of references t n point g
    unfolding report_of torn_to
    report_whole e m s =
        rw (
          long,
          s.whole,
          le-ltb (one_reference * references) (raw_to n g) (omega (arith, s.raw_is, s.raw_high)),
          ← e,
          ← m.sum_is,
          ← s.sum_is,
        )

-- ---- what a caller needs besides

-- the needed buckets, in tables that have them
module _ (references t buckets : ℕ) (g : Histogram) (h : needed buckets ≤ length g.counts) (k : needed buckets ≤ length g.thresholds) where
  -- a bucket that is needed is recorded in unless it is torn
  pub recorded_needed : (j : ℕ) → j < needed buckets
      → recorded_of references t j g
      ≡ cond (torn_at references t j g) (outcome (refused 3) g) (outcome (gives tt) (record_in t j g))
  unfolding recorded_of unrecordable
  recorded_needed j l =
      rw (lt-leb (length g.counts) j (omega arith), lt-leb (length g.thresholds) j (omega arith))
      (cases (torn_at references t j g) (λ e. rw e) (λ e. rw e))

  -- the report of a point is torn as the rules say, or gives its hits and the total
  pub report_needed : (point : ℕ) → point ≤ needed buckets
      → report_of references t (needed buckets) point g
      ≡ cond (torn_report references t buckets g) (refused 3) (gives (record { hits = hits_at t point g; total = total_of t buckets g }))
  unfolding report_of
  report_needed point l = rw (le-ltb _ _ h, le-ltb _ _ k, (let e : min point (needed buckets) ≡ point = omega arith in e))

-- no table becomes longer or shorter
pub recorded_lengths : (references t j : ℕ) (g : Histogram)
    → (length (recorded_of references t j g).left.counts ≡ length g.counts)
    × (length (recorded_of references t j g).left.thresholds ≡ length g.thresholds)
unfolding recorded_of
recorded_lengths references t j g = cases (unrecordable references t j g) (λ e. rw e (refl, refl)) (λ e. rw e (simp length-set, simp length-set))
