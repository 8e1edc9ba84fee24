-- Demand 3 over one reference: threshold, list and answer stay the history's. By the cases of a reference: skipped, again, first. Where a first
-- one overfills the list, the threshold falls to the largest hash in it: at least one entry leaves, and under any higher threshold all would
-- stay. Assumes nothing.
use Prim.Native.Nat.{ℕ, suc, ◌≤◌, ◌<◌}
use mathlib.Core.Path.{◌≡◌, refl, sym, ap, subst, ◌∙◌}
use mathlib.Core.Bool.{true, false}
use mathlib.Core.List.{List, [], ◌∷◌}
use Rattle.std.specs.Prelude.{Some, None}
use native.Mathlib.Omega.{arith}
use lib.ListN.{length}
use lib.Dec.{ltb}
use borrow.Author.Tests.{ltb-true, ltb-false, lt-ltb, le-ltb}
use Rattle.rules.specs.Lists.{keep, has, upto, erase, without}
use Rattle.rules.specs.Settings.{Histogram}
use Rattle.rules.specs.Reference.{Sample, Profile, first_place, under, largest, keep_below, lowered, record_in, bucket_for, within_limit, sampled_step, step}
use Rattle.rules.specs.declared.Reply.TheVariants.{Skipped, First, Again}
use Rattle.rules.specs.History.{recency, different, distance, Largest}
use Rattle.rules.proofs.Tests.{cases}
use Rattle.rules.proofs.Lists.{keep_keep, keep_length, keep_narrow, without_out, has_keep}
use Rattle.rules.proofs.Lists.{Once, once_keep, erase_without, length_erase, upto_keep}
use Rattle.rules.proofs.Places.{place_in, place_out, front_erase}
use Rattle.rules.proofs.History.{recency_once, has_recency, upto_recency, recent_in, recent_out, different_grows}

-- ---- the cases of one reference

module _ (hash : ℕ → ℕ) (limit : ℕ) (f : Profile) (x : ℕ) (s : Sample) where
  pub step_skipped : under hash s.threshold x ≡ false → step hash limit f x s ≡ record { reply = Skipped; left = s }
  unfolding step
  step_skipped e = rw e

  module _ (e : under hash s.threshold x ≡ true) where
    pub step_sampled : step hash limit f x s ≡ sampled_step hash limit f x s (first_place x s.live)
    unfolding step
    step_sampled = rw e

    pub step_again : has x s.live ≡ true → step hash limit f x s ≡ record {
      reply = Again (length (upto x s.live));
      left = record {
        threshold = s.threshold;
        live = x ∷ erase x s.live;
        histogram = record_in s.threshold (bucket_for f s.threshold (Some (length (upto x s.live)))) s.histogram;
      };
    }
    unfolding sampled_step
    step_again m = step_sampled ∙ rw (place_in x s.live m, front_erase x s.live m)

    pub step_first : has x s.live ≡ false → step hash limit f x s ≡ record {
      reply = First;
      left = within_limit hash limit s.threshold (x ∷ s.live) (record_in s.threshold (bucket_for f s.threshold None) s.histogram);
    }
    unfolding sampled_step
    step_first m = step_sampled ∙ rw (place_out x s.live m)

-- a lowering changes no bucket
pub within_limit_histogram : (hash : ℕ → ℕ) (limit t : ℕ) (l : List ℕ) (g : Histogram) → (within_limit hash limit t l g).histogram ≡ g
unfolding within_limit
within_limit_histogram hash limit t l g = cases (ltb limit (length l)) (λ o. rw o) (λ o. rw o)

-- ---- a lowering

-- the largest hash: all hash below what is above it
pub largest_keep : (hash : ℕ → ℕ) (u : ℕ) (l : List ℕ) → largest hash l < u → keep_below hash u l ≡ l
unfolding largest
largest_keep hash u [] b = refl
largest_keep hash u (y ∷ l) b = rw (lt-ltb (hash y) u (omega arith)) (ap (λ r. y ∷ r) (largest_keep hash u l (omega arith)))

pub largest_below : (hash : ℕ → ℕ) (t : ℕ) (l : List ℕ) → 0 < t → largest hash (keep_below hash t l) < t
unfolding largest
largest_below hash t [] b = b
largest_below hash t (y ∷ l) b = cases (ltb (hash y) t)
    (λ e. rw e (omega (arith, ltb-true (hash y) t e, largest_below hash t l b)))
    (λ e. rw e (largest_below hash t l b))

-- at least one leaves
pub largest_leaves : (hash : ℕ → ℕ) (m : ℕ) (l : List ℕ) → 0 < length l → m ≤ largest hash l → length (keep_below hash m l) < length l
unfolding largest
largest_leaves hash m [] n b = n
largest_leaves hash m (y ∷ []) n b = rw (le-ltb (hash y) m (omega arith)) (omega arith)
largest_leaves hash m (y ∷ z ∷ l) n b = cases (ltb (hash y) m)
    (λ e. rw e (omega (arith, largest_leaves hash m (z ∷ l) (omega arith) (omega (arith, ltb-true (hash y) m e)))))
    (λ e. rw e (omega (arith, keep_length (under hash m) (z ∷ l))))

-- over any list r: what is below t gives way to what is below the lesser of t and its largest hash
module _ (hash : ℕ → ℕ) (limit t : ℕ) (r : List ℕ) where
  low : ℕ
  low = lowered hash t (keep_below hash t r)

  low_list : keep_below hash low (keep_below hash t r) ≡ keep_below hash low r
  unfolding low
  low_list = keep_narrow (under hash low) (under hash t) (λ y e. lt-ltb (hash y) t (omega (arith, ltb-true (hash y) low e))) r

  low_holds : 0 < length (keep_below hash t r) → length (keep_below hash t r) ≤ suc limit → length (keep_below hash low r) ≤ limit
  low_holds n b = rw (← low_list) (omega (arith, largest_leaves hash low (keep_below hash t r) n (unfold low in omega arith)))

  low_above : 0 < t → limit < length (keep_below hash t r) → (u : ℕ) → low < u → limit < length (keep_below hash u r)
  unfolding low
  low_above p n u a =
      let b : largest hash (keep_below hash t r) < u = omega (arith, largest_below hash t r p) in
      let e : length (keep_below hash u (keep_below hash t r)) ≡ length (keep_below hash t r) = ap length (largest_keep hash u (keep_below hash t r) b) in
      let g : length (keep_below hash t (keep_below hash u r)) ≡ length (keep_below hash u (keep_below hash t r)) =
      ap length (keep_keep (under hash t) (under hash u) r) in
      omega (arith, keep_length (under hash t) (keep_below hash u r))

-- ---- demand 3 of a sample, after a history since a fresh start

pub record Tracked (hash : ℕ → ℕ) (limit start : ℕ) (past : List ℕ) (s : Sample) : Type 0 where
  pub threshold_is : Largest hash limit start past s.threshold
  pub live_is : s.live ≡ keep_below hash s.threshold (recency past)

pub tracked_fresh : (hash : ℕ → ℕ) (limit start : ℕ) (g : Histogram)
    → Tracked hash limit start [] (record { threshold = start; live = []; histogram = g })
tracked_fresh hash limit start g = record {
  threshold_is = record { at_most = omega arith; holds = omega arith; none_above = λ u a b. omega arith };
  live_is = refl;
}

module _ (hash : ℕ → ℕ) (limit start : ℕ) (x : ℕ) (past : List ℕ) where
  -- a threshold that stays, with room
  stays : (t : ℕ) → Largest hash limit start past t → different (under hash t) (x ∷ past) ≤ limit → Largest hash limit start (x ∷ past) t
  stays t g b = record {
    at_most = g.at_most;
    holds = b;
    none_above = λ u a c. omega (arith, g.none_above u a c, different_grows (under hash u) x past);
  }

  -- a threshold that falls
  falls : (t : ℕ) → t ≤ start → 0 < t → limit < different (under hash t) (x ∷ past) → different (under hash t) (x ∷ past) ≤ suc limit
      → Largest hash limit start (x ∷ past) (low hash limit t (recency (x ∷ past)))
  falls t b p o r = record {
    at_most = unfold low in omega arith;
    holds = low_holds hash limit t (recency (x ∷ past)) (omega arith) r;
    none_above = λ u a c. low_above hash limit t (recency (x ∷ past)) p o u a;
  }

  live_in : (t : ℕ) → under hash t x ≡ true → (live : List ℕ) → live ≡ keep_below hash t (recency past)
      → x ∷ without x live ≡ keep_below hash t (recency (x ∷ past))
  live_in t e live l = ap (λ r. x ∷ without x r) l ∙ sym (recent_in (under hash t) x past e)

  module _ (s : Sample) (tracked : Tracked hash limit start past s) where
    abbrev t : ℕ
    t = s.threshold

    tracked_skipped : under hash t x ≡ false → Tracked hash limit start (x ∷ past) s
    tracked_skipped e = record {
      threshold_is = stays t tracked.threshold_is (rw (recent_out (under hash t) x past e) tracked.threshold_is.holds);
      live_is = tracked.live_is ∙ sym (recent_out (under hash t) x past e);
    }

    module _ (e : under hash t x ≡ true) (g : Histogram) where
      tracked_again : has x s.live ≡ true
          → Tracked hash limit start (x ∷ past) (record { threshold = t; live = x ∷ erase x s.live; histogram = g })
      tracked_again m =
          let once : Once s.live = rw tracked.live_is (once_keep (under hash t) (recency past) (recency_once past)) in
          let q : x ∷ erase x s.live ≡ keep_below hash t (recency (x ∷ past)) =
          ap (λ r. x ∷ r) (erase_without x s.live once) ∙ live_in t e s.live tracked.live_is in
          record {
            threshold_is =
                stays t tracked.threshold_is
                (rw (← q) (omega (arith, length_erase x s.live m, ap length tracked.live_is, tracked.threshold_is.holds)));
            live_is = q;
          }

      tracked_lowered : (l : List ℕ) → l ≡ keep_below hash t (recency (x ∷ past)) → limit < length l → length l ≤ suc limit
          → Tracked hash limit start (x ∷ past) (record { threshold = lowered hash t l; live = keep_below hash (lowered hash t l) l; histogram = g })
      tracked_lowered l q o r =
          subst (λ z. Tracked hash limit start (x ∷ past)
          (record { threshold = lowered hash t z; live = keep_below hash (lowered hash t z) z; histogram = g })) (sym q)
          record {
            threshold_is = unfold low in falls t tracked.threshold_is.at_most (omega (arith, ltb-true (hash x) t e)) (rw (← q) o) (rw (← q) r);
            live_is = unfold low in low_list hash limit t (recency (x ∷ past));
          }

      tracked_first : has x s.live ≡ false → Tracked hash limit start (x ∷ past) (within_limit hash limit t (x ∷ s.live) g)
      unfolding within_limit
      tracked_first m =
          let q : x ∷ s.live ≡ keep_below hash t (recency (x ∷ past)) =
          ap (λ r. x ∷ r) (sym (without_out x s.live m)) ∙ live_in t e s.live tracked.live_is in
          cases (ltb limit (length (x ∷ s.live)))
          (λ o. rw o
          (tracked_lowered (x ∷ s.live) q (ltb-true limit (length (x ∷ s.live)) o)
          (omega (arith, ap length tracked.live_is, tracked.threshold_is.holds))))
          (λ o. rw o record { threshold_is = stays t tracked.threshold_is (rw (← q) (ltb-false limit (length (x ∷ s.live)) o)); live_is = q })

    -- one reference keeps the threshold the largest, and the list the recency list below it
    pub tracked_step : (f : Profile) → Tracked hash limit start (x ∷ past) (step hash limit f x s).left
    tracked_step f = cases (under hash t x)
        (λ e. cases (has x s.live)
        (λ m. rw (step_again hash limit f x s e m) (tracked_again e _ m))
        (λ m. rw (step_first hash limit f x s e m) (tracked_first e _ m)))
        (λ e. rw (step_skipped hash limit f x s e) (tracked_skipped e))

    -- and its answer is the history's
    pub replied_skipped : (f : Profile) → under hash t x ≡ false → (step hash limit f x s).reply ≡ Skipped
    replied_skipped f e = ap (λ z. z.reply) (step_skipped hash limit f x s e)

    live_has : under hash t x ≡ true → has x s.live ≡ has x past
    live_has e = ap (has x) tracked.live_is ∙ has_keep (under hash t) x e (recency past) ∙ has_recency x past

    pub replied_first : (f : Profile) → under hash t x ≡ true → has x past ≡ false → (step hash limit f x s).reply ≡ First
    replied_first f e n = ap (λ z. z.reply) (step_first hash limit f x s e (live_has e ∙ n))

    pub replied_again : (f : Profile) → under hash t x ≡ true → has x past ≡ true
        → (step hash limit f x s).reply ≡ Again (distance (under hash t) x past)
    replied_again f e n =
        let d : upto x s.live ≡ keep (under hash t) (recency (upto x past)) =
        ap (upto x) tracked.live_is ∙ upto_keep (under hash t) x e (recency past) ∙ ap (keep (under hash t)) (upto_recency x past) in
        ap (λ z. z.reply) (step_again hash limit f x s e (live_has e ∙ n)) ∙ ap (λ l. Again (length l)) d
