-- One reference in the tables: what each branch of the code leaves is what the rules say. Assumes nothing.
use Prim.Native.Nat.{ℕ, suc, ◌+◌, ◌≤◌, ◌<◌}
use mathlib.Core.Path.{◌≡◌, refl, sym, ap, ◌∙◌}
use mathlib.Core.Bool.{true, false, cond}
use mathlib.Core.List.{List, ◌∷◌}
use Rattle.std.specs.Prelude.{Option, Some, None}
use native.Mathlib.Omega.{arith}
use lib.Dec.{ltb}
use lib.ListN.{length, take}
use lib.Seq.{length-take-le}
use borrow.Author.Tests.{lt-ltb, le-ltb, eqb-false, ltb-true, ltb-false}
use Rattle.rules.specs.declared.Record.{Record}
use Rattle.rules.specs.Lists.{over}
use Rattle.rules.specs.Settings.{Histogram, needed, most_references}
use Rattle.rules.specs.Reference.{first_place, to_front, under, lowered, record_in, bucket_for, within_limit, sampled_step}
use Rattle.rules.specs.declared.Reply.{Reply}
use Rattle.rules.specs.declared.Reply.TheVariants.{Skipped, First, Again}
use Rattle.rules.specs.Answers.{refused, gives}
use Rattle.rules.specs.Order.{Outcome, outcome}
use Rattle.rules.specs.Layout.{Tracker, buckets_of, tables_of, tracker, live_of, sample_of, hash_for, profile_of, stored}
use Rattle.rules.specs.Conditions.{too_short, torn_record, torn_at, torn_for, full}
use Rattle.rules.specs.Calls.{refer_of}
use Rattle.rules.proofs.Tests.{cases}
use Rattle.rules.proofs.Answers.{refused_same}
use Rattle.rules.proofs.Order.{not_both}
use Rattle.rules.proofs.Tables.{over_same}
use Rattle.rules.proofs.Places.{front_length}
use Rattle.rules.proofs.Bounds.{Whole, whole, AllLong, all_long}
use Rattle.rules.proofs.Steps.{step_skipped, step_sampled}
use Rattle.rules.proofs.Clean.{bucket_needed}
use Rattle.rules.proofs.FullRate.{profile_cut}
use Rattle.rules.proofs.Calls.{Accepted, refer_bucket, refer_accept}
use Rattle.buckets.specs.Buckets.{recorded_of}
use Rattle.buckets.proofs.Laws.{recorded_needed}
use Rattle.live.specs.declared.Lowered.{Lowered}
use Rattle.live.specs.Live.{Lowering, moved_to_front, lowering, staying}
use Rattle.live.proofs.Laws.{found_below, moved_over, moved_new}
use Rattle.refer.specs.Refer.{counted_in, entered_of, Samples, skip_of}

-- an accepted reference can be counted, as sampled too
pub room_for : (kept : Record) (sampled : ℕ) → torn_record kept ≡ false → full kept.numbers ≡ false → sampled ≤ 1
    → (kept.numbers.references < most_references) × (kept.numbers.sampled ≤ kept.numbers.references) × (sampled ≤ 1)
room_for kept sampled not_torn not_full one =
    let b = whole kept not_torn in
    (omega (arith, b.references_high, eqb-false kept.numbers.references most_references not_full), b.sampled_high, one)

module _ (x : ℕ) (kept : Record) (ls cs ts : List ℕ) (w : Samples x (tracker kept ls cs ts)) where
  abbrev s : Tracker
  s = tracker kept ls cs ts

  pub bounds : Whole kept
  bounds = whole kept w.record_whole

  long : AllLong kept.settings s.tables
  long = all_long kept.settings s.tables w.tables_long

  pub countable : (kept.numbers.references < most_references) × (kept.numbers.sampled ≤ kept.numbers.references) × (1 ≤ 1)
  countable = room_for kept 1 w.record_whole w.room (omega arith)

  pub threshold_some : 0 < kept.threshold
  threshold_some = omega (arith, ltb-true (hash_for kept.settings x) kept.threshold w.below)

  pub list_fits : kept.live ≤ length ls
  list_fits = omega (arith, bounds.live_high, long.locations_long)

  pub counted_live : length (take kept.live ls) ≡ kept.live
  counted_live = length-take-le kept.live ls list_fits

  -- by the place in the live list, and the bucket that goes with it
  module _ (place : Option ℕ) (found : first_place x (live_of s) ≡ place)
      (j : ℕ) (is : j ≡ bucket_for (profile_of kept.settings) kept.threshold place) where
    in_needed : j < needed kept.settings.buckets
    in_needed = rw is (bucket_needed (profile_of kept.settings) (profile_cut kept.settings bounds.range).far kept.threshold place)

    torn_same : torn_for x s ≡ torn_at kept.numbers.references kept.threshold j (buckets_of cs ts)
    torn_same = rw (w.below, found, ← is)

    recording : recorded_of kept.numbers.references kept.threshold j (buckets_of cs ts)
        ≡ cond (torn_for x s) (outcome (refused 3) (buckets_of cs ts)) (outcome (gives tt) (record_in kept.threshold j (buckets_of cs ts)))
    recording = rw torn_same
        (recorded_needed kept.numbers.references kept.threshold kept.settings.buckets (buckets_of cs ts)
        long.buckets.counts_long long.buckets.thresholds_long j in_needed)

    refuses : torn_for x s ≡ true
        → recorded_of kept.numbers.references kept.threshold j (buckets_of cs ts) ≡ outcome (refused 3) (buckets_of cs ts)
    refuses t = recording ∙ rw t

    records : torn_for x s ≡ false
        → recorded_of kept.numbers.references kept.threshold j (buckets_of cs ts)
        ≡ outcome (gives tt) (record_in kept.threshold j (buckets_of cs ts))
    records t = recording ∙ rw t

    module _ (cs' ts' : List ℕ) where
      -- nothing was recorded: the bucket is torn, and all is as it was
      pub nothing_recorded : {n : ℕ} → outcome (refused n) (buckets_of cs' ts') ≡ recorded_of kept.numbers.references kept.threshold j (buckets_of cs ts)
          → outcome (refused n) (tracker kept ls cs' ts') ≡ refer_of x s
      nothing_recorded {n} e = cases (torn_for x s)
          (λ t. (λ i. record {
            result = refused (refused_same (ap (λ r. r.result) (e ∙ refuses t)) i);
            left = record { kept = kept; tables = record { locations = ls; histogram = ((e ∙ refuses t) i).left } };
          })
          ∙ sym (refer_bucket x s w.record_whole w.tables_long w.room t))
          (λ t. absurd (not_both {n = n} refl (ap (λ r. r.result) (e ∙ records t))))

      -- it was recorded, and the rest of the step is left
      pub recorded_left : outcome (gives tt) (buckets_of cs' ts') ≡ recorded_of kept.numbers.references kept.threshold j (buckets_of cs ts)
          → (buckets_of cs' ts' ≡ record_in kept.threshold j (buckets_of cs ts))
          × (refer_of x s
          ≡ (let r = sampled_step (hash_for kept.settings) kept.settings.limit (profile_of kept.settings) x (sample_of s) place in
          record { result = gives r.reply; left = stored r s }))
      recorded_left e = cases (torn_for x s)
          (λ t. absurd (not_both {n = 3} (ap (λ r. r.result) (e ∙ refuses t)) refl))
          (λ t. (
            ap (λ r. r.left) (e ∙ records t),
            refer_accept x s (record { record_whole = w.record_whole; tables_long = w.tables_long; room = w.room; bucket_sound = t })
                ∙ (let q = step_sampled (hash_for kept.settings) kept.settings.limit (profile_of kept.settings) x (sample_of s) w.below
                ∙ ap (sampled_step (hash_for kept.settings) kept.settings.limit (profile_of kept.settings) x (sample_of s)) found in
                λ i. record { result = gives (q i).reply; left = stored (q i) s }),
          ))

  -- the location stands at the place d
  pub again_done : (d : ℕ) → first_place x (live_of s) ≡ Some d
      → (j : ℕ) → j ≡ bucket_for (profile_of kept.settings) kept.threshold (Some d) → (ls' cs' ts' : List ℕ)
      → outcome (gives tt) (buckets_of cs' ts') ≡ recorded_of kept.numbers.references kept.threshold j (buckets_of cs ts) → ls' ≡ moved_to_front d x ls
      → outcome (gives (Again d)) (tracker (counted_in kept kept.threshold kept.live 1) ls' cs' ts') ≡ refer_of x s
  unfolding sampled_step
  again_done d found j is ls' cs' ts' e m =
      let r = recorded_left (Some d) found j is cs' ts' e in
      let b = found_below x kept.live ls d found in
      let l : kept.live ≡ length (to_front d x (live_of s)) = sym (front_length d x (live_of s) (omega (arith, counted_live, b.0)) ∙ counted_live) in
      let o : ls' ≡ over (to_front d x (live_of s)) ls =
      m ∙ moved_over x d kept.live ls b.0 list_fits in
      let h = r.0 ∙ ap (λ z. record_in kept.threshold z (buckets_of cs ts)) is in
      (λ i. record {
        result = gives (Again d);
        left = record { kept = counted_in kept kept.threshold (l i) 1; tables = record { locations = o i; histogram = h i } };
      })
      ∙ sym r.1

  -- what a first reference leaves, by what the list came to, and the buckets
  abbrev entered : Lowering → Histogram → Outcome Reply Tracker
  entered z g = record {
    result = gives First;
    left = record {
      kept = counted_in kept z.result.threshold z.result.live 1;
      tables = record { locations = z.table; histogram = g };
    };
  }

  module _ (None-found : first_place x (live_of s) ≡ None) (ls' cs' ts' : List ℕ)
      (e : outcome (gives tt) (buckets_of cs' ts') ≡ recorded_of kept.numbers.references kept.threshold (kept.settings.buckets + 1) (buckets_of cs ts)) where
    -- it entered the list, with room or with a lowering
    pub first_done : (low : Lowered) → lowering low ls' ≡ entered_of kept x ls
        → outcome (gives First) (tracker (counted_in kept low.threshold low.live 1) ls' cs' ts') ≡ refer_of x s
    unfolding sampled_step within_limit
    first_done low m =
        let r = recorded_left None None-found (kept.settings.buckets + 1) refl cs' ts' e in
        let l = counted_live in
        let longer = suc (length (take kept.live ls)) in
        cases (ltb kept.live kept.settings.limit)
        (λ t.
        let room = ltb-true kept.live kept.settings.limit t in
        let n : ltb kept.settings.limit longer ≡ false = le-ltb kept.settings.limit longer (omega (arith, l, room)) in
        let o : moved_to_front kept.live x ls ≡ over (x ∷ live_of s) ls = moved_new x kept.live ls (omega (arith, long.locations_long, room)) in
        let q : kept.live + 1 ≡ longer = omega (arith, l) in
        let p : lowering low ls' ≡ lowering (record { threshold = kept.threshold; live = longer }) (over (x ∷ live_of s) ls) =
        m ∙ rw t (λ i. lowering (record { threshold = kept.threshold; live = q i }) (o i)) in
        (λ i. entered (p i) (r.0 i)) ∙ sym (r.1 ∙ rw n))
        (λ t.
        let no_room = ltb-false kept.live kept.settings.limit t in
        let n : ltb kept.settings.limit longer ≡ true = lt-ltb kept.settings.limit longer (omega (arith, l, no_room)) in
        let fallen = lowered (hash_for kept.settings) kept.threshold (x ∷ live_of s) in
        let p : lowering low ls' ≡ staying (hash_for kept.settings) fallen (x ∷ live_of s) ls = m ∙ rw t in
        (λ i. entered (p i) (r.0 i)) ∙ sym (r.1 ∙ rw n))

-- a reference whose hash is not below the threshold
pub skipped_done : (x : ℕ) (kept : Record) (ls cs ts : List ℕ)
    → torn_record kept ≡ false → too_short kept.settings (tables_of ls cs ts) ≡ false → full kept.numbers ≡ false
    → under (hash_for kept.settings) kept.threshold x ≡ false
    → outcome (gives Skipped) (tracker (counted_in kept kept.threshold kept.live 0) ls cs ts) ≡ refer_of x (tracker kept ls cs ts)
skipped_done x kept ls cs ts e f g h =
    let s = tracker kept ls cs ts in
    let n : kept.live ≤ length ls = omega (arith, (whole kept e).live_high, (all_long kept.settings s.tables f).locations_long) in
    let a : Accepted x s = record { record_whole = e; tables_long = f; room = g; bucket_sound = rw h } in
    let z : kept.numbers.sampled + 0 ≡ kept.numbers.sampled = omega arith in
    let q = step_skipped (hash_for kept.settings) kept.settings.limit (profile_of kept.settings) x (sample_of s) h in
    (λ i. record {
      result = gives Skipped;
      left = record {
        kept = record {
          settings = kept.settings;
          threshold = kept.threshold;
          live = sym (length-take-le kept.live ls n) i;
          numbers = record { references = kept.numbers.references + 1; sampled = z i };
        };
        tables = record { locations = sym (over_same kept.live ls n) i; histogram = buckets_of cs ts };
      };
    })
    ∙ sym (refer_accept x s a ∙ (λ i. record { result = gives (q i).reply; left = stored (q i) s }))

pub not_none : {C : Type 0} {after : Record} → Some after ≡ None → C
not_none e = absurd (cc)

-- what is skipped is what the rules skip
pub skip_is : (x : ℕ) (kept : Record) (ls cs ts : List ℕ) {after : Record} → Some after ≡ skip_of x (tracker kept ls cs ts)
    → outcome (gives Skipped) (tracker after ls cs ts) ≡ refer_of x (tracker kept ls cs ts)
skip_is x kept ls cs ts {after} is = cases (torn_record kept) (λ e. not_none (rw e at is))
    (λ e. cases (too_short kept.settings (tables_of ls cs ts)) (λ f. not_none (rw (e, f) at is))
    (λ f. cases (full kept.numbers) (λ g. not_none (rw (e, f, g) at is))
    (λ g. cases (under (hash_for kept.settings) kept.threshold x) (λ h. not_none (rw (e, f, g, h) at is))
    (λ h. ap (λ z. outcome (gives Skipped) (tracker z ls cs ts)) (some_injective (rw (e, f, g, h) at is)) ∙ skipped_done x kept ls cs ts e f g h))))
  where
    some_injective : {a b : Record} → Some a ≡ Some b → a ≡ b
    some_injective e = cc
