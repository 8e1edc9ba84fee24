-- What every run leaves. By induction on the run (`by_run`): a fresh start has the invariant, and an accepted reference keeps it, by the laws of
-- one reference in `Steps`, `Clean` and `Calls`. Assumes nothing.
use Prim.Native.Nat.{ℕ, suc, ◌+◌, ◌<◌}
use mathlib.Core.Path.{◌≡◌, refl, sym, ap, subst, subst₂, ◌∙◌}
use mathlib.Core.Bool.{false}
use mathlib.Core.List.{List, [], ◌∷◌}
use native.Mathlib.Omega.{arith}
use lib.ListN.{length}
use Rattle.rules.specs.declared.Settings.{Settings}
use Rattle.rules.specs.declared.Record.{Record}
use Rattle.rules.specs.Settings.{out_of_range, Tables, needed}
use Rattle.rules.specs.Reference.{under, first_place}
use Rattle.rules.specs.declared.Reply.{Reply}
use Rattle.rules.specs.declared.Reply.TheVariants.{Skipped, First, Again}
use Rattle.rules.specs.Answers.{gives}
use Rattle.rules.specs.Order.{Outcome}
use Rattle.rules.specs.Layout.{Tracker, live_of, sample_of, hash_for, profile_of, counted, stored, fresh_tables, fresh_record, fresh}
use Rattle.rules.specs.Conditions.{too_short, torn_record, torn_at, torn_for, full}
use Rattle.rules.specs.Calls.{step_of}
use Rattle.rules.proofs.Tests.{cases}
use Rattle.rules.proofs.Answers.{gives_same}
use Rattle.rules.proofs.Tables.{over_front}
use Rattle.rules.proofs.Bounds.{Whole, whole, untorn, in_range, all_long, none_short, not_torn}
use Rattle.rules.proofs.Steps.{Tracked, tracked_fresh, tracked_step}
use Rattle.rules.proofs.FullRate.{profile_cut}
use Rattle.rules.proofs.Fresh.{fresh_long}
use Rattle.rules.proofs.Clean.{Clean, clean_fresh, clean_step, bucket_needed}
use Rattle.rules.proofs.Calls.{Begins, setup_begins, restart_begins, Accepted, refer_accept, refer_accepted, sample_stored, left_whole, left_long}
use Rattle.demands.specs.Runs.{Run, setup, restart, refer, answers}

pub record Invariant (past : List ℕ) (s : Tracker) : Type 0 where
  pub record_whole : torn_record s.kept ≡ false
  pub tables_long : too_short s.kept.settings s.tables ≡ false
  pub tracked : Tracked (hash_for s.kept.settings) s.kept.settings.limit s.kept.settings.start past (sample_of s)
  pub clean : Clean (needed s.kept.settings.buckets) s.kept.settings.start s.kept.numbers.references s.kept.threshold
      s.tables.histogram
  pub live_is : s.kept.live ≡ length (live_of s)
  pub references_is : s.kept.numbers.references ≡ length past

pub invariant_fresh : (s : Settings) (t : Tables) → out_of_range s ≡ false → too_short s t ≡ false → Invariant [] (fresh s t)
invariant_fresh s t e l =
    let r = in_range s e in
    let a = all_long s t l in
    record {
      record_whole = untorn (fresh_record s) e (omega arith) (omega arith) (omega arith) (omega arith);
      tables_long = none_short s (fresh_tables s t) (record { locations_long = a.locations_long; buckets = fresh_long s t a.buckets });
      tracked = tracked_fresh (hash_for s) s.limit s.start (fresh_tables s t).histogram;
      clean = clean_fresh s t a.buckets (omega (arith, r.start_low));
      live_is = refl;
      references_is = refl;
    }

started_state : {b : Outcome Record Tables} {kept : Record} {s : Tracker} {u : Tables} → b ≡ record { result = gives kept; left = u }
    → b ≡ record { result = gives s.kept; left = s.tables } → record { kept = kept; tables = u } ≡ s
started_state {kept = kept} {s = s} e f =
    λ i. record { kept = gives_same (ap (λ b. b.result) (sym e ∙ f)) i; tables = ap (λ b. b.left) (sym e ∙ f) i }

-- what a run is begun with
pub record Fresh (h : Tracker) : Type 0 where
  pub given : Settings
  pub over : Tables
  pub range : out_of_range given ≡ false
  pub long : too_short given over ≡ false
  pub is : fresh given over ≡ h

pub fresh_started : (s : Settings) (t : Tables) (b : Outcome Record Tables) (h : Tracker) → Begins s t b
    → b ≡ record { result = gives h.kept; left = h.tables } → Fresh h
fresh_started s t b h g e = record { given = s; over = t; range = g.range; long = g.long; is = started_state g.is e }

module _ (past : List ℕ) (s : Tracker) (v : Invariant past s) (x : ℕ) where
  abbrev set : Settings
  set = s.kept.settings

  pub bounds : Whole s.kept
  bounds = whole s.kept v.record_whole

  -- the bucket that a reference would record in is not torn
  pub bucket_clean : torn_for x s ≡ false
  bucket_clean = cases (under (hash_for set) s.kept.threshold x)
      (λ e. rw e (at _ (bucket_needed (profile_of set) (profile_cut set bounds.range).far s.kept.threshold (first_place x (live_of s)))))
      (λ e. rw e)
    where
      at : (j : ℕ) → j < needed set.buckets → torn_at s.kept.numbers.references s.kept.threshold j s.tables.histogram ≡ false
      at j h = not_torn _ _ _ _ (record {
        some = λ e. omega (arith, v.clean.at_least_one j h);
        above = v.clean.not_below j h;
        under = omega (arith, v.clean.not_above j h, bounds.range.start_high);
        counted = v.clean.count_high j h;
      })

  -- so a reference is refused only when Full
  pub accepted : full s.kept.numbers ≡ false → Accepted x s
  accepted r = record { record_whole = v.record_whole; tables_long = v.tables_long; room = r; bucket_sound = bucket_clean }

  counted_one : (r : Reply) → (counted r s.kept.numbers).references ≡ s.kept.numbers.references + 1
  counted_one Skipped = refl
  counted_one First = refl
  counted_one (Again d) = refl

  pub invariant_stored : Accepted x s → Invariant (x ∷ past) (stored (step_of x s) s)
  invariant_stored a = record {
    record_whole = left_whole x s a;
    tables_long = left_long x s a;
    tracked =
        rw (sample_stored (step_of x s) s) (tracked_step (hash_for set) set.limit set.start x past (sample_of s) v.tracked (profile_of set));
    clean = rw (counted_one (step_of x s).reply)
        (clean_step (hash_for set) set.limit (profile_of set) (profile_cut set bounds.range).far x (sample_of s) set.start
        s.kept.numbers.references bounds.threshold_high v.clean);
    live_is = ap length (sym (over_front (step_of x s).left.live s.tables.locations));
    references_is =
        counted_one (step_of x s).reply ∙ (let q : s.kept.numbers.references + 1 ≡ suc (length past) = omega (arith, v.references_is) in q);
  }

-- by cases on a run, of what holds of a fresh start and is kept by each accepted reference
pub by_run : (Q : (past : List ℕ) → Tracker → List Reply → Type 0)
    → ((h : Tracker) → Fresh h → Q [] h [])
    → ((past : List ℕ) (s : Tracker) (x : ℕ) (rs : List Reply) → Run past s → Accepted x s → Q past s rs
    → Q (x ∷ past) (stored (step_of x s) s) ((step_of x s).reply ∷ rs))
    → {past : List ℕ} {s : Tracker} (run : Run past s) → Q past s (answers run)
by_run Q start next (setup given t {s = s} e) = start s (fresh_started _ t _ s (setup_begins given t s.kept (ap (λ b. b.result) e)) e)
by_run Q start next (restart kept t {s = s} e) = start s (fresh_started _ t _ s (restart_begins kept t s.kept (ap (λ b. b.result) e)) e)
by_run Q start next (refer {past = past} {s = s} {after = after} {x = x} {r = r} run e) =
    let a = refer_accepted x s r (ap (λ o. o.result) e) in
    let q = sym (refer_accept x s a) ∙ e in
    subst₂ (λ h z. Q (x ∷ past) h (z ∷ answers run)) (ap (λ o. o.left) q) (gives_same (ap (λ o. o.result) q))
    (next past s x (answers run) run a (by_run Q start next run))

pub invariant : {past : List ℕ} {s : Tracker} → Run past s → Invariant past s
invariant run = by_run (λ past s rs. Invariant past s)
    (λ h f. subst (Invariant []) f.is (invariant_fresh f.given f.over f.range f.long))
    (λ past s x rs run a v. invariant_stored past s v x a) run
