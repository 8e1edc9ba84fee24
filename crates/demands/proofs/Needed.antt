-- Entries past the needed ones. A refused call leaves every table; a fresh start writes the needed buckets, a reference at most S locations and
-- one needed bucket; an event what the call does that it stands for. Assumes nothing.
use Prim.Native.Nat.{ℕ, ◌+◌, ◌-◌, ◌≤◌, max}
use mathlib.Core.Path.{◌≡◌, refl, sym, ap, subst, ◌∙◌}
use mathlib.Core.List.{List}
use Rattle.std.specs.Prelude.{Option}
use native.Mathlib.Omega.{arith}
use lib.ListN.{drop, replicate, length-replicate}
use lib.Seq.{drop-set-lt, drop-drop}
use Rattle.rules.specs.declared.Settings.{Settings}
use Rattle.rules.specs.declared.Record.{Record}
use Rattle.rules.specs.declared.Event.{Event}
use Rattle.rules.specs.declared.Event.TheVariants.{Location, Span, Restart, Setup}
use Rattle.rules.specs.Lists.{over}
use Rattle.rules.specs.Settings.{with_defaults, Histogram, Tables, needed}
use Rattle.rules.specs.Reference.{bucket_for, record_in}
use Rattle.rules.specs.Answers.{Result, refused, gives}
use Rattle.rules.specs.Events.{settings_of}
use Rattle.rules.specs.Layout.{Tracker, sample_of, hash_for, profile_of, stored, fresh_tables}
use Rattle.rules.specs.Calls.{setup_of, restart_of, step_of, refer_of, started_over, apply_of}
use Rattle.rules.specs.History.{Reference}
use Rattle.rules.proofs.Tables.{over_behind}
use Rattle.rules.proofs.Bounds.{whole}
use Rattle.rules.proofs.Clean.{bucket_needed}
use Rattle.rules.proofs.FullRate.{profile_cut}
use Rattle.rules.proofs.Calls.{setup_either, restart_either, Accepted, refer_accept, refer_either, live_left, step_buckets}
use Rattle.demands.specs.Spans.{Made, none, more}
use Rattle.demands.specs.Needed.{Entries, needed_by, SameBeyond, settings_under, OnlyNeeded, most_of}
use Rattle.demands.proofs.Spans.{made_settings, events_one_by_one}

pub same_all : (n : Entries) (t : Tables) → SameBeyond n t t
same_all n t = record { same_locations = refl; same_counts = refl; same_thresholds = refl }

-- ---- a fresh start

filled_behind : (n v : ℕ) (xs : List ℕ) → drop n (over (replicate n v) xs) ≡ drop n xs
filled_behind n v xs = over_behind (replicate n v) xs n (rw length-replicate (omega arith))

fresh_beyond : (s : Settings) (t : Tables) → SameBeyond (needed_by s) t (fresh_tables s t)
fresh_beyond s t = record {
  same_locations = refl;
  same_counts = filled_behind (needed s.buckets) 0 t.histogram.counts;
  same_thresholds = filled_behind (needed s.buckets) s.start t.histogram.thresholds;
}

setup_beyond : (given : Settings) (t : Tables) → SameBeyond (needed_by (with_defaults given)) t (setup_of given t).left
setup_beyond given t = setup_either given t
    (λ b. rw b.is (fresh_beyond (with_defaults given) t))
    (λ n e. rw e (same_all _ t))

restart_beyond : (kept : Record) (t : Tables) → SameBeyond (needed_by kept.settings) t (restart_of kept t).left
restart_beyond kept t = restart_either kept t
    (λ b. rw b.is (fresh_beyond kept.settings t))
    (λ n e. rw e (same_all _ t))

-- ---- a reference

-- the buckets from n on
abbrev SameBuckets : (n : ℕ) → (before after : Histogram) → Type 0
SameBuckets n before after = (drop n after.counts ≡ drop n before.counts) × (drop n after.thresholds ≡ drop n before.thresholds)

module _ (x : ℕ) (s : Tracker) (a : Accepted x s) where
  abbrev set : Settings
  set = s.kept.settings

  abbrev g : Histogram
  g = s.tables.histogram

  recorded : (place : Option ℕ)
      → SameBuckets (needed set.buckets) g (record_in s.kept.threshold (bucket_for (profile_of set) s.kept.threshold place) g)
  recorded place =
      let below = bucket_needed (profile_of set) (profile_cut set (whole s.kept a.record_whole).range).far s.kept.threshold place in
      (drop-set-lt _ g.counts _ _ below, drop-set-lt _ g.thresholds _ _ below)

  stored_beyond : SameBeyond (needed_by set) s.tables (stored (step_of x s) s).tables
  stored_beyond =
      let same = SameBuckets (needed set.buckets) g in
      let buckets = step_buckets same (hash_for set) set.limit (profile_of set) x (sample_of s) (refl, refl) recorded in
      record {
        same_locations = over_behind (step_of x s).left.live s.tables.locations set.limit (live_left x s a);
        same_counts = buckets.0;
        same_thresholds = buckets.1;
      }

refer_beyond : (x : ℕ) (s : Tracker) → SameBeyond (needed_by s.kept.settings) s.tables (refer_of x s).left.tables
refer_beyond x s = refer_either x s
    (λ a. rw (refer_accept x s a) (stored_beyond x s a))
    (λ n e. rw e (same_all _ s.tables))

-- several, one after the other
same_both : (n : Entries) (before between after : Tables) → SameBeyond n before between → SameBeyond n between after → SameBeyond n before after
same_both n before between after a b = record {
  same_locations = b.same_locations ∙ a.same_locations;
  same_counts = b.same_counts ∙ a.same_counts;
  same_thresholds = b.same_thresholds ∙ a.same_thresholds;
}

pub made_beyond : {xs : List Reference} {s after : Tracker} → Made xs s after → SameBeyond (needed_by s.kept.settings) s.tables after.tables
made_beyond {s = s} none = same_all _ s.tables
made_beyond (more {x} {xs} {r} {s} {middle} {after} e t) =
    let n = needed_by s.kept.settings in
    same_both n s.tables middle.tables after.tables
    (subst (λ o. SameBeyond n s.tables o.left.tables) e (refer_beyond x s))
    (subst (λ set. SameBeyond (needed_by set) middle.tables after.tables) (made_settings (more e none)) (made_beyond t))

-- ---- an event: it leaves what the call leaves that it stands for

pub started_tables : (kept : Record) (r : Result Record) (t : Tables) → (started_over kept r t).left.tables ≡ t
started_tables kept (refused n) t = refl
started_tables kept (gives a) t = refl

apply_beyond : (e : Event) (s : Tracker) → SameBeyond (needed_by (settings_under e s.kept.settings)) s.tables (apply_of e s).left.tables
unfolding apply_of
apply_beyond (Location x) s = made_beyond (events_one_by_one (Location x) s refl).accepted
apply_beyond (Span offset bytes) s = made_beyond (events_one_by_one (Span offset bytes) s refl).accepted
apply_beyond Restart s = let o = restart_of s.kept s.tables in
    rw (started_tables s.kept o.result o.left) (restart_beyond s.kept s.tables)
apply_beyond (Setup b) s = let o = setup_of (settings_of b) s.tables in
    rw (started_tables s.kept o.result o.left) (setup_beyond (settings_of b) s.tables)

pub only_needed : OnlyNeeded
only_needed = record { by_setup = setup_beyond; by_restart = restart_beyond; by_refer = refer_beyond; by_apply = apply_beyond }

-- ---- several events

-- what is the same past so many entries is the same past more
further_on : (m n : ℕ) (l k : List ℕ) → m ≤ n → drop m l ≡ drop m k → drop n l ≡ drop n k
further_on m n l k h e =
    let sum : m + (n - m) ≡ n = omega arith in
    subst (λ z. drop z l ≡ drop z k) sum (sym (drop-drop (n - m) m l) ∙ ap (drop (n - m)) e ∙ drop-drop (n - m) m k)

-- what one call left, and then others, is the same past the most that any needs
pub beyond_both : (n m : Entries) (before between after : Tables) → SameBeyond n before between → SameBeyond m between after
    → SameBeyond (most_of n m) before after
beyond_both n m before between after a b = record {
  same_locations = both n.of_locations m.of_locations _ _ _ a.same_locations b.same_locations;
  same_counts = both n.of_buckets m.of_buckets _ _ _ a.same_counts b.same_counts;
  same_thresholds = both n.of_buckets m.of_buckets _ _ _ a.same_thresholds b.same_thresholds;
}
  where
    both : (i j : ℕ) (h k l : List ℕ) → drop i k ≡ drop i h → drop j l ≡ drop j k → drop (max i j) l ≡ drop (max i j) h
    both i j h k l p q = further_on j (max i j) l k (omega arith) q ∙ further_on i (max i j) k h (omega arith) p
