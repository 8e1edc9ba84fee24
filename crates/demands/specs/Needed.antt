-- Document 01, "Settings and numbers": "Entries past the needed ones are never changed.". Assumes nothing.
use Rattle.std.specs.Prelude.{ℕ, max, ◌≡◌, List, [], ◌∷◌, drop}
use Rattle.rules.specs.declared.Settings.{Settings}
use Rattle.rules.specs.declared.Record.{Record}
use Rattle.rules.specs.declared.Event.{Event}
use Rattle.rules.specs.declared.Event.TheVariants.{Location, Span, Restart, Setup}
use Rattle.rules.specs.Settings.{with_defaults, Tables, needed}
use Rattle.rules.specs.Events.{settings_of}
use Rattle.rules.specs.Layout.{Tracker}
use Rattle.rules.specs.Calls.{setup_of, restart_of, refer_of, apply_of}
use Rattle.rules.specs.History.{Reference}

-- a number of entries of the location table, and one of each bucket table
pub record Entries : Type 0 where
  pub of_locations : ℕ
  pub of_buckets : ℕ

-- what settings need
abbrev pub needed_by : Settings → Entries
needed_by s = record { of_locations = s.limit; of_buckets = needed s.buckets }

-- all entries past so many are as they were
pub record SameBeyond (n : Entries) (before after : Tables) : Type 0 where
  pub same_locations : drop n.of_locations after.locations ≡ drop n.of_locations before.locations
  pub same_counts : drop n.of_buckets after.histogram.counts ≡ drop n.of_buckets before.histogram.counts
  pub same_thresholds : drop n.of_buckets after.histogram.thresholds ≡ drop n.of_buckets before.histogram.thresholds

-- the settings that an event is taken under: a setup's are its own
abbrev pub settings_under : Event → Settings → Settings
settings_under (Location x) s = s
settings_under (Span offset bytes) s = s
settings_under Restart s = s
settings_under (Setup b) s = with_defaults (settings_of b)

-- every call, refused or not; points are lent nothing that they could change
pub record OnlyNeeded : Type 0 where
  pub by_setup : (given : Settings) (t : Tables) → SameBeyond (needed_by (with_defaults given)) t (setup_of given t).left
  pub by_restart : (kept : Record) (t : Tables) → SameBeyond (needed_by kept.settings) t (restart_of kept t).left
  pub by_refer : (x : ℕ) (s : Tracker) → SameBeyond (needed_by s.kept.settings) s.tables (refer_of x s).left.tables
  pub by_apply : (e : Event) (s : Tracker) → SameBeyond (needed_by (settings_under e s.kept.settings)) s.tables (apply_of e s).left.tables

-- the most that is needed by any of the settings under which one of the events was taken, and then these references made
abbrev pub most_of : Entries → Entries → Entries
most_of n m = record { of_locations = max n.of_locations m.of_locations; of_buckets = max n.of_buckets m.of_buckets }

abbrev pub most_needed : List Event → List Reference → Settings → Entries
most_needed [] [] s = record { of_locations = 0; of_buckets = 0 }
most_needed [] (x ∷ made) s = needed_by s
most_needed (e ∷ es) made s = most_of (needed_by (settings_under e s)) (most_needed es made (settings_under e s))
