-- Where the record, the list and the buckets stand in what is lent, and what a step and a fresh start leave there. Assumes nothing.
use Rattle.std.specs.Prelude.{ℕ, ◌+◌, List, length, take, replicate}
use Rattle.std.specs.Borrow.{Bor}
use Rattle.rules.specs.declared.Settings.{Settings}
use Rattle.rules.specs.declared.Numbers.{Numbers}
use Rattle.rules.specs.declared.Record.{Record}
use Rattle.rules.specs.Lists.{over}
use Rattle.rules.specs.Settings.{hash_of, Histogram, Tables, needed}
use Rattle.rules.specs.Reference.{Sample, Profile, widths, Stepped}
use Rattle.rules.specs.declared.Reply.{Reply}
use Rattle.rules.specs.declared.Reply.TheVariants.{Skipped, First, Again}

-- a record with its tables
pub record Tracker : Type 0 where
  pub kept : Record
  pub tables : Tables

abbrev pub buckets_of : (counts thresholds : List ℕ) → Histogram
buckets_of counts thresholds = record { counts = counts; thresholds = thresholds }

abbrev pub tables_of : (locations counts thresholds : List ℕ) → Tables
tables_of locations counts thresholds = record { locations = locations; histogram = buckets_of counts thresholds }

abbrev pub tracker : Record → (locations counts thresholds : List ℕ) → Tracker
tracker kept locations counts thresholds = record { kept = kept; tables = tables_of locations counts thresholds }

-- ---- what a promise says of a part that is handed back

-- lent bytes: the block of memory that they stand in, the place in it where they end, counted in bytes, and the bytes
pub record Part : Type 0 where
  pub block : ℕ
  pub ending : ℕ
  pub bytes : List ℕ

abbrev pub part : Bor (List ℕ) → Part
part r = record { block = r.ref_ptr.0; ending = r.ref_ptr.1 + length r.now; bytes = r.now }

-- the tail of lent bytes that has these bytes: in the same block, with the same end
abbrev pub tail_of : Bor (List ℕ) → List ℕ → Part
tail_of r bytes = record { block = (part r).block; ending = (part r).ending; bytes = bytes }

-- ---- where the list and the buckets stand

-- the live list stands at the front of the location table
abbrev pub live_of : Tracker → List ℕ
live_of s = take s.kept.live s.tables.locations

abbrev pub sample_of : Tracker → Sample
sample_of s = record { threshold = s.kept.threshold; live = live_of s; histogram = s.tables.histogram }

abbrev pub hash_for : Settings → ℕ → ℕ
hash_for s = hash_of s.hashing

abbrev pub profile_of : Settings → Profile
profile_of s = widths s.width s.buckets

-- references rises by one, and sampled if the answer is not Skipped
abbrev pub counted : Reply → Numbers → Numbers
counted Skipped n = record { references = n.references + 1; sampled = n.sampled }
counted First n = record { references = n.references + 1; sampled = n.sampled + 1 }
counted (Again d) n = record { references = n.references + 1; sampled = n.sampled + 1 }

-- a step's list over the front of the location table, its buckets in theirs, its threshold and live number in the record
abbrev pub stored : Stepped → Tracker → Tracker
stored r s = record {
  kept = record {
    settings = s.kept.settings;
    threshold = r.left.threshold;
    live = length r.left.live;
    numbers = counted r.reply s.kept.numbers;
  };
  tables = record { locations = over r.left.live s.tables.locations; histogram = r.left.histogram };
}

-- a fresh start: all needed counts 0, all needed bucket thresholds T0; entries past the needed ones never changed
abbrev pub fresh_buckets : Settings → Histogram → Histogram
fresh_buckets s g = record {
  counts = over (replicate (needed s.buckets) 0) g.counts;
  thresholds = over (replicate (needed s.buckets) s.start) g.thresholds;
}

-- the location table is not written
abbrev pub fresh_tables : Settings → Tables → Tables
fresh_tables s t = record { locations = t.locations; histogram = fresh_buckets s t.histogram }

abbrev pub fresh_record : Settings → Record
fresh_record s = record { settings = s; threshold = s.start; live = 0; numbers = record { references = 0; sampled = 0 } }

abbrev pub fresh : Settings → Tables → Tracker
fresh s t = record { kept = fresh_record s; tables = fresh_tables s t }
