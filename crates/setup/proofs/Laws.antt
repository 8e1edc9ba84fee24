-- What the entry points' proofs share. Assumes nothing.
use Prim.Native.Nat.{ℕ}
use mathlib.Core.Path.{◌≡◌, sym}
use mathlib.Core.Bool.{true, false}
use mathlib.Core.List.{List}
use Rattle.rules.specs.declared.Settings.{Settings}
use Rattle.rules.specs.declared.Record.{Record}
use Rattle.rules.specs.Settings.{Histogram, Tables, with_defaults, out_of_range}
use Rattle.rules.specs.Answers.{refused, gives}
use Rattle.rules.specs.Order.{outcome}
use Rattle.rules.specs.Layout.{buckets_of, fresh_tables, fresh_record, tables_of}
use Rattle.rules.specs.Conditions.{too_short}
use Rattle.rules.specs.Calls.{setup_of}
use Rattle.rules.proofs.Calls.{setup_range, setup_short, setup_accept}

-- a fresh start was made
pub started_is : {kept j : Record} (locations : List ℕ) {counts thresholds : List ℕ} {g : Histogram} → kept ≡ j → buckets_of counts thresholds ≡ g
    → outcome (gives kept) (tables_of locations counts thresholds)
    ≡ record { result = gives j; left = record { locations = locations; histogram = g } }
started_is locations p q = λ i. record { result = gives (p i); left = record { locations = locations; histogram = q i } }

-- setup's cases, for settings that are the given ones after defaults
module _ (given s : Settings) (d : s ≡ with_defaults given) (t : Tables) where
  pub setup_no_range : out_of_range s ≡ true → record { result = refused 1; left = t } ≡ setup_of given t
  setup_no_range e = sym (setup_range given t (rw d at e))

  pub setup_no_room : out_of_range s ≡ false → too_short s t ≡ true → record { result = refused 2; left = t } ≡ setup_of given t
  setup_no_room e f = sym (setup_short given t (rw d at e) (rw d at f))

  pub setup_made : out_of_range s ≡ false → too_short s t ≡ false → record { result = gives (fresh_record s); left = fresh_tables s t } ≡ setup_of given t
  setup_made e f = rw d (sym (setup_accept given t (rw d at e) (rw d at f)))
