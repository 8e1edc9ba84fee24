-- Document 01, "Bench table", as one statement. W and B not named are the defaults. Assumes nothing.
use Rattle.std.specs.Prelude.{ℕ, ◌≤◌, ◌≡◌, false, List, [], ◌∷◌, replicate}
use Rattle.rules.specs.declared.Settings.{Settings}
use Rattle.rules.specs.declared.Point.{Point}
use Rattle.rules.specs.declared.Event.TheVariants.{Restart}
use Rattle.rules.specs.Settings.{Tables, with_defaults, hash_of, full_rate}
use Rattle.rules.specs.Reference.{scaled_distance, count_at, threshold_at}
use Rattle.rules.specs.declared.Reply.{Reply}
use Rattle.rules.specs.declared.Reply.TheVariants.{Skipped}
use Rattle.rules.specs.Answers.{Result, refused, gives}
use Rattle.rules.specs.Order.{Outcome}
use Rattle.rules.specs.Events.{read_of}
use Rattle.rules.specs.Layout.{Tracker, live_of, fresh_record}
use Rattle.rules.specs.Conditions.{too_short}
use Rattle.rules.specs.Calls.{setup_of, refer_of, own_point, started_over, refer_all}

abbrev pub kind0 : (limit start width buckets : ℕ) → Settings
kind0 limit start width buckets = record { limit = limit; start = start; width = width; buckets = buckets; hashing = record { kind = 0 } }

-- tables of zeros, as long as a bench case needs
abbrev pub zeros : Tables
zeros = record { locations = replicate 4 0; histogram = record { counts = replicate 258 0; thresholds = replicate 258 0 } }

-- a setup, then the references in their order
abbrev pub set_up : Settings → Outcome (Unit {0}) Tracker
set_up s = started_over (fresh_record s) (setup_of s zeros).result (setup_of s zeros).left

abbrev pub ran : Settings → List ℕ → Tracker
ran s locations = (refer_all locations (set_up s).left).left

-- setup and every reference were accepted
abbrev pub accepted : Settings → List ℕ → Type 0
accepted s locations = ((set_up s).result ≡ gives tt) × ((refer_all locations (set_up s).left).result ≡ gives tt)

-- a point, under the record's own shape
abbrev pub point_at : Tracker → ℕ → Result Point
point_at s k = own_point s.kept k s.tables.histogram

-- size, misses and total of a point, as the program prints them
abbrev pub printed : Tracker → ℕ → List ℕ
printed s k = numbers (point_at s k)
  where
    numbers : Result Point → List ℕ
    numbers (refused n) = []
    numbers (gives p) = p.size ∷ p.misses ∷ p.total ∷ []

abbrev pub case_a : Tracker
case_a = ran (kind0 4 full_rate 1 4) (1 ∷ 2 ∷ 1 ∷ 3 ∷ 2 ∷ 2 ∷ [])

abbrev pub case_b : Tracker
case_b = ran (kind0 2 16 1048576 4) (10 ∷ 5 ∷ 10 ∷ 7 ∷ 5 ∷ [])

abbrev pub case_c : Tracker
case_c = ran (kind0 1 16 0 0) (3 ∷ 16777219 ∷ [])

abbrev pub case_d : Tracker
case_d = ran (kind0 1 16 0 0) (0 ∷ 16777216 ∷ [])

-- the bucket of the immediate repeat of 5 is not recorded in while 4 and 3 lower the threshold
abbrev pub case_f : Tracker
case_f = ran (kind0 1 7 0 0) (5 ∷ 5 ∷ 4 ∷ 3 ∷ [])

pub record BenchTable : Type 0 where
  pub a : accepted (kind0 4 full_rate 1 4) (1 ∷ 2 ∷ 1 ∷ 3 ∷ 2 ∷ 2 ∷ [])
      × (printed case_a 0 ≡ 0 ∷ 1536 ∷ 1536 ∷ []) × (printed case_a 1 ≡ 1 ∷ 1280 ∷ 1536 ∷ []) × (printed case_a 2 ≡ 2 ∷ 1024 ∷ 1536 ∷ [])
      × (printed case_a 3 ≡ 3 ∷ 768 ∷ 1536 ∷ []) × (printed case_a 4 ≡ 4 ∷ 768 ∷ 1536 ∷ [])
  pub b : accepted (kind0 2 16 1048576 4) (10 ∷ 5 ∷ 10 ∷ 7 ∷ 5 ∷ [])
      × (case_b.kept.numbers ≡ record { references = 5; sampled = 5 }) × (case_b.kept.threshold ≡ 10) × (case_b.kept.live ≡ 2)
      × ((ran (kind0 2 16 1048576 4) (10 ∷ 5 ∷ 10 ∷ [])).kept.threshold ≡ 16)
      × ((ran (kind0 2 16 1048576 4) (10 ∷ 5 ∷ 10 ∷ 7 ∷ [])).kept.threshold ≡ 10)
      × (printed case_b 0 ≡ 0 ∷ 896 ∷ 896 ∷ []) × (printed case_b 1 ≡ 1048576 ∷ 896 ∷ 896 ∷ []) × (printed case_b 2 ≡ 2097152 ∷ 480 ∷ 896 ∷ [])
      × (printed case_b 3 ≡ 3145728 ∷ 480 ∷ 896 ∷ []) × (printed case_b 4 ≡ 4194304 ∷ 480 ∷ 896 ∷ [])
  pub c : accepted (kind0 1 16 0 0) (3 ∷ 16777219 ∷ [])
      × (hash_of (record { kind = 0 }) 3 ≡ 3) × (hash_of (record { kind = 0 }) 16777219 ≡ 3)
      × (case_c.kept.threshold ≡ 3) × (live_of case_c ≡ [])
  pub d : accepted (kind0 1 16 0 0) (0 ∷ 16777216 ∷ []) × (case_d.kept.threshold ≡ 0)
      -- every later accepted reference, any number of them, is Skipped, and the report is Empty
      × ((later : List ℕ) (x : ℕ) (r : Reply) → (refer_of x (refer_all later case_d).left).result ≡ gives r → r ≡ Skipped)
      × ((later : List ℕ) (k : ℕ) → k ≤ 256 → point_at (refer_all later case_d).left k ≡ refused 9)
  pub e : scaled_distance 1677721 3 ≡ 30
  pub f : accepted (kind0 1 7 0 0) (5 ∷ 5 ∷ 4 ∷ 3 ∷ [])
      × ((ran (kind0 1 7 0 0) (5 ∷ 5 ∷ 4 ∷ [])).kept.threshold ≡ 5) × (case_f.kept.threshold ≡ 4)
      × (count_at 0 case_f.tables.histogram ≡ 256) × (threshold_at 0 case_f.tables.histogram ≡ 7)
      × (point_at case_f 1 ≡ gives (record { size = 1; hits = 146; misses = 496; total = 642 }))
  pub g : (point_at case_a 4 ≡ gives (record { size = 4; hits = 768; misses = 768; total = 1536 })) × (point_at case_a 5 ≡ refused 6)
  pub h : (t : Tables) → too_short (with_defaults (kind0 8192 0 0 0)) t ≡ false
      → ((setup_of (kind0 8192 0 0 0) t).result ≡ gives (fresh_record (with_defaults (kind0 8192 0 0 0))))
      × ((setup_of (kind0 8193 0 0 0) t).result ≡ refused 1)
  pub i : hash_of (record { kind = 1 }) 0 ≡ 0
  pub j : read_of (0 ∷ []) ≡ refused 8
  pub k : read_of (3 ∷ []) ≡ gives (record { event = Restart; taken = 1 })
  pub l : (b1 b2 b3 b4 b5 b6 b7 : ℕ) → read_of (1 ∷ b1 ∷ b2 ∷ b3 ∷ b4 ∷ b5 ∷ b6 ∷ b7 ∷ []) ≡ refused 7
