-- The demands are about something: runs that meet their premises. Each is written out call by call, and each call computes. Assumes nothing.
use Prim.Native.Nat.{ℕ, ◌≤◌}
use mathlib.Core.Path.{◌≡◌, refl}
use mathlib.Core.List.{List, [], ◌∷◌}
use lib.Dec.{lit≤}
use lib.ListN.{length}
use Rattle.rules.specs.Settings.{with_defaults, out_of_range, hash_of, full_rate}
use Rattle.rules.specs.Reference.{first_from, largest, within_limit, sampled_step, step, count_at}
use Rattle.rules.specs.Layout.{Tracker, live_of, fresh_record, fresh}
use Rattle.rules.specs.Conditions.{torn_record, torn_bucket}
use Rattle.rules.specs.Calls.{setup_of, restart_of, refer_of}
use Rattle.rules.specs.History.{recency}
use Rattle.demands.specs.Runs.{Run, setup, restart, refer}
use Rattle.demands.specs.Bench.{kind0, zeros}

-- what references leave, newest first
abbrev later : Tracker → List ℕ → Tracker
later s [] = s
later s (x ∷ past) = (refer_of x (later s past)).left

abbrev falling : Tracker
falling = fresh (kind0 2 16 1 4) zeros

-- a run begun by a restart, whose threshold falls from 16 to 5, where two locations of equal hash leave together, to 3 and to 0
pub record Falls : Type 0 where
  pub before : Run (16777221 ∷ 5 ∷ []) (later falling (16777221 ∷ 5 ∷ []))
  pub both_live : ((later falling (16777221 ∷ 5 ∷ [])).kept.threshold ≡ 16) × (live_of (later falling (16777221 ∷ 5 ∷ [])) ≡ 16777221 ∷ 5 ∷ [])
  pub once : Run (3 ∷ 16777221 ∷ 5 ∷ []) (later falling (3 ∷ 16777221 ∷ 5 ∷ []))
  pub both_left : ((later falling (3 ∷ 16777221 ∷ 5 ∷ [])).kept.threshold ≡ 5) × (live_of (later falling (3 ∷ 16777221 ∷ 5 ∷ [])) ≡ 3 ∷ [])
  pub twice : Run (16777216 ∷ 0 ∷ 3 ∷ 16777221 ∷ 5 ∷ []) (later falling (16777216 ∷ 0 ∷ 3 ∷ 16777221 ∷ 5 ∷ []))
  pub two_left : ((later falling (16777216 ∷ 0 ∷ 3 ∷ 16777221 ∷ 5 ∷ [])).kept.threshold ≡ 3)
      × (live_of (later falling (16777216 ∷ 0 ∷ 3 ∷ 16777221 ∷ 5 ∷ [])) ≡ 16777216 ∷ 0 ∷ [])
  pub to_zero : Run (33554432 ∷ 16777216 ∷ 0 ∷ 3 ∷ 16777221 ∷ 5 ∷ []) (later falling (33554432 ∷ 16777216 ∷ 0 ∷ 3 ∷ 16777221 ∷ 5 ∷ []))
  pub none_left : ((later falling (33554432 ∷ 16777216 ∷ 0 ∷ 3 ∷ 16777221 ∷ 5 ∷ [])).kept.threshold ≡ 0)
      × (live_of (later falling (33554432 ∷ 16777216 ∷ 0 ∷ 3 ∷ 16777221 ∷ 5 ∷ [])) ≡ [])

pub falls : Falls
unfolding restart_of refer_of torn_record out_of_range hash_of first_from largest within_limit sampled_step step torn_bucket
falls =
    let start : Run [] falling = restart (fresh_record (kind0 2 16 1 4)) zeros refl in
    let two : Run (16777221 ∷ 5 ∷ []) (later falling (16777221 ∷ 5 ∷ [])) = refer (refer start refl) refl in
    let one : Run (3 ∷ 16777221 ∷ 5 ∷ []) (later falling (3 ∷ 16777221 ∷ 5 ∷ [])) = refer two refl in
    let again : Run (16777216 ∷ 0 ∷ 3 ∷ 16777221 ∷ 5 ∷ []) (later falling (16777216 ∷ 0 ∷ 3 ∷ 16777221 ∷ 5 ∷ [])) = refer (refer one refl) refl in
    record {
      before = two;
      both_live = (refl, refl);
      once = one;
      both_left = (refl, refl);
      twice = again;
      two_left = (refl, refl);
      to_zero = refer again refl;
      none_left = (refl, refl);
    }

-- a run at full rate, with width 2 and a reference in far
abbrev wide : List ℕ → Tracker
wide past = later (fresh (kind0 4 full_rate 2 1) zeros) past

pub record Wide : Type 0 where
  pub run : Run (1 ∷ 3 ∷ 2 ∷ 1 ∷ []) (wide (1 ∷ 3 ∷ 2 ∷ 1 ∷ []))
  pub full : (wide (1 ∷ 3 ∷ 2 ∷ 1 ∷ [])).kept.settings.start ≡ full_rate
  pub width_two : (wide (1 ∷ 3 ∷ 2 ∷ 1 ∷ [])).kept.settings.width ≡ 2
  pub within : length (recency (1 ∷ 3 ∷ 2 ∷ 1 ∷ [])) ≤ (wide (1 ∷ 3 ∷ 2 ∷ 1 ∷ [])).kept.settings.limit
  pub far_used : count_at (wide (1 ∷ 3 ∷ 2 ∷ 1 ∷ [])).kept.settings.buckets (wide (1 ∷ 3 ∷ 2 ∷ 1 ∷ [])).tables.histogram ≡ 256

pub wide_run : Wide
unfolding setup_of refer_of torn_record out_of_range with_defaults hash_of first_from largest within_limit sampled_step step torn_bucket
wide_run =
    let none : Run [] (wide []) = setup (kind0 4 full_rate 2 1) zeros refl in
    let one : Run (1 ∷ []) (wide (1 ∷ [])) = refer none refl in
    let two : Run (2 ∷ 1 ∷ []) (wide (2 ∷ 1 ∷ [])) = refer one refl in
    let three : Run (3 ∷ 2 ∷ 1 ∷ []) (wide (3 ∷ 2 ∷ 1 ∷ [])) = refer two refl in
    record {
      run = refer three refl;
      full = refl;
      width_two = refl;
      within = lit≤ tt;
      far_used = refl;
    }
