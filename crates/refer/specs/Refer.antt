-- What the functions for one reference pass to each other. Assumes nothing.
use Rattle.std.specs.Prelude.{Option, Some, None, ℕ, ◌+◌, ◌≡◌, true, false, cond, List, ◌∷◌, ltb, take}
use Rattle.rules.specs.declared.Record.{Record}
use Rattle.rules.specs.Reference.{under, lowered}
use Rattle.rules.specs.Layout.{Tracker, hash_for}
use Rattle.rules.specs.Conditions.{too_short, torn_record, full}
use Rattle.live.specs.Live.{Lowering, moved_to_front, lowering, staying}

-- the record with this threshold and live number, one more reference, and `sampled` more sampled ones
abbrev pub counted_in : Record → (threshold live sampled : ℕ) → Record
counted_in kept threshold live sampled = record {
  settings = kept.settings;
  threshold = threshold;
  live = live;
  numbers = record { references = kept.numbers.references + 1; sampled = kept.numbers.sampled + sampled };
}

-- the live list with x at its front, lowered if there is no room for it
abbrev pub entered_of : Record → (x : ℕ) → List ℕ → Lowering
entered_of kept x xs =
    cond (ltb kept.live kept.settings.limit)
    (lowering (record { threshold = kept.threshold; live = kept.live + 1 }) (moved_to_front kept.live x xs))
    (let list = x ∷ take kept.live xs in
    staying (hash_for kept.settings) (lowered (hash_for kept.settings) kept.threshold list) list xs)

-- only its bucket can still refuse a reference to x, and the hash of x is below the threshold
pub record Samples (x : ℕ) (s : Tracker) : Type 0 where
  pub record_whole : torn_record s.kept ≡ false
  pub tables_long : too_short s.kept.settings s.tables ≡ false
  pub room : full s.kept.numbers ≡ false
  pub below : under (hash_for s.kept.settings) s.kept.threshold x ≡ true

-- the record after a reference that is accepted and not sampled; none if it is refused or sampled
abbrev pub skip_of : (x : ℕ) → Tracker → Option Record
skip_of x s =
    cond (torn_record s.kept) None
    (cond (too_short s.kept.settings s.tables) None
    (cond (full s.kept.numbers) None
    (cond (under (hash_for s.kept.settings) s.kept.threshold x) None (Some (counted_in s.kept s.kept.threshold s.kept.live 0)))))
