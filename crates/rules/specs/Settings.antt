-- Document 01, "Settings and numbers". Assumes nothing.
use Rattle.std.specs.Prelude.{ℕ, ◌+◌, ◌-◌, ◌*◌, ◌/◌, ◌%◌, ◌^◌, Bool, cond, ◌||◌, List, eqb, ltb}
use Rattle.std.specs.Int.Bits.{bit_xor}
use Rattle.rules.specs.declared.Hashing.{Hashing}
use Rattle.rules.specs.declared.Settings.{Settings}

-- P, full rate: every hash is below it, so a threshold of P samples every location
abbrev pub full_rate : ℕ
full_rate = 2 ^ 24

-- at most 2^32 - 1 references are made in a run
abbrev pub most_references : ℕ
most_references = 2 ^ 32 - 1

-- the largest S, W and B allowed
abbrev pub most_limit : ℕ
most_limit = 8192

abbrev pub most_width : ℕ
most_width = 2 ^ 32 - 1

abbrev pub most_buckets : ℕ
most_buckets = 10000

-- one reference, in the units of counts
abbrev pub one_reference : ℕ
one_reference = 256

-- a setting of zero means its default
abbrev pub or_default : (default setting : ℕ) → ℕ
or_default default setting = cond (eqb setting 0) default setting

-- the settings after defaults; the hash kind has none
unfoldable pub with_defaults : Settings → Settings
with_defaults s = record {
  limit = or_default 1024 s.limit;
  start = or_default 1677721 s.start;
  width = or_default 1 s.width;
  buckets = or_default 256 s.buckets;
  hashing = s.hashing;
}

-- the hash kind is neither 0 nor 1
abbrev pub unknown_hash : Hashing → Bool
unknown_hash h = ltb 1 h.kind

-- a setting is not from 1 to the largest allowed
abbrev pub outside : (most setting : ℕ) → Bool
outside most setting = eqb setting 0 || ltb most setting

-- after defaults, a setting is outside its range
unfoldable pub out_of_range : Settings → Bool
out_of_range s =
    outside most_limit s.limit || outside full_rate s.start || outside most_width s.width || outside most_buckets s.buckets
    || unknown_hash s.hashing

-- x xor (x shifted right 33)
unfoldable pub shift_step : ℕ → ℕ
shift_step x = bit_xor x (x / 2 ^ 33)

-- the product modulo 2^64
abbrev pub times : (x m : ℕ) → ℕ
times x m = x * m % 2 ^ 64

-- the 64-bit finaliser of MurmurHash3
unfoldable pub finaliser : ℕ → ℕ
finaliser x = shift_step (times (shift_step (times (shift_step x) 0xff51_afd7_ed55_8ccd)) 0xc4ce_b9fe_1a85_ec53)

-- the hash of a location: of kind 0 the location, of kind 1 its finaliser, modulo P
unfoldable pub hash_of : Hashing → ℕ → ℕ
hash_of h location = cond (eqb h.kind 0) (location % full_rate) (finaliser location % full_rate)

-- the two bucket tables
pub record Histogram : Type 0 where
  pub counts : List ℕ
  pub thresholds : List ℕ

-- the lent tables
pub record Tables : Type 0 where
  pub locations : List ℕ
  pub histogram : Histogram

-- how many entries a bucket table needs: the buckets, far and first
abbrev pub needed : (buckets : ℕ) → ℕ
needed buckets = buckets + 2
