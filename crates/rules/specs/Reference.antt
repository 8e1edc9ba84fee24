-- Document 01, "One reference", over plain values. Assumes nothing.
use Rattle.std.specs.Prelude.{Option, Some, None, ℕ, suc, ◌+◌, ◌*◌, ◌/◌, min, max, Bool, cond, List, [], ◌∷◌, ◌++◌, eqb, ltb, leb, length, get_or, take, drop, set}
use Rattle.rules.specs.declared.Reply.{Reply}
use Rattle.rules.specs.declared.Reply.TheVariants.{Skipped, First, Again}
use Rattle.rules.specs.Lists.{keep}
use Rattle.rules.specs.Settings.{full_rate, one_reference, Histogram}

-- the threshold in force, the live locations, latest first, and the histogram
pub record Sample : Type 0 where
  pub threshold : ℕ
  pub live : List ℕ
  pub histogram : Histogram

-- how scaled distances go into buckets, far being the bucket after the last, and the size in blocks of each point
pub record Profile : Type 0 where
  pub buckets : ℕ
  pub bucket_of : ℕ → ℕ
  pub size : ℕ → ℕ

-- fixed widths: the scaled distance divided by the width, rounded down, or far
abbrev pub widths : (width buckets : ℕ) → Profile
widths width buckets = record {
  buckets = buckets;
  bucket_of = λ d. cond (leb buckets (d / width)) buckets (d / width);
  size = λ k. k * width;
}

-- the place where x first occurs in a list whose own first place is numbered i
unfoldable pub first_from : (i x : ℕ) → List ℕ → Option ℕ
first_from i x [] = None
first_from i x (y ∷ l) = cond (eqb y x) (Some i) (first_from (suc i) x l)

-- the place, counted from 0, where x first occurs
abbrev pub first_place : (x : ℕ) → List ℕ → Option ℕ
first_place x l = first_from 0 x l

-- x from the place d to the front
abbrev pub to_front : (d x : ℕ) → List ℕ → List ℕ
to_front d x l = x ∷ (take d l ++ drop (suc d) l)

-- the hash of a location is below t
abbrev pub under : (ℕ → ℕ) → ℕ → ℕ → Bool
under hash t x = ltb (hash x) t

-- the largest hash in a list, 0 in the empty one
unfoldable pub largest : (ℕ → ℕ) → List ℕ → ℕ
largest hash [] = 0
largest hash (x ∷ l) = max (hash x) (largest hash l)

-- the entries whose hash is below t
abbrev pub keep_below : (ℕ → ℕ) → ℕ → List ℕ → List ℕ
keep_below hash t l = keep (under hash t) l

-- the threshold after a lowering: the smaller of t and the largest hash in the list
abbrev pub lowered : (ℕ → ℕ) → ℕ → List ℕ → ℕ
lowered hash t l = min t (largest hash l)

-- the distance D as it counts at full rate: D·P/T rounded down
abbrev pub scaled_distance : (t d : ℕ) → ℕ
scaled_distance t d = d * full_rate / t

-- a count made under the bucket threshold b, as it counts under t: c·T/b rounded down
abbrev pub rescaled : (t c b : ℕ) → ℕ
rescaled t c b = c * t / b

-- the entries of bucket j
abbrev pub count_at : ℕ → Histogram → ℕ
count_at j g = get_or g.counts j 0

abbrev pub threshold_at : ℕ → Histogram → ℕ
threshold_at j g = get_or g.thresholds j 0

-- a reference recorded in bucket j under t: its count is rescaled, plus one reference, and its threshold becomes t
abbrev pub record_in : (t j : ℕ) → Histogram → Histogram
record_in t j g = record {
  counts = set g.counts j (rescaled t (count_at j g) (threshold_at j g) + one_reference);
  thresholds = set g.thresholds j t;
}

-- the bucket that a sampled reference is recorded in, by its place in the live list: that of its scaled distance, or first
abbrev pub bucket_for : Profile → (t : ℕ) → Option ℕ → ℕ
bucket_for f t (Some d) = f.bucket_of (scaled_distance t d)
bucket_for f t None = f.buckets + 1

-- if more than limit are live, the threshold falls, and every entry whose hash is not below it leaves
unfoldable pub within_limit : (ℕ → ℕ) → (limit t : ℕ) → List ℕ → Histogram → Sample
within_limit hash limit t l g =
    cond (ltb limit (length l))
    (record { threshold = lowered hash t l; live = keep_below hash (lowered hash t l) l; histogram = g })
    (record { threshold = t; live = l; histogram = g })

pub record Stepped : Type 0 where
  pub reply : Reply
  pub left : Sample

-- a sampled reference, by its place in the live list
unfoldable pub sampled_step : (ℕ → ℕ) → (limit : ℕ) → Profile → (x : ℕ) → Sample → Option ℕ → Stepped
sampled_step hash limit f x s (Some d) =
    record {
      reply = Again d;
      left = record {
        threshold = s.threshold;
        live = to_front d x s.live;
        histogram = record_in s.threshold (bucket_for f s.threshold (Some d)) s.histogram;
      };
    }
sampled_step hash limit f x s None =
    record {
      reply = First;
      left = within_limit hash limit s.threshold (x ∷ s.live) (record_in s.threshold (bucket_for f s.threshold None) s.histogram);
    }

-- one reference: Skipped if its hash is not below the threshold
unfoldable pub step : (ℕ → ℕ) → (limit : ℕ) → Profile → (x : ℕ) → Sample → Stepped
step hash limit f x s =
    cond (under hash s.threshold x) (sampled_step hash limit f x s (first_place x s.live))
    (record { reply = Skipped; left = s })
