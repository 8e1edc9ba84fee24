-- Document 01, "The curve program": what is printed, as bytes. Assumes nothing.
use Rattle.std.specs.Prelude.{ℕ, zero, suc, ◌+◌, ◌*◌, ◌/◌, ◌%◌, ◌≤◌, ◌≡◌, Bool, cond, List, [], ◌∷◌, ◌++◌, eqb, ltb, length, take, drop}
use Rattle.rules.specs.declared.Record.{Record}
use Rattle.rules.specs.declared.Point.{Point}
use Rattle.rules.specs.declared.Refusal.TheVariants as refusal
use Rattle.text.specs.declared.Page.{Page}
use Rattle.rules.specs.Lists.{over}
use Rattle.rules.specs.Settings.{Histogram}
use Rattle.rules.specs.Curve.{total_of}
use Rattle.rules.specs.Answers.{Result, gives}
use Rattle.rules.specs.Order.{Outcome, Judged, ◌when◌, says, by_order}
use Rattle.rules.specs.Conditions.{buckets_too_short, torn_record, torn_report}
use Rattle.rules.specs.Calls.{point_on, own_point}

-- ---- numbers

-- a number in decimal, if this many digits are enough
abbrev pub decimal_most : (digits n : ℕ) → List ℕ
decimal_most zero n = []
decimal_most (suc digits) n = cond (ltb n 10) ((48 + n) ∷ []) (decimal_most digits (n / 10) ++ ((48 + n % 10) ∷ []))

-- a number in decimal; 20 digits are enough for 64 bits
unfoldable pub decimal : ℕ → List ℕ
decimal n = decimal_most 20 n

-- ---- words

-- "curve refs "
abbrev pub refs_word : List ℕ
refs_word = 99 ∷ 117 ∷ 114 ∷ 118 ∷ 101 ∷ 32 ∷ 114 ∷ 101 ∷ 102 ∷ 115 ∷ 32 ∷ []

-- " sampled "
abbrev pub sampled_word : List ℕ
sampled_word = 32 ∷ 115 ∷ 97 ∷ 109 ∷ 112 ∷ 108 ∷ 101 ∷ 100 ∷ 32 ∷ []

-- " threshold "
abbrev pub threshold_word : List ℕ
threshold_word = 32 ∷ 116 ∷ 104 ∷ 114 ∷ 101 ∷ 115 ∷ 104 ∷ 111 ∷ 108 ∷ 100 ∷ 32 ∷ []

-- " live "
abbrev pub live_word : List ℕ
live_word = 32 ∷ 108 ∷ 105 ∷ 118 ∷ 101 ∷ 32 ∷ []

-- " "
abbrev pub space : List ℕ
space = 32 ∷ []

-- "\n"
abbrev pub newline : List ℕ
newline = 10 ∷ []

-- "end\n"
abbrev pub end_line : List ℕ
end_line = 101 ∷ 110 ∷ 100 ∷ 10 ∷ []

-- "empty\n"
abbrev pub empty_line : List ℕ
empty_line = 101 ∷ 109 ∷ 112 ∷ 116 ∷ 121 ∷ 10 ∷ []

-- "refused "
abbrev pub refused_word : List ℕ
refused_word = 114 ∷ 101 ∷ 102 ∷ 117 ∷ 115 ∷ 101 ∷ 100 ∷ 32 ∷ []

-- " at "
abbrev pub at_word : List ℕ
at_word = 32 ∷ 97 ∷ 116 ∷ 32 ∷ []

-- ---- lines

-- references, sampled references, threshold and live number
abbrev pub first_line : Record → List ℕ
first_line kept =
    (refs_word ++ decimal kept.numbers.references) ++ ((sampled_word ++ decimal kept.numbers.sampled)
    ++ ((threshold_word ++ decimal kept.threshold) ++ ((live_word ++ decimal kept.live) ++ newline)))

-- size, misses and total
abbrev pub point_line : Point → List ℕ
point_line p = decimal p.size ++ ((space ++ decimal p.misses) ++ ((space ++ decimal p.total) ++ newline))

-- the line for a refused event: the refusal's number and the place of the event's first byte
unfoldable pub refused_line : (number place : ℕ) → List ℕ
refused_line number place = (refused_word ++ decimal number) ++ ((at_word ++ decimal place) ++ newline)

-- ---- the curve

-- the lines of the points below n
unfoldable pub lines_to : ℕ → Record → Histogram → List ℕ
lines_to zero kept g = []
lines_to (suc n) kept g = lines_to n kept g ++ point_line (point_on kept n g)

-- the total is 0
abbrev pub no_total : Record → Histogram → Bool
no_total kept g = eqb (total_of kept.threshold kept.settings.buckets g) 0

-- the first line; then `empty` if the total is 0, else one line for each point, 0 to B, and `end`
unfoldable pub curve_text : Record → Histogram → List ℕ
curve_text kept g = first_line kept ++ cond (no_total kept g) empty_line (lines_to (kept.settings.buckets + 1) kept g ++ end_line)

-- the curve: 3 for the record, 2, 3 for the buckets; its points have these refusals too
abbrev pub curve_order : Record → Histogram → List Judged
curve_order kept g =
    (refusal.Torn when torn_record kept)
    ∷ (refusal.Tables when buckets_too_short kept.settings g)
    ∷ (refusal.Torn when torn_report kept.numbers.references kept.threshold kept.settings.buckets g)
    ∷ []

-- its text, or the refusal
unfoldable pub curve_of : Record → Histogram → Result (List ℕ)
curve_of kept g = says (curve_order kept g) (curve_text kept g)

-- point k, under the record's own shape, is not refused
abbrev pub Given : Record → (k : ℕ) → Histogram → Type 0
Given kept k g = own_point kept k g ≡ gives (point_on kept k g)

-- the curve is refused, or it is known whether its total is 0
pub record Judges (kept : Record) (g : Histogram) (said : Result Bool) : Type 0 where
  pub is : says (curve_order kept g) (no_total kept g) ≡ said

-- ---- text in a buffer

-- the first `at` bytes of a buffer are as before, a text follows them up to `end`, and the bytes after the text are as before
pub record Adds (before : List ℕ) (at : ℕ) (text after : List ℕ) (end : ℕ) : Type 0 where
  pub front : take end after ≡ take at before ++ text
  pub behind : drop end after ≡ drop end before
  pub ends : end ≡ at + length text
  pub fits : end ≤ length after

-- a page holds the same buffer as before, as long as it was, with a text behind what stood in it
pub record Puts (before : Page) (text : List ℕ) (after : Page) : Type 0 where
  pub same_buffer : after.out.ghost_name ≡ before.out.ghost_name
  pub same_length : length after.out.now ≡ length before.out.now
  pub adds : Adds before.out.now before.filled text after.out.now after.filled

-- no first line is longer, numbers having at most 20 digits
abbrev pub longest_first : ℕ
longest_first = 118

-- nor any line of a point
abbrev pub longest_point : ℕ
longest_point = 63

-- nor any line of a refused event
abbrev pub longest_refused : ℕ
longest_refused = 53

-- nor any curve with so many buckets: the first line, B + 1 points and `end`
abbrev pub longest_curve : (buckets : ℕ) → ℕ
longest_curve buckets = longest_first + longest_point * (buckets + 1) + 4

-- a buffer shorter than needed is refused 2, after the refusals of the text itself
abbrev pub in_buffer : List Judged → (needed : ℕ) → (text buffer : List ℕ) → Outcome ℕ (List ℕ)
in_buffer order needed text buffer =
    by_order (order ++ ((refusal.Tables when ltb (length buffer) needed) ∷ [])) (length text) buffer (over text buffer)

-- the curve over the front of a buffer, and its length
unfoldable pub curve_in : Record → Histogram → (buffer : List ℕ) → Outcome ℕ (List ℕ)
curve_in kept g buffer = in_buffer (curve_order kept g) (longest_curve kept.settings.buckets) (curve_text kept g) buffer

-- the line for a refused event over the front of a buffer, and its length
unfoldable pub refused_in : (number place : ℕ) (buffer : List ℕ) → Outcome ℕ (List ℕ)
refused_in number place buffer = in_buffer [] longest_refused (refused_line number place) buffer
