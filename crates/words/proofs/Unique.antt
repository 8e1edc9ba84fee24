-- Each promise of this crate decides the result, and the words on return: it is one value, so any two results that it allows coincide. Assumes
-- nothing.
use Prim.Native.Nat.{ℕ}
use mathlib.Core.Path.{◌≡◌, sym, ap, ◌∙◌}
use mathlib.Core.Bool.{Bool}
use mathlib.Core.List.{List}
use Rattle.rules.specs.declared.Record.{Record}
use Rattle.rules.specs.declared.Point.{Point}
use Rattle.rules.specs.declared.PlotPoint.{PlotPoint}
use Rattle.rules.specs.declared.Reply.{Reply}
use Rattle.rules.specs.declared.SetupBody.{SetupBody}
use Rattle.rules.specs.Answers.{Result}
use Rattle.rules.specs.declared.Got.{Got}
use Rattle.feed.specs.declared.End.{End}
use Rattle.words.specs.declared.AskedSettings.{AskedSettings}
use Rattle.words.specs.declared.Believed.{Believed}
use Rattle.words.specs.declared.FedWords.{FedWords}
use Rattle.words.specs.Words.{settings_from, shape_from, few_words, record_of, stored_if, returned, stored_start, answer_words, point_words, plot_words}
use Rattle.words.specs.Words.{asked_by, got_words, event_words, written_words, fed_words, applied_from}

abbrev Once : {A : Type 0} → A → Type 0
Once {A} x = (r s : A) → r ≡ x → s ≡ x → r ≡ s

once : {A : Type 0} (x : A) → Once x
once x r s p q = p ∙ sym q

-- ---- what C passes

pub settings_from_once : (asked : AskedSettings) → Once (settings_from asked)
settings_from_once asked = once _

pub shape_from_once : (believed : Believed) → Once (shape_from believed)
shape_from_once believed = once _

-- ---- the record

pub too_few_once : (words : List ℕ) → Once (few_words words)
too_few_once words = once _

pub record_of_once : (words : List ℕ) → Once (record_of words)
record_of_once words = once _

-- the words on return
pub store_if_once : (accepted : Bool) (kept : Record) (words : List ℕ) → Once (stored_if accepted kept words)
store_if_once accepted kept words = once _

pub store_started_once : (result : Result Record) (words : List ℕ) (m n : ℕ) (u v : List ℕ) → returned m u ≡ stored_start result words
    → returned n v ≡ stored_start result words → (m ≡ n) × (u ≡ v)
store_started_once result words m n u v p q =
    let e = p ∙ sym q in
    (ap (λ z. z.value) e, ap (λ z. z.left) e)

-- ---- what a call gives

pub answer_words_once : (result : Result Reply) → Once (answer_words result)
answer_words_once result = once _

pub point_words_once : (result : Result Point) → Once (point_words result)
point_words_once result = once _

pub plot_words_once : (result : Result PlotPoint) → Once (plot_words result)
plot_words_once result = once _

pub asked_by_once : (body : SetupBody) → Once (asked_by body)
asked_by_once body = once _

pub got_words_once : (got : Got) → Once (got_words got.event got.taken)
got_words_once got = once _

pub event_words_once : (result : Result Got) → Once (event_words result)
event_words_once result = once _

pub applied_words_once : (fed : FedWords) → Once (applied_from fed)
applied_words_once fed = once _

pub written_words_once : (result : Result ℕ) → Once (written_words result)
written_words_once result = once _

pub fed_words_once : (taken : ℕ) (result : Result End) → Once (fed_words taken result)
fed_words_once taken result = once _
