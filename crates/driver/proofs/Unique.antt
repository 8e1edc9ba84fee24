-- Each promise decides what is returned and all that is lent: any two results that it allows coincide. Both are the same value, whose parts are
-- read off. Assumes nothing.
use Prim.Native.Nat.{ℕ}
use mathlib.Core.Path.{◌≡◌, sym, ap, ◌∙◌}
use mathlib.Core.List.{List}
use Rattle.rules.specs.declared.Settings.{Settings}
use Rattle.rules.specs.declared.Shape.{Shape}
use Rattle.rules.specs.declared.Event.{Event}
use Rattle.rules.specs.Settings.{Histogram, Tables}
use Rattle.words.specs.Words.{Returned, returned}
use Rattle.driver.specs.Calls.{version, hash_in, Held, held, setup_in, restart_in, refer_in, span_in, point_in, plot_in, apply_in, feed_in, read_in}
use Rattle.driver.specs.Calls.{write_in}

-- a value
abbrev Once : {A : Type 0} → A → Type 0
Once {A} x = (r s : A) → r ≡ x → s ≡ x → r ≡ s

once : {A : Type 0} (x : A) → Once x
once x r s p q = p ∙ sym q

-- a value, with the record's words and the tables on return
abbrev HeldOnce : {A : Type 0} → Returned A Held → Type 0
HeldOnce {A} x = (a b : A) (u v : List ℕ) (s t : Tables) → returned a (held u s) ≡ x → returned b (held v t) ≡ x → (a ≡ b) × (u ≡ v) × (s ≡ t)

held_once : {A : Type 0} (x : Returned A Held) → HeldOnce x
held_once x a b u v s t p q =
    let e = p ∙ sym q in
    (ap (λ z. z.value) e, ap (λ z. z.left.words) e, ap (λ z. z.left.tables) e)

pub version_once : Once version
version_once = once _

pub hash_once : (kind location : ℕ) → Once (hash_in kind location)
hash_once kind location = once _

pub setup_once : (asked : Settings) (h : Held) → HeldOnce (setup_in asked h)
setup_once asked h = held_once _

pub restart_once : (h : Held) → HeldOnce (restart_in h)
restart_once h = held_once _

pub refer_once : (location : ℕ) (h : Held) → HeldOnce (refer_in location h)
refer_once location h = held_once _

pub span_once : (offset bytes : ℕ) (h : Held) → HeldOnce (span_in offset bytes h)
span_once offset bytes h = held_once _

pub point_once : (words : List ℕ) (believed : Shape) (number : ℕ) (g : Histogram) → Once (point_in words believed number g)
point_once words believed number g = once _

pub plot_once : (words : List ℕ) (believed : Shape) (number : ℕ) (g : Histogram) → Once (plot_in words believed number g)
plot_once words believed number g = once _

pub apply_once : (bytes : List ℕ) (h : Held) → HeldOnce (apply_in bytes h)
apply_once bytes h = held_once _

pub feed_once : (bytes : List ℕ) (h : Held) → HeldOnce (feed_in bytes h)
feed_once bytes h = held_once _

pub read_once : (bytes : List ℕ) → Once (read_in bytes)
read_once bytes = once _

-- the four functions that write an event
pub write_once : (event : Event) (buffer u v : List ℕ) {r s : Rattle.words.specs.declared.WrittenWords.WrittenWords}
    → returned r u ≡ write_in event buffer → returned s v ≡ write_in event buffer → (r ≡ s) × (u ≡ v)
write_once event buffer u v p q =
    let e = p ∙ sym q in
    (ap (λ z. z.value) e, ap (λ z. z.left) e)
