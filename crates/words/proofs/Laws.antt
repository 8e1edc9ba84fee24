-- The record and its words are one another's, word by word: each of the nine computes. And what is written over the front of lent words, word
-- by word. Assumes nothing.
use Prim.Native.Nat.{ℕ, zero, suc, ◌+◌, ◌<◌, ◌≤◌}
use native.Mathlib.Omega.{arith}
use mathlib.Core.Path.{◌≡◌, refl, sym, ap, ◌∙◌}
use mathlib.Core.Bool.{false}
use mathlib.Core.List.{List}
use lib.ListN.{length, take, get_or, set}
use lib.Seq.{ext_get_or, take-suc, get_or-take, length-take-le}
use borrow.Author.Tests.{ltb-false, lt-ltb, le-ltb}
use Rattle.rules.specs.declared.Record.{Record}
use Rattle.rules.specs.Lists.{over}
use Rattle.rules.proofs.Tests.{cases}
use Rattle.rules.proofs.Tables.{over_set, over_same, over_length}
use Rattle.words.specs.Words.{few_words, record_of, words_of, put}

-- the words of a record are that record's, and a record's words are the first nine that it came from
pub record_of_words : (kept : Record) → record_of (words_of kept) ≡ kept
record_of_words kept = refl

word_of : (w : List ℕ) (i : ℕ) → i < 9 → get_or (words_of (record_of w)) i 0 ≡ get_or w i 0
word_of w zero h = refl
word_of w (suc zero) h = refl
word_of w (suc (suc zero)) h = refl
word_of w (suc (suc (suc zero))) h = refl
word_of w (suc (suc (suc (suc zero)))) h = refl
word_of w (suc (suc (suc (suc (suc zero))))) h = refl
word_of w (suc (suc (suc (suc (suc (suc zero)))))) h = refl
word_of w (suc (suc (suc (suc (suc (suc (suc zero))))))) h = refl
word_of w (suc (suc (suc (suc (suc (suc (suc (suc zero)))))))) h = refl
word_of w (suc (suc (suc (suc (suc (suc (suc (suc (suc n))))))))) h = absurd (omega arith)

pub words_of_record : (w : List ℕ) → few_words w ≡ false → words_of (record_of w) ≡ take 9 w
words_of_record w e =
    let n = length-take-le 9 w (ltb-false (length w) 9 e) in
    ext_get_or 0 _ _ (sym n) (λ i h. word_of w i h ∙ sym (get_or-take 9 w i 0 h))

-- the record that the words hold, written back, changes none of them
pub put_same : (w : List ℕ) → put (record_of w) w ≡ w
put_same w = cases (few_words w)
    (λ e. rw e)
    (λ e. rw e (ap (λ (l : List ℕ). over l w) (words_of_record w e) ∙ over_same 9 w (ltb-false (length w) 9 e)))

-- the words that were put are the record's
pub record_of_put : (kept : Record) (w : List ℕ) → few_words w ≡ false → record_of (put kept w) ≡ kept
record_of_put kept w e = rw e

-- and there are as many as before
pub put_length : (kept : Record) (w : List ℕ) → length (put kept w) ≡ length w
put_length kept w = cases (few_words w) (λ e. rw e) (λ e. rw e (over_length (words_of kept) w (ltb-false (length w) 9 e)))

-- one word more of the nine that are written
pub one_more : (new w₀ w : List ℕ) (i : ℕ) → length new ≡ 9 → 9 ≤ length w₀ → i < 9 → w ≡ over (take i new) w₀
    → set w i (get_or new i 0) ≡ over (take (i + 1) new) w₀
one_more new w₀ w i nine long h e =
    let n = length-take-le i new (omega arith) in
    let more : suc i ≡ i + 1 = omega arith in
    ap (λ (l : List ℕ). set l i (get_or new i 0)) e
    ∙ ap (λ (j : ℕ). set (over (take i new) w₀) j (get_or new i 0)) (sym n)
    ∙ over_set (take i new) w₀ (get_or new i 0) (omega (arith, n))
    ∙ ap (λ (l : List ℕ). over l w₀) (sym (take-suc new i 0 (omega arith)) ∙ ap (λ (j : ℕ). take j new) more)

pub put_few : (kept : Record) (w : List ℕ) → length w < 9 → w ≡ put kept w
put_few kept w h = rw (lt-ltb (length w) 9 h)

-- all of them
pub put_all : (kept : Record) (new w₀ w : List ℕ) (i : ℕ) → 9 ≤ length w₀ → i ≡ 9 → new ≡ words_of kept → w ≡ over (take i new) w₀ → w ≡ put kept w₀
put_all kept new w₀ w i h all is e = rw (le-ltb (length w₀) 9 h) (rw (all, is) at e)
