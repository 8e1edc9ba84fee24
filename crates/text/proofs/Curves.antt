-- The curve as an order of refusals: what the answer to point 0 says of it, and of the other points; and a text in a buffer that is judged
-- after the text itself. Assumes nothing.
use Prim.Native.Nat.{ℕ, ◌+◌, ◌≤◌, ◌<◌}
use mathlib.Core.Path.{◌≡◌, refl, sym, ap, ◌∙◌}
use mathlib.Core.Bool.{Bool, true, false, cond}
use mathlib.Core.List.{List, [], ◌∷◌, ◌++◌}
use lib.Dec.{eqb, ltb}
use lib.ListN.{length}
use native.Mathlib.Omega.{arith}
use borrow.Author.Tests.{eqb-true, ltb-true, ltb-false, le-ltb, lt-ltb}
use Rattle.rules.specs.declared.Record.{Record}
use Rattle.rules.specs.declared.Point.{Point}
use Rattle.rules.specs.declared.Refusal.{Refusal}
use Rattle.rules.specs.declared.Refusal.TheVariants as refusal
use Rattle.rules.specs.Lists.{over}
use Rattle.rules.specs.Settings.{Histogram, most_buckets}
use Rattle.rules.specs.Answers.{Result, refused, gives, number}
use Rattle.rules.specs.Order.{outcome, Judged, ◌when◌, says, NoneHolds}
use Rattle.rules.specs.Conditions.{buckets_too_short, torn_record, torn_report}
use Rattle.rules.specs.Calls.{point_on, point_of, own_point}
use Rattle.rules.proofs.Tests.{cases}
use Rattle.rules.proofs.Bounds.{whole}
use Rattle.rules.proofs.Answers.{number_injective}
use Rattle.rules.proofs.Calls.{own_shape_lem}
use Rattle.rules.proofs.Order.{not_both, either, says_given, says_refused, says_accepted}
use Rattle.text.specs.Text.{end_line, empty_line, first_line, lines_to, no_total, curve_text, curve_order, curve_of, Given, Judges}
use Rattle.text.specs.Text.{Adds, longest_curve, in_buffer, curve_in}
use Rattle.text.proofs.Laws.{over_all}

-- ---- the curve and its points

-- what the answer to a point says of the curve: 9 is an empty one, and any other refusal is the curve's
abbrev pub judgement : Result Point → Result Bool
judgement (refused n) = cond (eqb n 9) (gives true) (refused n)
judgement (gives p) = gives false

pub not_empty : (r : Refusal) → (r ≡ refusal.Empty → ⊥) → judgement (refused (number r)) ≡ refused (number r)
not_empty r other = cases (eqb (number r) 9) (λ e. absurd (other (number_injective r refusal.Empty (eqb-true _ _ e)))) (λ e. rw e)

module _ (kept : Record) (g : Histogram) where
  abbrev torn : Bool
  torn = torn_report kept.numbers.references kept.threshold kept.settings.buckets g

  -- a point on the curve is refused as the curve is, or 9 if the total is 0
  own_is : (k : ℕ) → k ≤ kept.settings.buckets
      → own_point kept k g ≡ says (curve_order kept g ++ ((refusal.Empty when no_total kept g) ∷ [])) (point_on kept k g)
  unfolding point_of
  own_is k h = rw (own_shape_lem kept, le-ltb _ _ h)

  pub point_judges : Judges kept g (judgement (own_point kept 0 g))
  point_judges = record {
    is = rw (own_is 0 (omega arith)) (cases (torn_record kept)
        (λ a. rw a)
        (λ a. cases (buckets_too_short kept.settings g)
        (λ b. rw (a, b))
        (λ b. cases torn
        (λ c. rw (a, b, c))
        (λ c. cases (no_total kept g) (λ d. rw (a, b, c, d)) (λ d. rw (a, b, c, d))))));
  }

  -- the text of an empty curve, and of one with points
  pub text_empty : no_total kept g ≡ true → curve_text kept g ≡ first_line kept ++ empty_line
  unfolding curve_text
  text_empty e = rw e

  pub text_points : no_total kept g ≡ false → curve_text kept g ≡ first_line kept ++ (lines_to (kept.settings.buckets + 1) kept g ++ end_line)
  unfolding curve_text
  text_points e = rw e

pub judged_as : {kept : Record} {g : Histogram} {empty b : Bool} → Judges kept g (gives empty) → empty ≡ b → Judges kept g (gives b)
judged_as j e = rw e at j

-- of a curve that is not refused it is known whether its total is 0
module _ {kept : Record} {g : Histogram} {empty : Bool} (j : Judges kept g (gives empty)) where
  none_holds : NoneHolds (curve_order kept g)
  none_holds = says_accepted (curve_order kept g) (no_total kept g) j.is

  pub total_told : no_total kept g ≡ empty
  total_told = let e = sym (says_given (curve_order kept g) (no_total kept g) none_holds) ∙ j.is in cc

  pub curve_given : curve_of kept g ≡ gives (curve_text kept g)
  unfolding curve_of
  curve_given = says_given (curve_order kept g) (curve_text kept g) none_holds

  pub few_buckets : kept.settings.buckets ≤ most_buckets
  few_buckets = (whole kept none_holds.0).range.buckets_high

-- if that is not 0, each point from 0 to B is given
pub each_given : {kept : Record} {g : Histogram} → Judges kept g (gives false) → (k : ℕ) → k ≤ kept.settings.buckets → Given kept k g
each_given {kept} {g} j k h = let w = none_holds j in own_is kept g k h ∙ rw (w.0, w.1.0, w.1.1.0, total_told j)

-- ---- a text in a buffer

module _ (order : List Judged) (needed : ℕ) (text buffer : List ℕ) where
  -- what refuses the text refuses it in any buffer
  in_refused : {A : Type 0} (a : A) {n : ℕ} → says order a ≡ refused n → in_buffer order needed text buffer ≡ outcome (refused n) buffer
  in_refused = refuses order
    where
      refuses : (order : List Judged) {A : Type 0} (a : A) {n : ℕ} → says order a ≡ refused n
          → in_buffer order needed text buffer ≡ outcome (refused n) buffer
      refuses [] a e = absurd (not_both e refl)
      refuses (j ∷ order) a {n} e = cases j.holds
          (λ h. let q = rw h at e in let same : number j.refusal ≡ n = cc in rw (h, same))
          (λ h. rw h (refuses order a (rw h at e)))

  module _ (w : NoneHolds order) where
    in_given : in_buffer order needed text buffer ≡ in_buffer [] needed text buffer
    in_given = goes order w
      where
        goes : (order : List Judged) → NoneHolds order → in_buffer order needed text buffer ≡ in_buffer [] needed text buffer
        goes [] w = refl
        goes (j ∷ order) w = rw w.0 (goes order w.1)

    -- what does not is refused 2 in a buffer that is too short
    pub in_short : length buffer < needed → in_buffer order needed text buffer ≡ outcome (refused 2) buffer
    in_short h = in_given ∙ rw (lt-ltb _ _ h)

    -- and stands over the front of one that is not
    in_long : needed ≤ length buffer → in_buffer order needed text buffer ≡ outcome (gives (length text)) (over text buffer)
    in_long h = in_given ∙ rw (le-ltb _ _ h)

    pub in_room : needed ≤ length buffer → {after : List ℕ} {n : ℕ} → Adds buffer 0 text after n
        → outcome (gives n) after ≡ in_buffer order needed text buffer
    in_room h {after} {n} a =
        let count : n ≡ length text = omega (arith, a.ends) in
        (λ i. outcome (gives (count i)) (over_all a i)) ∙ sym (in_long h)

  -- the other way round: what is filled is the text, with no refusal, over the front
  module _ {after : List ℕ} {n : ℕ} where
    pub in_filled : outcome (gives n) after ≡ in_buffer order needed text buffer
        → NoneHolds order × (outcome (gives n) after ≡ outcome (gives (length text)) (over text buffer))
    in_filled e = let given = sym (ap (λ z. z.result) e) in either order
        (λ w. cases (ltb (length buffer) needed)
        (λ h. absurd (not_both (ap (λ z. z.result) (in_short w (ltb-true _ _ h))) given))
        (λ h. (w, e ∙ in_long w (ltb-false _ _ h))))
        (λ i f. absurd (not_both (ap (λ z. z.result) (in_refused n (says_refused i order n f))) given))

    -- and what is refused for no lack of room is what refuses the text
    pub in_unfilled : {A : Type 0} (a : A) → (NoneHolds order → needed ≤ length buffer)
        → outcome (refused n) after ≡ in_buffer order needed text buffer → (says order a ≡ refused n) × (after ≡ buffer)
    in_unfilled a room e = either order
        (λ w. absurd (not_both (sym (ap (λ z. z.result) e)) (ap (λ z. z.result) (in_long w (room w)))))
        (λ i f.
        let said = says_refused i order a f in
        let same = e ∙ in_refused a said in
        let number = ap (λ z. z.result) same in
        ((cc), ap (λ z. z.left) same))

module _ {kept : Record} {g : Histogram} (buffer : List ℕ) where
  pub curve_refused : {n : ℕ} → Judges kept g (refused n) → outcome (refused n) buffer ≡ curve_in kept g buffer
  unfolding curve_in
  curve_refused j = sym (in_refused (curve_order kept g) _ (curve_text kept g) buffer (no_total kept g) j.is)

  module _ {empty : Bool} (j : Judges kept g (gives empty)) where
    pub curve_short : length buffer < longest_curve kept.settings.buckets → outcome (refused 2) buffer ≡ curve_in kept g buffer
    unfolding curve_in
    curve_short h = sym (in_short (curve_order kept g) _ (curve_text kept g) buffer (none_holds j) h)

    in_curve : longest_curve kept.settings.buckets ≤ length buffer → {text after : List ℕ} {n : ℕ} → curve_text kept g ≡ text
        → Adds buffer 0 text after n → outcome (gives n) after ≡ curve_in kept g buffer
    unfolding curve_in
    in_curve h e a = in_room (curve_order kept g) _ (curve_text kept g) buffer (none_holds j) h (rw e a)

  -- where it has room, the curve stands at the front: an empty one, or one with points
  module _ (h : longest_curve kept.settings.buckets ≤ length buffer) {after : List ℕ} {n : ℕ} where
    pub empty_curve : Judges kept g (gives true) → Adds buffer 0 (first_line kept ++ empty_line) after n
        → outcome (gives n) after ≡ curve_in kept g buffer
    empty_curve j a = in_curve j h (text_empty kept g (total_told j)) a

    pub points_curve : Judges kept g (gives false)
        → Adds buffer 0 (first_line kept ++ (lines_to (kept.settings.buckets + 1) kept g ++ end_line)) after n
        → outcome (gives n) after ≡ curve_in kept g buffer
    points_curve j a = in_curve j h (text_points kept g (total_told j)) a
