-- Demand 1. An event but a span has the order of the call that it stands for, so (a) and (b) are `Order`'s laws, and a span is judged reference
-- by reference; (c) is three cases of the point's call. The one exception: of trackers that agree, each call's order, its step and what it leaves
-- are made of the same parts, so they agree again.
-- Assumes nothing.
use Prim.Native.Nat.{ℕ, ◌+◌, ◌-◌}
use mathlib.Core.Path.{◌≡◌, refl, sym, ap, subst, subst₂, ◌∙◌}
use mathlib.Core.Bool.{true, false, cond, not, ◌||◌}
use mathlib.Core.List.{List, [], ◌∷◌}
use lib.Dec.{eqb, ltb}
use lib.ListN.{length, length-append, length-drop}
use borrow.Author.Tests.{eqb-true}
use Rattle.rules.specs.declared.Settings.{Settings}
use Rattle.rules.specs.declared.Record.{Record}
use Rattle.rules.specs.declared.Shape.{Shape}
use Rattle.rules.specs.declared.Refusal.TheVariants as refusal
use Rattle.std.specs.Prelude.{Err}
use Rattle.rules.specs.declared.Event.{Event}
use Rattle.rules.specs.declared.Event.TheVariants.{Location, Span, Restart, Setup}
use Rattle.rules.specs.Lists.{over}
use Rattle.rules.specs.Settings.{Histogram, Tables, with_defaults, out_of_range}
use Rattle.rules.specs.Reference.{under, first_place, bucket_for, step}
use Rattle.rules.specs.declared.Reply.{Reply}
use Rattle.rules.specs.Answers.{Result, refused, gives, number}
use Rattle.rules.specs.Order.{Outcome, Judged, ◌when◌, says, leaves}
use Rattle.rules.specs.Events.{settings_of, references_of, overrun}
use Rattle.rules.specs.Layout.{Tracker, hash_for, profile_of, counted, stored, fresh_buckets, fresh_tables, fresh_record, fresh}
use Rattle.rules.specs.Conditions.{buckets_too_short, too_short, torn_record, torn_at, torn_for, full, stale}
use Rattle.rules.specs.Calls.{setup_order, setup_of, restart_order, restart_of, step_of, refer_order, refer_of, going_on, refer_all}
use Rattle.rules.specs.Calls.{point_of, plot_of, apply_of}
use Rattle.rules.specs.History.{Reference}
use Rattle.rules.proofs.Tests.{cases, clash, or_left, or_right}
use Rattle.rules.proofs.Order.{not_both, either, says_given, says_refused, leaves_was, leaves_both, says_before, says_behind, says_some}
use Rattle.rules.proofs.Answers.{result_injective}
use Rattle.rules.proofs.Bounds.{buckets_none_short}
use Rattle.rules.proofs.Calls.{started_is, refer_accept, refer_either, sample_stored, point_torn, point_short, point_stale, plot_is}
use Rattle.rules.proofs.Calls.{plotted as plotted-as}
use Rattle.rules.proofs.Spans.{all_on, all_refused, all_none, span_overrun, span_refers}
use Rattle.demands.specs.Refusing.{is_span, Untouched, InOrder, NeverZero, refer_all_order, apply_order, ApplyInOrder}
use Rattle.demands.specs.Refusing.{AnotherShape, RefusedAs, stale_or}
use Rattle.demands.specs.Refusing.{StaleByName, StaleInARun}
use Rattle.demands.specs.Refusing.{Agree, AgreeAgain}
use Rattle.demands.specs.Runs.{Run}
use Rattle.demands.proofs.Invariant.{invariant}

-- ---- an event but a span is one call

abbrev apply_after : Event → Tracker → Tracker
apply_after (Location x) s = stored (step_of x s) s
apply_after (Span offset bytes) s = s
apply_after Restart s = fresh s.kept.settings s.tables
apply_after (Setup b) s = fresh (with_defaults (settings_of b)) s.tables

one_is : (order : List Judged) (r : Reply) (l : Tracker)
    → going_on (says order r) l (record { result = gives tt; left = l }) ≡ record { result = says order tt; left = l }
one_is [] r l = refl
one_is (j ∷ order) r l = cases j.holds (λ h. rw h) (λ h. rw h (one_is order r l))

apply_is : (e : Event) (s : Tracker) → is_span e ≡ false
    → apply_of e s ≡ record { result = says (apply_order e s) tt; left = leaves (apply_order e s) s (apply_after e s) }
unfolding apply_of refer_all refer_of restart_of setup_of
apply_is (Location x) s one = one_is (refer_order x s) (step_of x s).reply (leaves (refer_order x s) s (stored (step_of x s) s))
apply_is (Span offset bytes) s one = clash refl one
apply_is Restart s one = let set = s.kept.settings in
    started_is (restart_order s.kept s.tables) s.kept (fresh_record set) s.tables (fresh_tables set s.tables)
apply_is (Setup b) s one = let set = with_defaults (settings_of b) in
    started_is (setup_order (settings_of b) s.tables) s.kept (fresh_record set) s.tables (fresh_tables set s.tables)

-- ---- (a)

pub untouched : Untouched
untouched = record {
  by_the_order = leaves_was;
  by_apply =
      λ e s n one r. ap (λ o. o.left) (apply_is e s one)
      ∙ leaves_was (apply_order e s) tt s (apply_after e s) n (sym (ap (λ o. o.result) (apply_is e s one)) ∙ r);
}

-- ---- (b)

pub in_order : InOrder
in_order = record {
  only_so = λ order a n e. either order
      (λ w. absurd (not_both e (says_given order a w)))
      (λ i f. record { place = i; first = f; numbered = (let q = says_refused i order a f in cc) });
  always_so = λ order a n x. says_refused x.place order a x.first ∙ ap refused x.numbered;
  or_given = says_given;
}

pub never_zero : NeverZero
never_zero A order a = says_some order a

-- each reference is judged by its own order, on what those before it left
all_in_order : (xs : List Reference) (s : Tracker) → (refer_all xs s).result ≡ says (refer_all_order xs s) tt
unfolding refer_of
all_in_order [] s = ap (λ o. o.result) (all_none s)
all_in_order (x ∷ xs) s = refer_either x s
    (λ a. let is = refer_accept x s a in
    ap (λ o. o.result) (all_on x xs s is) ∙ all_in_order xs (stored (step_of x s) s)
    ∙ ap (λ l. says (refer_all_order xs l) tt) (sym (ap (λ o. o.left) is))
    ∙ sym (says_behind (refer_order x s) (refer_all_order xs (refer_of x s).left) tt
    (a.record_whole, (a.tables_long, (a.room, (a.bucket_sound, tt))))))
    (λ n e. ap (λ o. o.result) (all_refused x xs s e)
    ∙ sym (says_before (refer_order x s) (refer_all_order xs (refer_of x s).left) (step_of x s).reply tt (ap (λ o. o.result) e)))

pub apply_in_order : ApplyInOrder
unfolding apply_of
apply_in_order (Location x) s = ap (λ o. o.result) (apply_is (Location x) s refl)
apply_in_order (Span offset bytes) s = cases (overrun offset bytes)
    (λ o. rw (o, span_overrun offset bytes s o))
    (λ o. rw (o, span_refers offset bytes s o) (all_in_order (references_of (Span offset bytes)) s))
apply_in_order Restart s = ap (λ o. o.result) (apply_is Restart s refl)
apply_in_order (Setup b) s = ap (λ o. o.result) (apply_is (Setup b) s refl)

-- no event is refused 0
pub apply_some : (e : Event) (s : Tracker) → (apply_of e s).result ≡ refused 0 → ⊥
apply_some e s r = says_some (apply_order e s) tt (sym (apply_in_order e s) ∙ r)

-- ---- (c)

module _ (kept : Record) (believed : Shape) (n : ℕ) (g : Histogram) where
  differs : AnotherShape believed kept.settings → stale believed kept.settings ≡ true
  differs d = cases (eqb believed.buckets kept.settings.buckets)
      (λ b. cases (eqb believed.width kept.settings.width)
      (λ w. absurd (d (eqb-true _ _ b) (eqb-true _ _ w)))
      (λ w. or_right (not (eqb believed.buckets kept.settings.buckets)) _ (ap not w)))
      (λ b. or_left (not (eqb believed.buckets kept.settings.buckets)) _ (ap not b))

  pub stale_says : AnotherShape believed kept.settings → point_of kept believed n g ≡ refused (number (stale_or kept g))
  stale_says d = cases (torn_record kept)
      (λ e. point_torn kept believed n g e ∙ rw e)
      (λ e. cases (buckets_too_short kept.settings g)
      (λ f. point_short kept believed n g e f ∙ rw (e, f))
      (λ f. point_stale kept believed n g e f (differs d) ∙ rw (e, f)))

  -- of the pair of doubles too
  pub stale_plots : AnotherShape believed kept.settings → plot_of kept believed n g ≡ refused (number (stale_or kept g))
  stale_plots d = sym (plot_is kept believed n g) ∙ ap plotted-as (stale_says d)

-- a refusal by number is one by name
pub stale_by_name : StaleByName
stale_by_name kept believed n g d = let why = stale_or kept g in record {
  point = λ answer p. result_injective answer (Err why) (p ∙ stale_says kept believed n g d);
  plotted = λ answer p. result_injective answer (Err why) (p ∙ stale_plots kept believed n g d);
}

-- nothing is torn and no table short in what a run left
pub only_stale : {past : List Reference} {s : Tracker} → Run past s → stale_or s.kept s.tables.histogram ≡ refusal.Stale
only_stale {s = s} run =
    let v = invariant run in
    rw (v.record_whole, buckets_none_short s.kept.settings s.tables v.tables_long)

pub stale_in_a_run : StaleInARun
stale_in_a_run past s run believed n d = subst (λ why. RefusedAs why s.kept believed n s.tables.histogram) (only_stale run)
    (stale_by_name s.kept believed n s.tables.histogram d)

-- ---- the one exception

over_lengths : (l a b : List ℕ) → length a ≡ length b → length (over l a) ≡ length (over l b)
over_lengths l a b e = simp (length-append, length-drop) (ap (λ n. length l + (n - length l)) e)

-- two calls that answer the same, and leave what agrees
abbrev BothAlike : Outcome (Unit {0}) Tracker → Outcome (Unit {0}) Tracker → Type 0
BothAlike o p = (o.result ≡ p.result) × Agree o.left p.left

module _ (s t : Tracker) (a : Agree s t) where
  same_settings : s.kept.settings ≡ t.kept.settings
  same_settings = ap (λ kept. kept.settings) a.same_record

  short : (set set' : Settings) → set ≡ set' → too_short set s.tables ≡ too_short set' t.tables
  short set set' e = λ i. ltb (a.same_length i) (e i).limit || buckets_too_short (e i) (a.same_buckets i)

  -- one step depends on nothing else
  same_step : (x : ℕ) → step_of x s ≡ step_of x t
  same_step x = λ i. let kept = a.same_record i in
      step (hash_for kept.settings) kept.settings.limit (profile_of kept.settings) x
      (record { threshold = kept.threshold; live = a.same_list i; histogram = a.same_buckets i })

  same_torn : (x : ℕ) → torn_for x s ≡ torn_for x t
  same_torn x = λ i. let kept = a.same_record i in
      cond (under (hash_for kept.settings) kept.threshold x)
      (torn_at kept.numbers.references kept.threshold (bucket_for (profile_of kept.settings) kept.threshold (first_place x (a.same_list i)))
      (a.same_buckets i)) false

  stored_agree : (x : ℕ) → Agree (stored (step_of x s) s) (stored (step_of x t) t)
  stored_agree x = record {
    same_record =
        λ i. record {
          settings = (a.same_record i).settings;
          threshold = (same_step x i).left.threshold;
          live = length (same_step x i).left.live;
          numbers = counted (same_step x i).reply (a.same_record i).numbers;
        };
    same_buckets = ap (λ r. r.left.histogram) (same_step x);
    same_list =
        ap (λ z. z.live) (sample_stored (step_of x s) s) ∙ ap (λ r. r.left.live) (same_step x)
        ∙ sym (ap (λ z. z.live) (sample_stored (step_of x t) t));
    same_length =
        ap (λ r. length (over r.left.live s.tables.locations)) (same_step x)
        ∙ over_lengths (step_of x t).left.live s.tables.locations t.tables.locations a.same_length;
  }

  -- fresh starts of the same settings agree
  fresh_alike : (set set' : Settings) → set ≡ set' → Agree (fresh set s.tables) (fresh set' t.tables)
  fresh_alike set set' e = record {
    same_record = ap fresh_record e;
    same_buckets = λ i. fresh_buckets (e i) (a.same_buckets i);
    same_list = refl;
    same_length = a.same_length;
  }

  -- each call judges alike
  refer_order_lem : (x : ℕ) → refer_order x s ≡ refer_order x t
  refer_order_lem x = λ i. let kept = a.same_record i in
      (refusal.Torn when torn_record kept) ∷ (refusal.Tables when short _ _ same_settings i) ∷ (refusal.Full when full kept.numbers)
      ∷ (refusal.Torn when same_torn x i) ∷ []

  restart_order_lem : restart_order s.kept s.tables ≡ restart_order t.kept t.tables
  restart_order_lem = λ i. (refusal.Torn when torn_record (a.same_record i)) ∷ (refusal.Tables when short _ _ same_settings i) ∷ []

  setup_order_lem : (given : Settings) → setup_order given s.tables ≡ setup_order given t.tables
  setup_order_lem given = λ i. (refusal.Settings when out_of_range (with_defaults given)) ∷ (refusal.Tables when short (with_defaults given) _ refl i) ∷ []

  -- and so agree in what they leave
  left_agree : (order order' : List Judged) (u v : Tracker) → order ≡ order' → Agree u v → Agree (leaves order s u) (leaves order' t v)
  left_agree order order' u v e b = leaves_both Agree order order' s u t v e a b

  buckets_agree : (order order' : List Judged) (set set' : Settings) → order ≡ order' → set ≡ set'
      → (leaves order s.tables (fresh_tables set s.tables)).histogram ≡ (leaves order' t.tables (fresh_tables set' t.tables)).histogram
  buckets_agree order order' set set' e f = leaves_both (λ u v. u.histogram ≡ v.histogram) order order'
      s.tables (fresh_tables set s.tables) t.tables (fresh_tables set' t.tables) e a.same_buckets
      (λ i. fresh_buckets (f i) (a.same_buckets i))

  -- a reference
  refer_says : (x : ℕ) → (refer_of x s).result ≡ (refer_of x t).result
  unfolding refer_of
  refer_says x = λ i. says (refer_order_lem x i) (same_step x i).reply

  refer_leaves : (x : ℕ) → Agree (refer_of x s).left (refer_of x t).left
  unfolding refer_of
  refer_leaves x = left_agree (refer_order x s) (refer_order x t) _ _ (refer_order_lem x) (stored_agree x)

  -- an event that is one call, by its order and by what it leaves where it is accepted
  one_alike : (e : Event) → is_span e ≡ false → apply_order e s ≡ apply_order e t → Agree (apply_after e s) (apply_after e t)
      → BothAlike (apply_of e s) (apply_of e t)
  one_alike e one order after = (
    ap (λ o. o.result) (apply_is e s one) ∙ ap (λ l. says l tt) order ∙ sym (ap (λ o. o.result) (apply_is e t one)),
    subst₂ Agree (sym (ap (λ o. o.left) (apply_is e s one))) (sym (ap (λ o. o.left) (apply_is e t one))) (left_agree _ _ _ _ order after),
  )

-- references one after the other: each is answered alike, and what it leaves agrees again
going_alike : (r : Result Reply) (l k : Tracker) (o p : Outcome (Unit {0}) Tracker) → Agree l k → BothAlike o p
    → BothAlike (going_on r l o) (going_on r k p)
going_alike (refused n) l k o p a b = (refl, a)
going_alike (gives reply) l k o p a b = b

all_alike : (xs : List Reference) (s t : Tracker) → Agree s t → BothAlike (refer_all xs s) (refer_all xs t)
unfolding refer_all
all_alike [] s t a = (refl, a)
all_alike (x ∷ xs) s t a =
    let l = (refer_of x s).left in
    let k = (refer_of x t).left in
    subst (λ r. BothAlike (refer_all (x ∷ xs) s) (going_on r k (refer_all xs k))) (refer_says s t a x)
    (going_alike (refer_of x s).result l k (refer_all xs l) (refer_all xs k) (refer_leaves s t a x) (all_alike xs l k (refer_leaves s t a x)))

apply_alike : (e : Event) (s t : Tracker) → Agree s t → BothAlike (apply_of e s) (apply_of e t)
unfolding apply_of
apply_alike (Location x) s t a = all_alike (x ∷ []) s t a
apply_alike (Span offset bytes) s t a = cases (overrun offset bytes)
    (λ o. rw (span_overrun offset bytes s o, span_overrun offset bytes t o) (refl, a))
    (λ o. rw (span_refers offset bytes s o, span_refers offset bytes t o) (all_alike (references_of (Span offset bytes)) s t a))
apply_alike Restart s t a = one_alike s t a Restart refl (restart_order_lem s t a) (fresh_alike s t a _ _ (same_settings s t a))
apply_alike (Setup b) s t a = one_alike s t a (Setup b) refl (setup_order_lem s t a (settings_of b)) (fresh_alike s t a _ _ refl)

pub agree_again : AgreeAgain
unfolding setup_of restart_of
agree_again s t a = record {
  refer_says = refer_says s t a;
  refer_leaves = refer_leaves s t a;
  restart_says = λ i. says (restart_order_lem s t a i) (fresh_record (same_settings s t a i));
  restart_leaves = buckets_agree s t a _ _ _ _ (restart_order_lem s t a) (same_settings s t a);
  setup_says = λ given i. says (setup_order_lem s t a given i) (fresh_record (with_defaults given));
  setup_leaves = λ given. buckets_agree s t a _ _ (with_defaults given) _ (setup_order_lem s t a given) refl;
  apply_says = λ e. (apply_alike e s t a).0;
  apply_leaves = λ e. (apply_alike e s t a).1;
}
