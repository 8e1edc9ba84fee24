-- The calls, case by case: what each answers and leaves where a test holds, and what an accepted one leaves. Each call is an order of refusals,
-- so its cases are `Order`'s laws at the place of the first test that holds. Assumes nothing.
use Prim.Native.Nat.{ℕ, ◌+◌, ◌≤◌}
use mathlib.Core.Path.{◌≡◌, refl, ap}
use mathlib.Core.Bool.{true, false}
use mathlib.Core.List.{List, [], ◌∷◌}
use Rattle.std.specs.Prelude.{Option, Some, None}
use native.Mathlib.Omega.{arith}
use lib.ListN.{length, length-take}
use lib.Dec.{ltb, eqb}
use borrow.Author.Tests.{ltb-true, ltb-false, eqb-false, eq-eqb}
use Rattle.rules.specs.declared.Settings.{Settings}
use Rattle.rules.specs.declared.Numbers.{Numbers}
use Rattle.rules.specs.declared.Record.{Record}
use Rattle.rules.specs.declared.Shape.{Shape}
use Rattle.rules.specs.declared.Point.{Point}
use Rattle.rules.specs.declared.PlotPoint.{PlotPoint}
use Rattle.rules.specs.Lists.{has, upto}
use Rattle.rules.specs.Settings.{with_defaults, out_of_range, Histogram, Tables, needed, most_references}
use Rattle.rules.specs.Reference.{Sample, Profile, under, lowered, record_in, bucket_for, within_limit, Stepped, step}
use Rattle.rules.specs.declared.Reply.{Reply}
use Rattle.rules.specs.declared.Reply.TheVariants.{Skipped, First, Again}
use Rattle.rules.specs.Curve.{total_of, plot_point}
use Rattle.rules.specs.Answers.{refused, gives, Result}
use Rattle.rules.specs.Order.{FirstAt, refusal_at, outcome, Outcome, says, leaves, Judged}
use Rattle.rules.specs.Layout.{Tracker, sample_of, hash_for, profile_of, counted, stored, fresh_tables, fresh_record}
use Rattle.rules.specs.Conditions.{buckets_too_short, too_short, torn_record, torn_report, torn_for, full, stale}
use Rattle.rules.specs.Calls.{setup_order, setup_of, restart_order, restart_of, started_over, step_of, refer_order, refer_of, point_order, point_of}
use Rattle.rules.specs.Calls.{point_on, own_shape, plot_of}
use Rattle.rules.proofs.Tests.{cases}
use Rattle.rules.proofs.Order.{not_both, either, says_refused, leaves_first, says_accepted}
use Rattle.rules.proofs.Lists.{length_erase}
use Rattle.rules.proofs.Tables.{over_front, over_length}
use Rattle.rules.proofs.Buckets.{Long, long_record}
use Rattle.rules.proofs.Bounds.{Whole, whole, untorn, AllLong, all_long, none_short}
use Rattle.rules.proofs.Steps.{step_skipped, step_again, step_first, within_limit_histogram, largest_leaves}
use Rattle.rules.proofs.Clean.{step_falls}

-- ---- setup and restart

-- what an accepted start leaves: a fresh start under settings in range, with tables long enough
pub record Begins (s : Settings) (t : Tables) (b : Outcome Record Tables) : Type 0 where
  pub range : out_of_range s ≡ false
  pub long : too_short s t ≡ false
  pub is : b ≡ record { result = gives (fresh_record s); left = fresh_tables s t }

module _ (s : Settings) (t : Tables) where
  setup_refused : (i : ℕ) → FirstAt i (setup_order s t) → setup_of s t ≡ record { result = refused (refusal_at i (setup_order s t)); left = t }
  unfolding setup_of
  setup_refused n f = let order = setup_order s t in let set = with_defaults s in
      λ i. record { result = says_refused n order (fresh_record set) f i; left = leaves_first n order t (fresh_tables set t) f i }

  pub setup_range : out_of_range (with_defaults s) ≡ true → setup_of s t ≡ record { result = refused 1; left = t }
  setup_range e = setup_refused 0 e

  pub setup_short : out_of_range (with_defaults s) ≡ false → too_short (with_defaults s) t ≡ true → setup_of s t ≡ record { result = refused 2; left = t }
  setup_short e f = setup_refused 1 (e, f)

  pub setup_accept : out_of_range (with_defaults s) ≡ false → too_short (with_defaults s) t ≡ false
      → setup_of s t ≡ record { result = gives (fresh_record (with_defaults s)); left = fresh_tables (with_defaults s) t }
  unfolding setup_of
  setup_accept e f = rw (e, f)

  -- either nothing refuses it, or it is refused and leaves the tables as they were
  pub setup_either : {C : Type 0} → (Begins (with_defaults s) t (setup_of s t) → C)
      → ((n : ℕ) → setup_of s t ≡ record { result = refused n; left = t } → C) → C
  setup_either accept refuse = either (setup_order s t)
      (λ w. accept (record { range = w.0; long = w.1.0; is = setup_accept w.0 w.1.0 }))
      (λ i f. refuse (refusal_at i (setup_order s t)) (setup_refused i f))

  pub setup_begins : (kept : Record) → (setup_of s t).result ≡ gives kept → Begins (with_defaults s) t (setup_of s t)
  setup_begins kept a = setup_either (λ w. w) (λ n e. absurd (not_both (ap (λ b. b.result) e) a))

module _ (kept : Record) (t : Tables) where
  restart_refused : (i : ℕ) → FirstAt i (restart_order kept t)
      → restart_of kept t ≡ record { result = refused (refusal_at i (restart_order kept t)); left = t }
  unfolding restart_of
  restart_refused n f = let order = restart_order kept t in let set = kept.settings in
      λ i. record { result = says_refused n order (fresh_record set) f i; left = leaves_first n order t (fresh_tables set t) f i }

  pub restart_torn : torn_record kept ≡ true → restart_of kept t ≡ record { result = refused 3; left = t }
  restart_torn e = restart_refused 0 e

  pub restart_short : torn_record kept ≡ false → too_short kept.settings t ≡ true → restart_of kept t ≡ record { result = refused 2; left = t }
  restart_short e f = restart_refused 1 (e, f)

  pub restart_accept : torn_record kept ≡ false → too_short kept.settings t ≡ false
      → restart_of kept t ≡ record { result = gives (fresh_record kept.settings); left = fresh_tables kept.settings t }
  unfolding restart_of
  restart_accept e f = rw (e, f)

  pub restart_either : {C : Type 0} → (Begins kept.settings t (restart_of kept t) → C)
      → ((n : ℕ) → restart_of kept t ≡ record { result = refused n; left = t } → C) → C
  restart_either accept refuse = either (restart_order kept t)
      (λ w. accept (record { range = (whole kept w.0).settings_whole; long = w.1.0; is = restart_accept w.0 w.1.0 }))
      (λ i f. refuse (refusal_at i (restart_order kept t)) (restart_refused i f))

  pub restart_begins : (j : Record) → (restart_of kept t).result ≡ gives j → Begins kept.settings t (restart_of kept t)
  restart_begins j a = restart_either (λ w. w) (λ n e. absurd (not_both (ap (λ b. b.result) e) a))

-- over a tracker, a start is refused as it is alone, and then leaves the record
pub started_is : (order : List Judged) (kept r : Record) (t u : Tables) → started_over kept (says order r) (leaves order t u)
    ≡ record { result = says order tt; left = leaves order (record { kept = kept; tables = t }) (record { kept = r; tables = u }) }
started_is [] kept r t u = refl
started_is (j ∷ order) kept r t u = cases j.holds (λ h. rw h) (λ h. rw h (started_is order kept r t u))

-- ---- a reference

-- nothing refuses it
pub record Accepted (x : ℕ) (s : Tracker) : Type 0 where
  pub record_whole : torn_record s.kept ≡ false
  pub tables_long : too_short s.kept.settings s.tables ≡ false
  pub room : full s.kept.numbers ≡ false
  pub bucket_sound : torn_for x s ≡ false

module _ (x : ℕ) (s : Tracker) where
  refer_refused : (i : ℕ) → FirstAt i (refer_order x s) → refer_of x s ≡ outcome (refused (refusal_at i (refer_order x s))) s
  unfolding refer_of
  refer_refused n f = let order = refer_order x s in
      λ i. record { result = says_refused n order (step_of x s).reply f i; left = leaves_first n order s (stored (step_of x s) s) f i }

  pub refer_torn : torn_record s.kept ≡ true → refer_of x s ≡ outcome (refused 3) s
  refer_torn e = refer_refused 0 e

  module _ (e : torn_record s.kept ≡ false) where
    pub refer_short : too_short s.kept.settings s.tables ≡ true → refer_of x s ≡ outcome (refused 2) s
    refer_short f = refer_refused 1 (e, f)

    module _ (f : too_short s.kept.settings s.tables ≡ false) where
      pub refer_full : full s.kept.numbers ≡ true → refer_of x s ≡ outcome (refused 4) s
      refer_full g = refer_refused 2 (e, (f, g))

      pub refer_bucket : full s.kept.numbers ≡ false → torn_for x s ≡ true → refer_of x s ≡ outcome (refused 3) s
      refer_bucket g h = refer_refused 3 (e, (f, (g, h)))

  pub refer_accept : Accepted x s → refer_of x s ≡ record { result = gives (step_of x s).reply; left = stored (step_of x s) s }
  unfolding refer_of
  refer_accept a = rw (a.record_whole, a.tables_long, a.room, a.bucket_sound)

  -- either nothing refuses it, or it is refused and leaves all as it was
  pub refer_either : {C : Type 0} → (Accepted x s → C) → ((n : ℕ) → refer_of x s ≡ outcome (refused n) s → C) → C
  refer_either accept refuse = either (refer_order x s)
      (λ w. accept (record { record_whole = w.0; tables_long = w.1.0; room = w.1.1.0; bucket_sound = w.1.1.1.0 }))
      (λ i f. refuse (refusal_at i (refer_order x s)) (refer_refused i f))

  pub refer_accepted : (r : Reply) → (refer_of x s).result ≡ gives r → Accepted x s
  refer_accepted r a = refer_either (λ w. w) (λ n e. absurd (not_both (ap (λ o. o.result) e) a))

-- ---- a point

-- nothing refuses it
pub record Answered (kept : Record) (believed : Shape) (n : ℕ) (g : Histogram) : Type 0 where
  pub record_whole : torn_record kept ≡ false
  pub buckets_long : buckets_too_short kept.settings g ≡ false
  pub shape_same : stale believed kept.settings ≡ false
  pub on_curve : ltb kept.settings.buckets n ≡ false
  pub report_whole : torn_report kept.numbers.references kept.threshold kept.settings.buckets g ≡ false
  pub some_total : eqb (total_of kept.threshold kept.settings.buckets g) 0 ≡ false

module _ (kept : Record) (believed : Shape) (n : ℕ) (g : Histogram) where
  point_refused : (i : ℕ) → FirstAt i (point_order kept believed n g)
      → point_of kept believed n g ≡ refused (refusal_at i (point_order kept believed n g))
  unfolding point_of
  point_refused i f = says_refused i (point_order kept believed n g) (point_on kept n g) f

  pub point_torn : torn_record kept ≡ true → point_of kept believed n g ≡ refused 3
  point_torn e = point_refused 0 e

  module _ (e : torn_record kept ≡ false) where
    pub point_short : buckets_too_short kept.settings g ≡ true → point_of kept believed n g ≡ refused 2
    point_short f = point_refused 1 (e, f)

    module _ (f : buckets_too_short kept.settings g ≡ false) where
      pub point_stale : stale believed kept.settings ≡ true → point_of kept believed n g ≡ refused 5
      point_stale h = point_refused 2 (e, (f, h))

      module _ (h : stale believed kept.settings ≡ false) where
        pub point_number : ltb kept.settings.buckets n ≡ true → point_of kept believed n g ≡ refused 6
        point_number l = point_refused 3 (e, (f, (h, l)))

        module _ (l : ltb kept.settings.buckets n ≡ false) where
          pub point_buckets : torn_report kept.numbers.references kept.threshold kept.settings.buckets g ≡ true
              → point_of kept believed n g ≡ refused 3
          point_buckets t = point_refused 4 (e, (f, (h, (l, t))))

          module _ (t : torn_report kept.numbers.references kept.threshold kept.settings.buckets g ≡ false) where
            pub point_empty : eqb (total_of kept.threshold kept.settings.buckets g) 0 ≡ true → point_of kept believed n g ≡ refused 9
            point_empty z = point_refused 5 (e, (f, (h, (l, (t, z)))))

  pub point_given : Answered kept believed n g → point_of kept believed n g ≡ gives (point_on kept n g)
  unfolding point_of
  point_given a = rw (a.record_whole, a.buckets_long, a.shape_same, a.on_curve, a.report_whole, a.some_total)

  pub point_accepted : {p : Point} → point_of kept believed n g ≡ gives p → Answered kept believed n g
  unfolding point_of
  point_accepted e = let w = says_accepted (point_order kept believed n g) (point_on kept n g) e in
      let v = w.1.1.1 in
      record {
        record_whole = w.0;
        buckets_long = w.1.0;
        shape_same = w.1.1.0;
        on_curve = v.0;
        report_whole = v.1.0;
        some_total = v.1.1.0;
      }

-- the record's own shape is never stale
pub own_shape_lem : (kept : Record) → stale (own_shape kept) kept.settings ≡ false
own_shape_lem kept = rw (eq-eqb kept.settings.buckets _ refl, eq-eqb kept.settings.width _ refl)

-- ---- a point as a pair of doubles: the point's answer, with its value changed

abbrev pub plotted : Result Point → Result PlotPoint
plotted (refused n) = refused n
plotted (gives p) = gives (plot_point p)

plotted_says : (order : List Judged) (p : Point) → plotted (says order p) ≡ says order (plot_point p)
plotted_says [] p = refl
plotted_says (j ∷ order) p = cases j.holds (λ h. rw h) (λ h. rw h (plotted_says order p))

pub plot_is : (kept : Record) (believed : Shape) (n : ℕ) (g : Histogram) → plotted (point_of kept believed n g) ≡ plot_of kept believed n g
unfolding point_of plot_of
plot_is kept believed n g = plotted_says (point_order kept believed n g) (point_on kept n g)

-- ---- what an accepted reference leaves

-- where the tables say the list and the buckets stand, the step is read back
pub sample_stored : (r : Stepped) (s : Tracker) → sample_of (stored r s) ≡ r.left
sample_stored r s =
    λ i. record { threshold = r.left.threshold; live = over_front r.left.live s.tables.locations i; histogram = r.left.histogram }

within_limit_length : (hash : ℕ → ℕ) (limit t : ℕ) (l : List ℕ) (g : Histogram) → length l ≤ limit + 1
    → length (within_limit hash limit t l g).live ≤ limit
unfolding within_limit
within_limit_length hash limit t l g h = cases (ltb limit (length l))
    (λ o. rw o (omega (arith, largest_leaves hash (lowered hash t l) l (omega (arith, ltb-true limit (length l) o)) (omega arith))))
    (λ o. rw o (ltb-false limit (length l) o))

-- if at most the limit were live, at most the limit are, whatever the list holds
pub step_live : (hash : ℕ → ℕ) (limit : ℕ) (f : Profile) (x : ℕ) (s : Sample) → length s.live ≤ limit
    → length (step hash limit f x s).left.live ≤ limit
step_live hash limit f x s h = cases (under hash s.threshold x)
    (λ e. cases (has x s.live)
    (λ m. rw (step_again hash limit f x s e m) (omega (arith, length_erase x s.live m)))
    (λ m. rw (step_first hash limit f x s e m) (within_limit_length hash limit s.threshold (x ∷ s.live) _ (omega arith))))
    (λ e. rw (step_skipped hash limit f x s e) h)

-- one reference leaves the buckets as they were, or records in one of them
pub step_buckets : (P : Histogram → Type 0) (hash : ℕ → ℕ) (limit : ℕ) (f : Profile) (x : ℕ) (s : Sample) → P s.histogram
    → ((place : Option ℕ) → P (record_in s.threshold (bucket_for f s.threshold place) s.histogram))
    → P (step hash limit f x s).left.histogram
step_buckets P hash limit f x s same one = cases (under hash s.threshold x)
    (λ e. cases (has x s.live)
    (λ m. rw (step_again hash limit f x s e m) (one (Some (length (upto x s.live)))))
    (λ m. rw (step_first hash limit f x s e m, within_limit_histogram hash limit s.threshold (x ∷ s.live)) (one None)))
    (λ e. rw (step_skipped hash limit f x s e) same)

pub counted_references : (r : Reply) (n : Numbers) → (counted r n).references ≡ n.references + 1
counted_references Skipped n = refl
counted_references First n = refl
counted_references (Again d) n = refl

counted_sampled : (r : Reply) (n : Numbers) → n.sampled ≤ n.references → (counted r n).sampled ≤ n.references + 1
counted_sampled Skipped n h = omega arith
counted_sampled First n h = omega arith
counted_sampled (Again d) n h = omega arith

module _ (x : ℕ) (s : Tracker) (a : Accepted x s) where
  abbrev kept : Record
  kept = s.kept

  record_bounds : Whole kept
  record_bounds = whole kept a.record_whole

  tables_bounds : AllLong kept.settings s.tables
  tables_bounds = all_long kept.settings s.tables a.tables_long

  pub live_left : length (step_of x s).left.live ≤ kept.settings.limit
  live_left = step_live (hash_for kept.settings) kept.settings.limit (profile_of kept.settings) x (sample_of s)
      (omega (arith, length-take kept.live s.tables.locations, record_bounds.live_high))

  -- the record left is not torn
  pub left_whole : torn_record (stored (step_of x s) s).kept ≡ false
  left_whole = untorn (stored (step_of x s) s).kept record_bounds.settings_whole live_left
      (omega (
        arith,
        step_falls (hash_for kept.settings) kept.settings.limit (profile_of kept.settings) x (sample_of s),
        record_bounds.threshold_high,
      ))
      (omega (
        arith,
        counted_sampled (step_of x s).reply kept.numbers record_bounds.sampled_high,
        counted_references (step_of x s).reply kept.numbers,
      ))
      (omega (
        arith,
        counted_references (step_of x s).reply kept.numbers,
        record_bounds.references_high,
        eqb-false kept.numbers.references most_references a.room,
      ))

  -- nor are the tables left too short
  pub left_long : too_short kept.settings (stored (step_of x s) s).tables ≡ false
  left_long = none_short kept.settings (stored (step_of x s) s).tables (record {
    locations_long =
        rw (over_length (step_of x s).left.live s.tables.locations (omega (arith, live_left, tables_bounds.locations_long)))
        tables_bounds.locations_long;
    buckets =
        step_buckets (Long (needed kept.settings.buckets)) (hash_for kept.settings) kept.settings.limit (profile_of kept.settings) x
        (sample_of s) tables_bounds.buckets (λ place. long_record kept.threshold _ s.tables.histogram _ tables_bounds.buckets);
  })
