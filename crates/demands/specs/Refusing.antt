-- Demand 1 over the definitions: who refuses, under which number, and that nothing is changed by it. Assumes nothing.
use Rattle.std.specs.Prelude.{ℕ, ◌≡◌, Bool, true, false, cond, List, [], ◌∷◌, ◌++◌, length}
use Rattle.rules.specs.declared.Settings.{Settings}
use Rattle.rules.specs.declared.Record.{Record}
use Rattle.rules.specs.declared.Shape.{Shape}
use Rattle.rules.specs.declared.Refusal.{Refusal}
use Rattle.rules.specs.declared.Refusal.TheVariants as refusal
use Rattle.std.specs.Prelude.{Err}
use Rattle.std.specs.declared.result.Result as told
use Rattle.rules.specs.declared.Point.{Point}
use Rattle.rules.specs.declared.PlotPoint.{PlotPoint}
use Rattle.rules.specs.declared.Event.{Event}
use Rattle.rules.specs.declared.Event.TheVariants.{Location, Span, Restart, Setup}
use Rattle.rules.specs.Settings.{Histogram}
use Rattle.rules.specs.Answers.{refused, gives, result_of}
use Rattle.rules.specs.Order.{Judged, ◌when◌, says, by_order, NoneHolds, FirstAt, refusal_at}
use Rattle.rules.specs.Events.{settings_of, references_of, overrun}
use Rattle.rules.specs.Layout.{Tracker, live_of}
use Rattle.rules.specs.Conditions.{buckets_too_short, torn_record}
use Rattle.rules.specs.Calls.{setup_order, setup_of, restart_order, restart_of, refer_order, refer_of, point_of, plot_of, apply_of}
use Rattle.rules.specs.History.{Reference}
use Rattle.demands.specs.Runs.{Run}

-- ---- (a) "A refusal gives its number and leaves every table and buffer untouched.": a law of any order, and so of each call that is
-- defined by one, and of every event but a span; a span's references are made one by one, each such a call (specs/Spans)

abbrev pub is_span : Event → Bool
is_span (Location x) = false
is_span (Span offset bytes) = true
is_span Restart = false
is_span (Setup b) = false

pub record Untouched : Type 1 where
  pub by_the_order : {A S : Type 0} (order : List Judged) (a : A) (was after : S) (n : ℕ)
      → (by_order order a was after).result ≡ refused n → (by_order order a was after).left ≡ was
  pub by_apply : (e : Event) (s : Tracker) (n : ℕ) → is_span e ≡ false → (apply_of e s).result ≡ refused n → (apply_of e s).left ≡ s

-- ---- (b) "Each is given exactly under its condition", and no earlier one in that call's order: laws of any order

-- the first whose condition holds has the number n
pub record FirstIs (n : ℕ) (order : List Judged) : Type 0 where
  pub place : ℕ
  pub first : FirstAt place order
  pub numbered : refusal_at place order ≡ n

pub record InOrder : Type 1 where
  pub only_so : {A : Type 0} (order : List Judged) (a : A) (n : ℕ) → says order a ≡ refused n → FirstIs n order
  pub always_so : {A : Type 0} (order : List Judged) (a : A) (n : ℕ) → FirstIs n order → says order a ≡ refused n
  pub or_given : {A : Type 0} (order : List Judged) (a : A) → NoneHolds order → says order a ≡ gives a

-- no refusal is numbered 0, so that 0 may stand for accepted
abbrev pub NeverZero : Type 1
NeverZero = (A : Type 0) (order : List Judged) (a : A) → says order a ≡ refused 0 → ⊥

-- references one after the other: each is judged on what those before it left
abbrev pub refer_all_order : List Reference → Tracker → List Judged
refer_all_order [] s = []
refer_all_order (x ∷ xs) s = refer_order x s ++ refer_all_order xs (refer_of x s).left

-- an event has the order of the call that it stands for; a span 10, and then the orders of its references
abbrev pub apply_order : Event → Tracker → List Judged
apply_order (Location x) s = refer_order x s
apply_order (Span offset bytes) s = (refusal.Overrun when overrun offset bytes) ∷ refer_all_order (references_of (Span offset bytes)) s
apply_order Restart s = restart_order s.kept s.tables
apply_order (Setup b) s = setup_order (settings_of b) s.tables

abbrev pub ApplyInOrder : Type 0
ApplyInOrder = (e : Event) (s : Tracker) → (apply_of e s).result ≡ says (apply_order e s) tt

-- ---- (c) "A point asked for under another curve's shape is refused by name.": Stale, whatever the point number, in every answer that the
-- promises of `point` and `plot_point` allow

-- the believed B or W differs
abbrev pub AnotherShape : Shape → Settings → Type 0
AnotherShape believed s = believed.buckets ≡ s.buckets → believed.width ≡ s.width → ⊥

-- every answer that the two promises allow is this refusal
pub record RefusedAs (why : Refusal) (kept : Record) (believed : Shape) (n : ℕ) (g : Histogram) : Type 0 where
  pub point : (answer : told.Result Point Refusal) → result_of answer ≡ point_of kept believed n g → answer ≡ Err why
  pub plotted : (answer : told.Result PlotPoint Refusal) → result_of answer ≡ plot_of kept believed n g → answer ≡ Err why

-- of any record and tables: only a torn record and a short table are refused before
abbrev pub stale_or : Record → Histogram → Refusal
stale_or kept g = cond (torn_record kept) refusal.Torn (cond (buckets_too_short kept.settings g) refusal.Tables refusal.Stale)

abbrev pub StaleByName : Type 0
StaleByName = (kept : Record) (believed : Shape) (n : ℕ) (g : Histogram) → AnotherShape believed kept.settings
    → RefusedAs (stale_or kept g) kept believed n g

-- of what a run left: always
abbrev pub StaleInARun : Type 0
StaleInARun = (past : List Reference) (s : Tracker) → Run past s → (believed : Shape) (n : ℕ) → AnotherShape believed s.kept.settings
    → RefusedAs refusal.Stale s.kept believed n s.tables.histogram

-- ---- document 01's one exception: the places from the live number on

-- two states that agree except there
pub record Agree (s t : Tracker) : Type 0 where
  pub same_record : s.kept ≡ t.kept
  pub same_buckets : s.tables.histogram ≡ t.tables.histogram
  pub same_list : live_of s ≡ live_of t
  pub same_length : length s.tables.locations ≡ length t.tables.locations

-- answer every call alike, and agree so again; a point is not lent the location table
pub record Alike (s t : Tracker) : Type 0 where
  pub refer_says : (x : ℕ) → (refer_of x s).result ≡ (refer_of x t).result
  pub refer_leaves : (x : ℕ) → Agree (refer_of x s).left (refer_of x t).left
  pub restart_says : (restart_of s.kept s.tables).result ≡ (restart_of t.kept t.tables).result
  pub restart_leaves : (restart_of s.kept s.tables).left.histogram ≡ (restart_of t.kept t.tables).left.histogram
  pub setup_says : (given : Settings) → (setup_of given s.tables).result ≡ (setup_of given t.tables).result
  pub setup_leaves : (given : Settings) → (setup_of given s.tables).left.histogram ≡ (setup_of given t.tables).left.histogram
  pub apply_says : (e : Event) → (apply_of e s).result ≡ (apply_of e t).result
  pub apply_leaves : (e : Event) → Agree (apply_of e s).left (apply_of e t).left

abbrev pub AgreeAgain : Type 0
AgreeAgain = (s t : Tracker) → Agree s t → Alike s t
