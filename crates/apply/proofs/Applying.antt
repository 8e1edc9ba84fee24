-- One trace event, by its kind: what its calls answer and leave is what the rules say. Assumes nothing.
use Prim.Native.Nat.{ℕ}
use mathlib.Core.Path.{◌≡◌, sym, ap, ◌∙◌}
use mathlib.Core.Bool.{true, false}
use mathlib.Core.List.{List, [], ◌∷◌}
use Rattle.std.specs.Prelude.{Some}
use lib.Dec.{eqb}
use borrow.Author.Tests.{eqb-true}
use Rattle.rules.specs.declared.Record.{Record}
use Rattle.rules.specs.declared.Reply.{Reply}
use Rattle.rules.specs.declared.SetupBody.{SetupBody}
use Rattle.rules.specs.declared.Event.{Event}
use Rattle.rules.specs.declared.Event.TheVariants as event
use Rattle.rules.specs.Settings.{Tables}
use Rattle.rules.specs.Answers.{refused, gives}
use Rattle.rules.specs.Order.{Outcome, outcome}
use Rattle.rules.specs.Events.{settings_of, rising, overrun, block_of, blocks_in}
use Rattle.rules.specs.Layout.{Tracker, tracker}
use Rattle.rules.specs.Calls.{setup_of, restart_of, refer_of, started_over, refer_all, apply_of}
use Rattle.rules.proofs.Tests.{cases}
use Rattle.rules.proofs.Spans.{all_on, all_refused, all_none, span_overrun, span_refers}
use Rattle.refer.specs.Refer.{skip_of}
use Rattle.refer.proofs.OneReference.{skip_is, not_none}
use Rattle.apply.specs.EventCall.{skip_event}

-- ---- one reference

-- accepted
pub one_accepted : (x : ℕ) (s : Tracker) {r : Reply} {m : Tracker} → outcome (gives r) m ≡ refer_of x s → outcome (gives tt) m ≡ refer_all (x ∷ []) s
one_accepted x s e = sym (all_on x [] s (sym e) ∙ all_none _)

-- refused
pub one_refused : (x : ℕ) (s : Tracker) {n : ℕ} {m : Tracker} → outcome (refused n) m ≡ refer_of x s → outcome (refused n) m ≡ refer_all (x ∷ []) s
one_refused x s e = sym (all_refused x [] s (sym e))

-- Skipped
pub one_skipped : (x : ℕ) (kept : Record) (ls cs ts : List ℕ) {after : Record} → Some after ≡ skip_of x (tracker kept ls cs ts)
    → outcome (gives tt) (tracker after ls cs ts) ≡ refer_all (x ∷ []) (tracker kept ls cs ts)
one_skipped x kept ls cs ts is = one_accepted x _ (skip_is x kept ls cs ts is)

-- ---- an event

-- that is Skipped is accepted
pub skip_event_lem : (e : Event) (s : Tracker) {after : Record} → Some after ≡ skip_event e s
    → outcome (gives tt) (record { kept = after; tables = s.tables }) ≡ apply_of e s
unfolding apply_of
skip_event_lem (event.Location x) s is = one_skipped x s.kept _ _ _ is
skip_event_lem (event.Span offset bytes) s is = cases (overrun offset bytes)
    (λ o. not_none (rw o at is))
    (λ o. cases (eqb (blocks_in offset bytes) 1)
    (λ z.
    let one : blocks_in offset bytes ≡ 1 = eqb-true (blocks_in offset bytes) 1 z in
    one_skipped (block_of offset) s.kept _ _ _ (rw (o, z) at is)
    ∙ (λ i. refer_all (rising (block_of offset) (sym one i)) s)
    ∙ sym (span_refers offset bytes s o))
    (λ z. not_none (rw (o, z) at is)))
skip_event_lem event.Restart s is = not_none is
skip_event_lem (event.Setup body) s is = not_none is

-- a restart, and a setup, over a tracker that had the record `kept`
module _ (kept : Record) (t u : Tables) where
  pub restart_done : {k : Record} → outcome (gives k) u ≡ restart_of kept t
      → outcome (gives tt) (record { kept = k; tables = u }) ≡ apply_of event.Restart (record { kept = kept; tables = t })
  unfolding apply_of
  restart_done e = ap (λ z. started_over kept z.result z.left) e

  pub restart_refused : {n : ℕ} → outcome (refused n) u ≡ restart_of kept t
      → outcome (refused n) (record { kept = kept; tables = u }) ≡ apply_of event.Restart (record { kept = kept; tables = t })
  unfolding apply_of
  restart_refused e = ap (λ z. started_over kept z.result z.left) e

  module _ (body : SetupBody) where
    pub setup_done : {k : Record} → outcome (gives k) u ≡ setup_of (settings_of body) t
        → outcome (gives tt) (record { kept = k; tables = u }) ≡ apply_of (event.Setup body) (record { kept = kept; tables = t })
    unfolding apply_of
    setup_done e = ap (λ z. started_over kept z.result z.left) e

    pub setup_refused : {n : ℕ} → outcome (refused n) u ≡ setup_of (settings_of body) t
        → outcome (refused n) (record { kept = kept; tables = u }) ≡ apply_of (event.Setup body) (record { kept = kept; tables = t })
    unfolding apply_of
    setup_refused e = ap (λ z. started_over kept z.result z.left) e

-- an event that is references
pub location_refers : (x : ℕ) (s : Tracker) {o : Outcome (Unit {0}) Tracker} → o ≡ refer_all (rising x 1) s → o ≡ apply_of (event.Location x) s
unfolding apply_of
location_refers x s e = e

module _ (offset bytes : ℕ) (s : Tracker) where
  pub span_asks : overrun offset bytes ≡ false → {o : Outcome (Unit {0}) Tracker}
      → o ≡ refer_all (rising (block_of offset) (blocks_in offset bytes)) s → o ≡ apply_of (event.Span offset bytes) s
  unfolding apply_of
  span_asks o e = e ∙ sym (span_refers offset bytes s o)

  pub span_refused : overrun offset bytes ≡ true → outcome (refused 10) s ≡ apply_of (event.Span offset bytes) s
  unfolding apply_of
  span_refused o = sym (span_overrun offset bytes s o)
