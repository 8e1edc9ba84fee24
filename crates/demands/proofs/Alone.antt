-- Demand 3: the live list is as if nothing else had been tracked. The references that hash below the threshold are replayed by themselves, on
-- the same settings (`replayed`, by induction on them). Their run's threshold is not below this one's (`not_lower`), so both live lists are the
-- same part of the recency list. Assumes nothing.
use Prim.Native.Nat.{ℕ, ◌≤◌}
use mathlib.Core.Path.{◌≡◌, refl, sym, ap, subst, ◌∙◌}
use mathlib.Core.Bool.{false}
use mathlib.Core.List.{List, [], ◌∷◌}
use native.Mathlib.Omega.{arith}
use lib.Dec.{ltb}
use lib.ListN.{length}
use borrow.Author.Tests.{ltb-true, ltb-false, lt-ltb, ne_eqb}
use Rattle.rules.specs.declared.Settings.{Settings}
use Rattle.rules.specs.Lists.{keep}
use Rattle.rules.specs.Settings.{Tables, out_of_range, most_references}
use Rattle.rules.specs.Reference.{under}
use Rattle.rules.specs.Layout.{Tracker, hash_for, stored, fresh_record, fresh}
use Rattle.rules.specs.Conditions.{too_short}
use Rattle.rules.specs.Calls.{step_of}
use Rattle.rules.specs.History.{recency, different, Largest}
use Rattle.rules.proofs.Tests.{cases}
use Rattle.rules.proofs.Lists.{keep_keep, keep_length, keep_narrow}
use Rattle.rules.proofs.History.{keep_recency}
use Rattle.rules.proofs.Bounds.{whole}
use Rattle.rules.proofs.Calls.{restart_accept, refer_accept}
use Rattle.demands.specs.Runs.{Run, restart, refer}
use Rattle.demands.specs.Statements.{in_force, NothingElse}
use Rattle.demands.proofs.Invariant.{invariant, invariant_fresh, accepted}
use Rattle.demands.proofs.Tracking.{threshold, live_list}

-- a run of any history, on any settings in range, with any tables long enough
pub record Replayed (s : Settings) (past : List ℕ) : Type 0 where
  pub left : Tracker
  pub run : Run past left
  pub same : left.kept.settings ≡ s

pub replayed : (s : Settings) (t : Tables) → out_of_range s ≡ false → too_short s t ≡ false → (past : List ℕ) → length past ≤ most_references
    → Replayed s past
replayed s t r l [] n = record {
  left = fresh s t;
  run = restart (fresh_record s) t (restart_accept (fresh_record s) t (invariant_fresh s t r l).record_whole l);
  same = refl;
}
replayed s t r l (x ∷ past) n = more (replayed s t r l past (omega arith))
  where
    more : Replayed s past → Replayed s (x ∷ past)
    more p =
        let v = invariant p.run in
        let q : p.left.kept.numbers.references ≡ most_references → ⊥ = λ e. omega (arith, v.references_is) in
        record {
          left = stored (step_of x p.left) p.left;
          run = refer p.run (refer_accept x p.left (accepted past p.left v x (ne_eqb _ _ q)));
          same = p.same;
        }

-- of two largest thresholds, where the references of one are those of the other that hash below the other's, the first is not below the second
not_lower : (hash : ℕ → ℕ) (limit start : ℕ) (past : List ℕ) (t u : ℕ) → Largest hash limit start past t
    → Largest hash limit start (keep (under hash t) past) u → t ≤ u
not_lower hash limit start past t u a b = cases (ltb u t)
    (λ e. let q : different (under hash t) (keep (under hash t) past) ≡ different (under hash t) past =
    ap length
    (ap (keep (under hash t)) (sym (keep_recency (under hash t) past)) ∙ keep_narrow (under hash t) (under hash t) (λ y h. h) (recency past)) in
    absurd (omega (arith, b.none_above t (ltb-true u t e) a.at_most, a.holds)))
    (λ e. ltb-false u t e)

pub nothing_else : NothingElse
nothing_else past s run =
    let v = invariant run in
    let set = s.kept.settings in
    let p = replayed set s.tables (whole s.kept v.record_whole).settings_whole v.tables_long (keep (in_force s) past)
    (omega (arith, keep_length (in_force s) past, v.references_is, (whole s.kept v.record_whole).references_high)) in
    let a = threshold past s run in
    let b : Largest (hash_for set) set.limit set.start (keep (in_force s) past) p.left.kept.threshold =
    subst (λ z. Largest (hash_for z) z.limit z.start (keep (in_force s) past) p.left.kept.threshold) p.same
    (threshold _ p.left p.run) in
    let h : s.kept.threshold ≤ p.left.kept.threshold = not_lower (hash_for set) set.limit set.start past _ _ a b in
    record {
      other = p.left;
      run = p.run;
      same_settings = p.same;
      same_list = live_list _ p.left p.run
          ∙ ap (λ z. keep (under (hash_for z) p.left.kept.threshold) (recency (keep (in_force s) past))) p.same
          ∙ ap (keep (under (hash_for set) p.left.kept.threshold)) (sym (keep_recency (in_force s) past))
          ∙ keep_keep (under (hash_for set) p.left.kept.threshold) (in_force s) (recency past)
          ∙ keep_narrow (in_force s) (under (hash_for set) p.left.kept.threshold)
          (λ y e. lt-ltb (hash_for set y) p.left.kept.threshold (omega (arith, ltb-true (hash_for set y) s.kept.threshold e))) (recency past)
          ∙ sym (live_list past s run);
    }
