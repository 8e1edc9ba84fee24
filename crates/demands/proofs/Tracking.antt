-- Demand 3 over whole runs, but for "as if nothing else had been tracked". The numbers and bounds are parts of the invariant; an answer is the
-- history's by the cases of one reference, in `Steps`; a refusal leaves the run as it was. Assumes nothing.
use Prim.Native.Nat.{ℕ}
use mathlib.Core.Path.{◌≡◌, sym, ap, subst, ◌∙◌}
use mathlib.Core.List.{List, ◌∷◌}
use native.Mathlib.Omega.{arith}
use lib.Dec.{eqb}
use lib.ListN.{length}
use Rattle.rules.specs.declared.Settings.{Settings}
use Rattle.rules.specs.Lists.{has}
use Rattle.rules.specs.Settings.{most_references, Tables, with_defaults}
use Rattle.rules.specs.declared.Reply.{Reply}
use Rattle.rules.specs.declared.Reply.TheVariants.{Skipped, First, Again}
use Rattle.rules.specs.Answers.{gives, refused}
use Rattle.rules.specs.Order.{leaves, says, Judged}
use Rattle.rules.specs.Layout.{Tracker, sample_of, hash_for, profile_of, counted, fresh_tables, stored, fresh_record}
use Rattle.rules.specs.Calls.{step_of, refer_of, refer_order, setup_of, restart_of, setup_order, restart_order}
use Rattle.rules.specs.declared.Settings.{Settings}
use Rattle.rules.proofs.Tests.{cases}
use Rattle.rules.proofs.Steps.{replied_skipped, replied_first, replied_again}
use Rattle.rules.proofs.Calls.{refer_accept, refer_accepted, refer_full}
use Rattle.rules.proofs.Answers.{gives_same}
use Rattle.demands.specs.Runs.{Run, answers, sampled_in}
use Rattle.demands.specs.Statements.{in_force, Threshold, LiveList, history_reply, Answers, Numbers, OnlyFull, Bounds, RefusedAnywhere}
use Rattle.demands.proofs.Refusing.{untouched}
use Rattle.demands.proofs.Invariant.{by_run, invariant, accepted}

pub threshold : Threshold
threshold past s run = (invariant run).tracked.threshold_is

pub live_list : LiveList
live_list past s run = (invariant run).tracked.live_is

-- the step's answer is the history's
step_reply : (past : List ℕ) (s : Tracker) (x : ℕ) → Run past s → (step_of x s).reply ≡ history_reply s past x
step_reply past s x run =
    let h = hash_for s.kept.settings in
    let limit = s.kept.settings.limit in
    let start = s.kept.settings.start in
    let f = profile_of s.kept.settings in
    let tracked = (invariant run).tracked in
    cases (in_force s x)
    (λ e. cases (has x past)
    (λ m. rw (e, m) (replied_again h limit start x past (sample_of s) tracked f e m))
    (λ m. rw (e, m) (replied_first h limit start x past (sample_of s) tracked f e m)))
    (λ e. rw e (replied_skipped h limit start x past (sample_of s) tracked f e))

-- an accepted reference answers the step's reply
reply_step : (s after : Tracker) (x : ℕ) (r : Reply) → refer_of x s ≡ record { result = gives r; left = after } → r ≡ (step_of x s).reply
reply_step s after x r e = gives_same (ap (λ o. o.result) (sym e ∙ refer_accept x s (refer_accepted x s r (ap (λ o. o.result) e))))

pub whole_answers : Answers
whole_answers past s after x r run e = reply_step s after x r e ∙ step_reply past s x run

-- sampled rises where the answer is not Skipped
sampled_more : (r : Reply) (n : Rattle.rules.specs.declared.Numbers.Numbers) (rs : List Reply) → n.sampled ≡ sampled_in rs
    → (counted r n).sampled ≡ sampled_in (r ∷ rs)
sampled_more Skipped n rs e = e
sampled_more First n rs e = omega arith
sampled_more (Again d) n rs e = omega arith

sampled_is : {past : List ℕ} {s : Tracker} (run : Run past s) → s.kept.numbers.sampled ≡ sampled_in (answers run)
sampled_is run = by_run (λ past s rs. s.kept.numbers.sampled ≡ sampled_in rs)
    (λ h f. ap (λ z. z.kept.numbers.sampled) (sym f.is))
    (λ past s x rs run a e. sampled_more (step_of x s).reply s.kept.numbers rs e) run

pub numbers : Numbers
numbers past s run = record {
  references_is = (invariant run).references_is;
  sampled_is = sampled_is run;
  live_is = (invariant run).live_is;
}

pub only_full : OnlyFull
only_full past s x run =
    let v = invariant run in
    cases (eqb (length past) most_references)
    (λ e. rw e (refer_full x s v.record_whole v.tables_long (ap (λ n. eqb n most_references) v.references_is ∙ e)))
    (λ e. rw e (let q = refer_accept x s (accepted past s v x (ap (λ n. eqb n most_references) v.references_is ∙ e)) in
    λ i. record { result = (ap (λ o. o.result) q ∙ ap gives (step_reply past s x run)) i; left = (refer_of x s).left }))

pub bounds_hold : Bounds
bounds_hold past s run j h = let c = (invariant run).clean in record {
  at_least_one = c.at_least_one j h;
  not_below = c.not_below j h;
  not_above = c.not_above j h;
  count_high = c.count_high j h;
  raw_high = c.raw_high;
}

pub refused_anywhere : RefusedAnywhere
unfolding refer_of restart_of setup_of
refused_anywhere past s run = record {
  by_refer = λ x n e. subst (Run past) (sym (untouched.by_the_order (refer_order x s) (step_of x s).reply s (stored (step_of x s) s) n e)) run;
  by_restart = λ n e. unmoved (started (restart_order s.kept s.tables) s.kept.settings n e);
  by_setup = λ given n e. unmoved (started (setup_order given s.tables) (with_defaults given) n e);
}
  where
    started : (order : List Judged) (set : Settings) (n : ℕ) → says order (fresh_record set) ≡ refused n
        → leaves order s.tables (fresh_tables set s.tables) ≡ s.tables
    started order set n e = untouched.by_the_order order (fresh_record set) s.tables (fresh_tables set s.tables) n e

    unmoved : {t : Tables} → t ≡ s.tables → Run past (record { kept = s.kept; tables = t })
    unmoved e = subst (λ z. Run past (record { kept = s.kept; tables = z })) (sym e) run
