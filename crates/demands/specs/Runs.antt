-- Runs: what accepted calls leave, newest reference first. Assumes nothing.
use Rattle.std.specs.Prelude.{ℕ, suc, ◌≡◌, List, [], ◌∷◌}
use Rattle.rules.specs.declared.Settings.{Settings}
use Rattle.rules.specs.declared.Record.{Record}
use Rattle.rules.specs.Settings.{Tables}
use Rattle.rules.specs.declared.Reply.{Reply}
use Rattle.rules.specs.declared.Reply.TheVariants.{Skipped, First, Again}
use Rattle.rules.specs.Answers.{gives}
use Rattle.rules.specs.Order.{outcome}
use Rattle.rules.specs.Layout.{Tracker}
use Rattle.rules.specs.Calls.{setup_of, restart_of, refer_of}
use Rattle.rules.specs.History.{Reference}

-- a run since a fresh start, with the record and tables it left: begun by an accepted setup, or by an accepted restart of any record
-- and tables; continued by accepted references
pub data Run : List Reference → Tracker → Type 0 where
  setup : (given : Settings) (t : Tables) {s : Tracker} → setup_of given t ≡ outcome (gives s.kept) s.tables → Run [] s
  restart : (kept : Record) (t : Tables) {s : Tracker} → restart_of kept t ≡ outcome (gives s.kept) s.tables → Run [] s
  refer : {past : List Reference} {s after : Tracker} {x : Reference} {r : Reply}
      → Run past s → refer_of x s ≡ outcome (gives r) after → Run (x ∷ past) after

-- references, given oldest first, put in front of a past that is newest first
abbrev pub onto : List Reference → List Reference → List Reference
onto [] past = past
onto (x ∷ xs) past = onto xs (x ∷ past)

-- the answers of a run, newest first
abbrev pub answers : {past : List Reference} {s : Tracker} → Run past s → List Reply
answers (setup given t e) = []
answers (restart kept t e) = []
answers (refer {r = r} run e) = r ∷ answers run

-- how many were answered Again or First
abbrev pub sampled_in : List Reply → ℕ
sampled_in [] = 0
sampled_in (Skipped ∷ rs) = sampled_in rs
sampled_in (First ∷ rs) = suc (sampled_in rs)
sampled_in (Again d ∷ rs) = suc (sampled_in rs)
