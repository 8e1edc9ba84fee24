-- Where the list is lowered, what stood behind it stays.
use mathlib.Core.Path.{ap, ◌∙◌}
use mathlib.Core.List.{◌∷◌, ◌++◌}
use native.Mathlib.Omega.{arith}
use lib.ListN.{drop}
use borrow.Author.Tests.{le-ltb}
use Rattle.rules.specs.Reference.{lowered}
use Rattle.rules.specs.Layout.{hash_for}
use Rattle.rules.proofs.Tables.{takes}
use Rattle.live.specs.Live.{lowering, staying}
use Rattle.live.proofs.Laws.{lowered_part}
use Rattle.refer.proofs.enter.Goals as goal

pub returns : goal.returns
returns c =
    let a = c.args in
    let hash = hash_for a.kept.settings in
    let end = c.min-end.result in
    let all = takes a.locations.now end a.kept.live (omega (arith, c.min-end.ensures)) (omega (arith, c.min-end.ensures)) (omega (arith, c.min-end.ensures)) in
    rw (le-ltb _ _ c.if-kept.false)
    (ap (λ z. lowering z.result (z.table ++ drop end a.locations.now)) c.lower.ensures
    ∙ lowered_part _ _ end a.location a.locations.now
    ∙ ap (λ l. staying hash (lowered hash a.kept.threshold (a.location ∷ l)) (a.location ∷ l) a.locations.now) all)
