-- A lowering, made of the other functions. Where the list is cut, their contracts say how far the threshold has fallen (`known`); the new
-- location then stays, in front, or goes.
use mathlib.Core.Path.{ap, ◌∙◌}
use Rattle.live.specs.Live.{lowering}
use Rattle.live.proofs.Laws.{falls, stays, goes}
use Rattle.live.proofs.lower.Goals as goal

pub returns-then-own-fallen : goal.returns-then-own-fallen
returns-then-own-fallen c =
    let known = falls _ _ _ _ c.hash_of-own.ensures c.largest_hash-others.ensures c.max.ensures c.min-fallen.ensures in
    ap (lowering _) c.to_front.ensures
    ∙ stays _ _ _ _ _ _ _ _ known c.keep_below-number.ensures c.if-own-fallen.true

pub returns : goal.returns
returns c =
    let known = falls _ _ _ _ c.hash_of-own.ensures c.largest_hash-others.ensures c.max.ensures c.min-fallen.ensures in
    goes _ _ _ _ _ _ _ _ known c.keep_below-number.ensures c.if-own-fallen.false
