-- Each test that is passed shows one of the definition's conditions not to hold; the first that stops the call is the refusal. With all
-- passed, a hash that is not below the threshold is counted and no more, and else the rest is `sampled`'s.
use native.Mathlib.Omega.{arith}
use mathlib.Core.Path.{sym, ◌∙◌}
use borrow.Author.Tests.{le-ltb}
use Rattle.rules.proofs.Calls.{refer_torn, refer_short, refer_full}
use Rattle.refer.proofs.OneReference.{room_for, skipped_done}
use Rattle.refer.proofs.refer.Goals as goal

pub returns-then-torn : goal.returns-then-torn
returns-then-torn c = sym (refer_torn _ _ (sym c.torn.ensures ∙ c.if-torn.true))

pub returns-then-too_short : goal.returns-then-too_short
returns-then-too_short c =
    let not_torn = sym c.torn.ensures ∙ c.if-torn.false in
    let short = sym c.too_short.ensures ∙ c.if-too_short.true in
    sym (refer_short _ _ not_torn short)

pub returns-then-is_full : goal.returns-then-is_full
returns-then-is_full c =
    let not_torn = sym c.torn.ensures ∙ c.if-torn.false in
    let not_short = sym c.too_short.ensures ∙ c.if-too_short.false in
    sym (refer_full _ _ not_torn not_short (sym c.is_full.ensures ∙ c.if-is_full.true))

pub count-requires : goal.count-requires
count-requires c = room_for _ _ (sym c.torn.ensures ∙ c.if-torn.false) (sym c.is_full.ensures ∙ c.if-is_full.false) (omega arith)

pub returns-then-kept-hash_of : goal.returns-then-kept-hash_of
returns-then-kept-hash_of c =
    let not_torn = sym c.torn.ensures ∙ c.if-torn.false in
    let not_short = sym c.too_short.ensures ∙ c.if-too_short.false in
    let not_full = sym c.is_full.ensures ∙ c.if-is_full.false in
    rw c.count.ensures (skipped_done _ _ _ _ _ not_torn not_short not_full
    (le-ltb _ _ (rw c.hash_of.ensures at c.if-kept-hash_of.true)))
