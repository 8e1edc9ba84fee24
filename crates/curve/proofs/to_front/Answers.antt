-- What is copied to the front is what stood from the place on.
use native.Mathlib.Omega.{arith}
use Prim.Native.Nat.{◌+◌, ◌-◌}
use mathlib.Core.Path.{◌≡◌, sym, ap, ◌∙◌}
use lib.ListN.{take, drop, length-drop}
use Rattle.std.specs.List.{copy_within}
use Rattle.std.proofs.lemmas.List.Edits.{take-paste}
use Rattle.rules.proofs.Fronts.{drop_take}
use Rattle.curve.proofs.to_front.Goals as goal

pub returns-clause-buffer_after : goal.returns-clause-buffer_after
returns-clause-buffer_after c =
    let args = c.args in
    let whole : args.from + (args.end - args.from) ≡ args.end = omega (arith, c.requires) in
    let all : args.end - args.from ≡ 0 + (args.end - args.from) = omega arith in
    ap (take (args.end - args.from)) c.copy_within.ensures.after
    ∙ ap (λ n. take n (copy_within args.buffer.now args.from args.end 0)) all
    ∙ take-paste args.buffer.now 0 (drop args.from args.buffer.now) (args.end - args.from) (omega arith) (rw length-drop (omega (arith, c.requires, c.told-buffer)))
    ∙ sym (drop_take args.from (args.end - args.from) args.buffer.now)
    ∙ ap (λ n. drop args.from (take n args.buffer.now)) whole
