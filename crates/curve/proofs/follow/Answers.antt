-- Each turn is one read, by `read_leads`; where the loop stops, too many were counted.
use native.Mathlib.Omega.{arith}
use mathlib.Core.Path.{ap, ◌∙◌}
use Rattle.std.specs.Prelude.{Ok}
use mathlib.Core.List.{[]}
use Prim.Native.Nat.{◌+◌, ◌-◌, ◌<◌, ◌^◌}
use Rattle.curve.specs.declared.Pause.{Pause}
use Rattle.curve.specs.Program.{Ready}
use Rattle.curve.proofs.Input.{follows_none, counted, read_leads}
use Rattle.curve.proofs.follow.Goals as goal

-- the loop's test leaves room to count another read
ready : (p : Pause) → p.left < 18 → p.place + p.reads < 2 ^ 64 - 65537 → Ready (counted p)
ready p short room = record { short = short; counted = omega arith }

pub loop-p-init : goal.loop-p-init
loop-p-init c = (omega arith, omega arith, record { input = []; paused = follows_none _ })

pub loop-p-smaller : goal.loop-p-smaller
loop-p-smaller c =
    let led = read_leads (ready _ c.loop-p.invariant.0 c.loop-p-test.true) c.loop-p.invariant.2 c.one_read.ensures (c.in_ok-next.was ∙ ap Ok c.in-Continue.is) in
    omega (arith, led.0.further, led.0.same)

pub loop-p-preserved : goal.loop-p-preserved
loop-p-preserved c =
    let head = c.loop-p in
    let led = read_leads (ready _ head.invariant.0 c.loop-p-test.true) head.invariant.2 c.one_read.ensures (c.in_ok-next.was ∙ ap Ok c.in-Continue.is) in
    (led.0.short, omega (arith, led.0.most, led.0.same, c.loop-p-test.true), led.1)

pub returns-in-Break : goal.returns-in-Break
returns-in-Break c =
    read_leads (ready _ c.loop-p.invariant.0 c.loop-p-test.true) c.loop-p.invariant.2 c.one_read.ensures (c.in_ok-next.was ∙ ap Ok c.in-Break.is)

pub returns : goal.returns
returns c =
    let head = c.loop-p in
    record { stopped = record { pause = head.p; followed = head.invariant.2 }; many = omega (arith, c.loop-p-test.false) }
