-- Too few bytes are refused; with all thirteen there, the offset and the length are the numbers at their places, and only then is it asked
-- whether they overrun.
use Rattle.std.proofs.Common.{ℕ, ◌≤◌, length}
use mathlib.Core.List.{List}
use Rattle.little_endian.specs.InBytes.{got_from}
use mathlib.Core.Path.{◌≡◌, sym, ap, ◌∙◌}
use native.Mathlib.Omega.{arith}
use Rattle.rules.specs.declared.Event.TheVariants.{Span}
use Rattle.rules.specs.Events.{number_at, overruns}
use Rattle.little_endian.proofs.Laws.{got_there}
use Rattle.rules.proofs.Events.{whole_fits, whole_overruns}
use Rattle.reading.proofs.read_span.Goals as goal

-- what was got is what stands there
is : (bytes : List ℕ) (offset count : ℕ) → 13 ≤ length bytes → offset ≡ got_from 8 1 bytes → count ≡ got_from 4 9 bytes
    → Span offset count ≡ Span (number_at 8 1 bytes) (number_at 4 9 bytes)
is bytes offset count all e f =
    let o = e ∙ got_there 8 1 bytes (omega arith) in
    let n = f ∙ got_there 4 9 bytes all in
    λ i. Span (o i) (n i)

pub returns-then-overruns : goal.returns-then-overruns
returns-then-overruns c =
    let all = c.if-bytes-lt-SPAN_BYTES.false in
    whole_overruns 13 c.args.bytes.now (is _ _ _ all c.get-offset.ensures.value c.get-length.ensures.value)
    (sym c.overruns.ensures ∙ c.if-overruns.true) all

pub returns : goal.returns
returns c =
    let all = c.if-bytes-lt-SPAN_BYTES.false in
    let got = is c.args.bytes.now _ _ all c.get-offset.ensures.value c.get-length.ensures.value in
    whole_fits 13 c.args.bytes.now got (ap overruns (sym got) ∙ sym c.overruns.ensures ∙ c.if-overruns.false) all
