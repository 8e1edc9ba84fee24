-- Too few bytes are refused; with all eighteen there, each setting is the number at its place.
use mathlib.Core.Path.{refl, ◌∙◌}
use native.Mathlib.Omega.{arith}
use Rattle.rules.specs.declared.Event.TheVariants.{Setup}
use Rattle.little_endian.proofs.Laws.{got_there}
use Rattle.rules.proofs.Events.{whole_fits}
use Rattle.reading.proofs.read_setup.Goals as goal

pub returns : goal.returns
returns c =
    let bytes = c.args.bytes.now in
    let limit = c.get.ensures.value ∙ got_there 4 1 bytes (omega arith) in
    let start = c.get-2.ensures.value ∙ got_there 4 5 bytes (omega arith) in
    let width = c.get-3.ensures.value ∙ got_there 4 9 bytes (omega arith) in
    let buckets = c.get-4.ensures.value ∙ got_there 4 13 bytes (omega arith) in
    let kind = c.get-5.ensures.value ∙ got_there 1 17 bytes (omega arith) in
    whole_fits 18 bytes (λ i. Setup (record { limit = limit i; start = start i; width = width i; buckets = buckets i; kind = kind i })) refl
    c.if-bytes-lt-SETUP_BYTES.false
