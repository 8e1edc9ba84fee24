-- Too few bytes are refused; with all nine there, the eight behind the kind are the location.
use mathlib.Core.Path.{refl, ap, ◌∙◌}
use native.Mathlib.Omega.{arith}
use Rattle.rules.specs.declared.Event.TheVariants.{Location}
use Rattle.little_endian.proofs.Laws.{got_there}
use Rattle.rules.proofs.Events.{whole_fits}
use Rattle.reading.proofs.read_location.Goals as goal

pub returns : goal.returns
returns c =
    let bytes = c.args.bytes.now in
    let location = c.get.ensures.value ∙ got_there 8 1 bytes (omega arith) in
    whole_fits 9 bytes (ap Location location) refl c.if-bytes-lt-LOCATION_BYTES.false
