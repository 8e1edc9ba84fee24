-- Demand 2: trace events written are read back the same. Assumes nothing.
use mathlib.Core.Path.{◌≡◌, sym}
use lib.ListN.{drop}
use Rattle.rules.specs.Answers.{gives}
use Rattle.rules.specs.Order.{outcome}
use Rattle.rules.specs.Events.{event_length, write_of}
use Rattle.rules.proofs.Events.{write_filled}
use Rattle.rules.proofs.Round.{round}
use Rattle.demands.specs.Statements.{ReadBack, WrittenReadBack}

pub read_back : ReadBack
read_back e f o rest = round e rest f o

pub written_read_back : WrittenReadBack
written_read_back e f buffer n said =
    let w : outcome (gives n) (write_of e buffer).left ≡ write_of e buffer =
    λ i. record { result = sym said i; left = (write_of e buffer).left } in
    let k = write_filled e buffer n (write_of e buffer).left w in
    rw (k.1, k.0) (round e (drop (event_length e) buffer) f k.2)
