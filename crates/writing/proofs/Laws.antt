-- What is written is read back. Assumes nothing.
use Prim.Native.Nat.{ℕ}
use mathlib.Core.Path.{◌≡◌, ◌∙◌}
use mathlib.Core.List.{List, ◌++◌}
use lib.ListN.{take, drop, take-append-drop}
use Rattle.rules.specs.declared.Event.{Event}
use Rattle.std.specs.Prelude.{Ok}
use Rattle.rules.specs.Answers.{gives}
use Rattle.rules.specs.Events.{event_bytes, read_of}
use Rattle.rules.proofs.Answers.{result_injective}
use Rattle.rules.proofs.Events.{write_filled}
use Rattle.rules.proofs.Tables.{over_front}
use Rattle.rules.proofs.Round.{round}
use Rattle.writing.specs.ReadBack.{WritePromise, WrittenIsRead}

-- bytes that begin with those that were filled
pub reads_back : (e : Event) (before after : List ℕ) (n : ℕ) → WritePromise e before (Ok n) after
    → (bytes : List ℕ) → take n bytes ≡ take n after → read_of bytes ≡ gives (record { event = e; taken = n })
reads_back e before after n (w, fits) bytes begins =
    let k = write_filled e before n after w in
    let filled : take n after ≡ event_bytes e = rw (k.1, k.0) (over_front (event_bytes e) before) in
    let whole : event_bytes e ++ drop n bytes ≡ bytes = rw (← begins ∙ filled) (take-append-drop n bytes) in
    rw (← whole, k.0) (round e _ fits k.2)

pub written_is_read : WrittenIsRead
written_is_read e before after n w bytes begins r said =
    result_injective r (Ok (record { event = e; taken = n })) (said ∙ reads_back e before after n w bytes begins)
