-- The kind, and the location behind it.
use mathlib.Core.Path.{ap}
use mathlib.Core.List.{[], ◌∷◌}
use lib.ListN.{set}
use Rattle.little_endian.proofs.Laws.{put_behind}
use Rattle.writing.proofs.put_location.Goals as goal

pub returns : goal.returns
returns c =
    let l = c.args.buffer.now in
    put_behind l (1 ∷ []) 8 c.args.location (ap (set l 0) c.from.ensures) c.requires c.put.ensures
