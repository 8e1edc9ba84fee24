use mathlib.Core.Path.{refl}
use Rattle.text.proofs.Laws.{put_length, adds_put}
use Rattle.text.proofs.Page.put.Goals as goal

pub returns : goal.returns
returns c =
    rw c.copy_from_slice.ensures.after
    (record { same_buffer = refl; same_length = put_length _ _ _ c.requires; adds = adds_put _ _ _ c.requires })
