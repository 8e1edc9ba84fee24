-- The kind, and each setting behind what was put so far.
use mathlib.Core.Path.{ap}
use Prim.Native.Nat.{ℕ}
use mathlib.Core.List.{List, [], ◌∷◌, ◌++◌}
use native.Mathlib.Omega.{arith}
use lib.ListN.{set}
use Rattle.rules.specs.Events.{bytes_of}
use Rattle.little_endian.proofs.Laws.{put_behind}
use Rattle.writing.proofs.put_setup.Goals as goal

pub returns : goal.returns
returns c =
    let l = c.args.buffer.now in
    let body = c.args.body in
    let s : List ℕ = 4 ∷ [] in
    let limit = put_behind l s 4 body.limit (ap (set l 0) c.from.ensures) (omega arith) (rw c.from-2.ensures at c.put.ensures) in
    let s-limit = s ++ bytes_of 4 body.limit in
    let t0 = put_behind l s-limit 4 body.start limit (omega arith) (rw c.from-3.ensures at c.put-2.ensures) in
    let s-start = s-limit ++ bytes_of 4 body.start in
    let width = put_behind l s-start 4 body.width t0 (omega arith) (rw c.from-4.ensures at c.put-3.ensures) in
    let s-width = s-start ++ bytes_of 4 body.width in
    let buckets = put_behind l s-width 4 body.buckets width (omega arith) (rw c.from-5.ensures at c.put-4.ensures) in
    put_behind l (s-width ++ bytes_of 4 body.buckets) 1 body.kind buckets c.requires (rw c.from-6.ensures at c.put-5.ensures)
