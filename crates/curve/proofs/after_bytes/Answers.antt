-- What was left and the bytes behind it are fed; what that comes to is the input so far, by `follows_more`. Where feeding ended with a refusal,
-- its line is printed; else less than an event is left, and it is moved to the front.
use native.Mathlib.Omega.{arith}
use mathlib.Core.Path.{◌≡◌, refl, ap}
use Prim.Native.Nat.{ℕ, ◌+◌, ◌≤◌}
use mathlib.Core.List.{List, ◌++◌}
use lib.ListN.{length, take, drop, length-drop}
use lib.Seq.{length-take-le, take-add}
use Rattle.rules.specs.Layout.{Tracker}
use Rattle.rules.specs.Answers.{result_of}
use Rattle.feed.specs.Feed.{Feeding, feed_of}
use Rattle.curve.proofs.Input.{taken_most, follows_more, reached_follows, reached_refused, follows_short}
use Rattle.curve.proofs.after_bytes.Goals as goal

-- no more is taken than the bytes that were fed
most : (end : ℕ) (buffer : List ℕ) (s : Tracker) {f : Feeding} → f ≡ feed_of (take end buffer) s → end ≤ length buffer → f.taken ≤ end
most end buffer s e fits = rw (length-take-le end buffer fits) at (taken_most (take end buffer) s e)

pub overflow_add-place : goal.overflow_add-place
overflow_add-place c =
    omega (arith, most _ _ _ c.feed-fed.ensures (omega (arith, c.requires, c.told-buffer)), c.args.turn.ready.counted, c.requires)

pub to_front-left-requires : goal.to_front-left-requires
to_front-left-requires c = (most _ _ _ c.feed-fed.ensures (omega (arith, c.requires, c.told-buffer)), c.requires)

pub returns-in-Ok : goal.returns-in-Ok
returns-in-Ok c =
    λ first input w.
    let args = c.args in
    let p = args.turn.pause in
    let b = args.buffer.now in
    let moved = c.to_front-left in
    let bytes = take-add p.left args.count b in
    let f = reached_follows (follows_more w _ _ _ _ (rw bytes at c.feed-fed.ensures)) c.in-Ok.field-0 (ap result_of c.in-Ok.is) in
    let some = length-drop c.feed-fed.result.taken (take p.left b ++ take args.count (drop p.left b)) in
    let all = length-take-le (p.left + args.count) b (omega (arith, c.requires, c.told-buffer)) in (
      record {
        short = omega (arith, follows_short f, some, ap length bytes, all, moved.ensures.value);
        further = omega arith;
        most = omega (arith, most _ _ _ c.feed-fed.ensures (omega (arith, c.requires, c.told-buffer)), c.requires);
        same = refl;
      },
      rw (moved.ensures.buffer_after, bytes) f,
    )

pub returns-in-Err : goal.returns-in-Err
returns-in-Err c =
    λ first input w.
    let args = c.args in
    let bytes = take-add args.turn.pause.left args.count args.buffer.now in
    reached_refused (follows_more w _ _ _ _ (rw bytes at c.feed-fed.ensures)) (ap result_of c.in-Err.is) c.put_refusal.ensures
