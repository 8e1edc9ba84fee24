-- Which event is refused. Only so: by `by_feeding`. Always so: the bytes before it and those from it on are two pieces, and fed after the first
-- the second is refused at once. Assumes nothing.
use Prim.Native.Nat.{ℕ, ◌<◌}
use mathlib.Core.Path.{◌≡◌, refl, sym, ap, subst, ◌∙◌}
use mathlib.Core.List.{List, [], ◌++◌}
use native.Mathlib.Nat.{add-zero}
use native.Mathlib.Omega.{arith}
use lib.Dec.{eqb}
use lib.ListN.{length, take, drop, take-append-drop}
use lib.Seq.{drop-drop}
use borrow.Author.Tests.{eq-eqb, ne_eqb, eqb-true, eqb-false}
use Rattle.rules.specs.declared.Event.{Event}
use Rattle.rules.specs.Answers.{Result, refused, gives}
use Rattle.rules.specs.declared.Got.{Got}
use Rattle.rules.specs.Order.{says}
use Rattle.rules.specs.Events.{read_of}
use Rattle.rules.specs.Layout.{Tracker}
use Rattle.rules.specs.Calls.{apply_of}
use Rattle.rules.proofs.Tests.{cases}
use Rattle.rules.proofs.Answers.{refused_same}
use Rattle.rules.proofs.Order.{not_both}
use Rattle.rules.proofs.Events.{read_empty, taken}
use Rattle.rules.proofs.Fronts.{drop_take, read_named}
use Rattle.demands.specs.Refusing.{apply_order, FirstIs}
use Rattle.demands.proofs.Refusing.{in_order, apply_in_order}
use Rattle.feed.specs.Feed.{Feeding, stopped, further, after_event, feed_of, resumed, left_by}
use Rattle.feed.specs.Refused.{next_order, RefusedAfter, FeedInOrder}
use Rattle.feed.proofs.Laws.{apply_either, feed_reads, by_feeding}
use Rattle.feed.proofs.Pieces.{pieces, alone_none, alone_goes}

-- ---- only so

-- the first refusal of an order is that of any event, as `apply_of` gives it
event_first : (e : Event) (s : Tracker) (n : ℕ) → (apply_of e s).result ≡ refused n → FirstIs n (apply_order e s)
event_first e s n r = in_order.only_so (apply_order e s) tt n (sym (apply_in_order e s) ∙ r)

-- what cannot be read is refused by the number that reading gave
unread_first : (bytes : List ℕ) (s : Tracker) {n : ℕ} → (n ≡ 7 → ⊥) → read_of bytes ≡ refused n → FirstIs n (next_order (refused n) s)
unread_first bytes s {n} other e = read_named bytes other e
    (λ eight. record { place = 0; first = eq-eqb n 8 eight; numbered = sym eight })
    (λ ten. record { place = 1; first = (ne_eqb n 8 (λ z. omega arith), eq-eqb n 10 ten); numbered = sym ten })

only : (bytes : List ℕ) (s : Tracker) (n : ℕ) → (feed_of bytes s).result ≡ refused n → RefusedAfter n bytes s (feed_of bytes s)
only = by_feeding (λ bytes s f. (n : ℕ) → f.result ≡ refused n → RefusedAfter n bytes s f)
    (λ s n r. absurd (not_both r refl))
    (λ bytes s some e n r. absurd (not_both r refl))
    (λ bytes s m other some e n r. record {
      alone = alone_none bytes s (refused m) e refl;
      next = rw (e, ← refused_same r) (unread_first bytes s other e);
    })
    (λ bytes s g m left e q n r. record {
      alone = alone_none bytes s (gives g) e (sym (ap (λ o. o.left) q.is));
      next = rw e (event_first g.event s n (ap (λ o. o.result) q.is ∙ ap refused (refused_same r)));
    })
    (λ bytes s g left e t h n r.
    let f = feed_of (drop g.taken bytes) left in
    let w = h n r in
    record {
      alone = alone_goes bytes s g left e t f w.alone;
      next = subst (λ rest. FirstIs n (next_order (read_of rest) w.alone.between)) (drop-drop f.taken g.taken bytes) w.next;
    })

-- ---- always so

pub event_refused : (e : Event) (s : Tracker) (n : ℕ) → FirstIs n (apply_order e s) → (apply_of e s).result ≡ refused n
event_refused e s n x = apply_in_order e s ∙ in_order.always_so (apply_order e s) tt n x

-- what cannot be read has one refusal, its own, and an incomplete event has none
pub unread_named : (m n : ℕ) (s : Tracker) → FirstIs n (next_order (refused m) s) → (m ≡ n) × (m ≡ 7 → ⊥)
unread_named m n s x =
    let refuses : says {A = Unit {0}} (next_order (refused m) s) tt ≡ refused n = in_order.always_so (next_order (refused m) s) tt n x in
    cases (eqb m 8)
    (λ q. let eight = eqb-true m 8 q in (eight ∙ refused_same (rw q at refuses), λ z. omega arith))
    (λ q. cases (eqb m 10)
    (λ t. let ten = eqb-true m 10 t in (ten ∙ refused_same (rw (q, t) at refuses), λ z. omega arith))
    (λ t. absurd (not_both refuses (rw (q, t)))))

-- an event whose first refusal is n stops feeding at once
module _ (bytes : List ℕ) (s : Tracker) (n : ℕ) where
  some_bytes : {r : Result Got} → read_of bytes ≡ r → (r ≡ refused 7 → ⊥) → 0 < length bytes
  some_bytes e other = cases (eqb (length bytes) 0)
      (λ z. absurd (other (sym e ∙ read_empty bytes (eqb-true _ _ z))))
      (λ z. omega (arith, eqb-false (length bytes) 0 z))

  at_once : (r : Result Got) → read_of bytes ≡ r → FirstIs n (next_order r s) → feed_of bytes s ≡ stopped (refused n) (left_by r s)
  at_once (refused m) e x =
      let w = unread_named m n s x in
      feed_reads bytes s (some_bytes e (λ z. w.1 (refused_same z))) (refused m) e ∙ rw (ne_eqb m 7 w.1, w.0)
  at_once (gives g) e x =
      let refuses = event_refused g.event s n x in
      apply_either s g.event
      (λ left t. absurd (not_both refuses (ap (λ o. o.result) t.is)))
      (λ m left q.
      let same : m ≡ n = refused_same {A = Unit {0}} (sym (ap (λ o. o.result) q.is) ∙ refuses) in
      feed_reads bytes s (omega (arith, taken bytes e)) (gives g) e
      ∙ ap (λ o. after_event feed_of g.taken bytes o.result o.left) q.is
      ∙ (λ i. stopped (refused (same i)) (sym (ap (λ o. o.left) q.is) i)))

module _ (bytes : List ℕ) (s : Tracker) (n : ℕ) (f : Feeding) (r : f.result ≡ refused n) (x : RefusedAfter n bytes s f) where
  -- nothing is left of the bytes before the event
  nothing_between : drop f.taken (take f.taken bytes) ≡ []
  nothing_between = ap (λ m. drop f.taken (take m bytes)) (sym (add-zero f.taken)) ∙ drop_take f.taken 0 bytes

  always : feed_of bytes s ≡ f
  always =
      let k = f.taken in
      let w = x.alone in
      ap (λ l. feed_of l s) (sym (take-append-drop k bytes)) ∙ pieces (take k bytes) (drop k bytes) s
      ∙ ap (λ o. resumed o (take k bytes) (drop k bytes)) w.before
      ∙ ap (λ (l : List ℕ). further k (feed_of (l ++ drop k bytes) w.between)) nothing_between
      ∙ ap (further k) (at_once (drop k bytes) w.between n (read_of (drop k bytes)) refl x.next)
      ∙ (λ i. record { taken = add-zero k i; result = sym r i; left = sym w.left_is i })

pub feed_in_order : FeedInOrder
feed_in_order = record { only_so = only; always_so = always }
