-- What feeding leaves is what a run leaves. By `by_feeding`: an event that is taken goes on with a run, or begins one where it is a fresh start,
-- and the accepted references of a refused one go on with it. Assumes nothing.
use Prim.Native.Nat.{ℕ, ◌+◌}
use mathlib.Core.Path.{◌≡◌, refl, sym, ap, subst, ◌∙◌}
use mathlib.Core.List.{List, [], ◌∷◌, ◌++◌}
use native.Mathlib.Omega.{arith}
use lib.ListN.{drop}
use lib.Seq.{drop-drop}
use Rattle.rules.specs.declared.Settings.{Settings}
use Rattle.rules.specs.Answers.{Result, refused, gives}
use Rattle.rules.specs.declared.Got.{Got}
use Rattle.rules.specs.Events.{read_of, fresh_start}
use Rattle.rules.specs.Layout.{Tracker}
use Rattle.rules.specs.History.{Reference}
use Rattle.rules.proofs.Tests.{cases, clash}
use Rattle.rules.proofs.Events.{read_empty}
use Rattle.demands.specs.Spans.{Made, none as nothing, more}
use Rattle.demands.specs.Needed.{needed_by, SameBeyond, settings_under, most_needed}
use Rattle.demands.proofs.Spans.{made_continues}
use Rattle.demands.proofs.Needed.{same_all, made_beyond, only_needed, beyond_both}
use Rattle.feed.specs.declared.End.{End}
use Rattle.feed.specs.Feed.{Feeding, stopped, further, feed_of, left_by}
use Rattle.feed.specs.Past.{past_after, none, one, references_next, Ran}
use Rattle.rules.proofs.Fronts.{drop_take, read_front}
use Rattle.feed.proofs.Laws.{Took, by_feeding}
use Rattle.feed.proofs.Pieces.{alone_none, alone_goes}

-- what references need that were made, if any was
made_needed : {made : List Reference} {s after : Tracker} → Made made s after
    → SameBeyond (most_needed [] made s.kept.settings) s.tables after.tables
made_needed {s = s} nothing = same_all _ s.tables
made_needed (more e t) = made_beyond (more e t)

-- no event was taken, and these references were made
stands : (bytes : List ℕ) (s left : Tracker) (why : Result End) (r : Result Got) → read_of bytes ≡ r → left ≡ left_by r s → (made rest : List Reference)
    → made ++ rest ≡ references_next r → Made made s left → Ran bytes s (stopped why left)
stands bytes s left why r e l made rest are m = record {
  events = [];
  are = none;
  alone = alone_none bytes s r e l;
  made = made;
  rest = rest;
  accepted = m;
  first_part = rw e are;
  continued = λ past run. made_continues m past run;
  from_fresh_start = λ b. clash b refl;
  only_needed = made_needed m;
}

module _ (bytes : List ℕ) (s : Tracker) (g : Got) (left : Tracker) (e : read_of bytes ≡ gives g) (t : Took g.event s left) where
  abbrev set : Settings
  set = settings_under g.event s.kept.settings

  here : SameBeyond (needed_by set) s.tables left.tables
  here = subst (λ o. SameBeyond (needed_by set) s.tables o.left.tables) t.is (only_needed.by_apply g.event s)

  goes_on : (f : Feeding) → Ran (drop g.taken bytes) left f → Ran bytes s (further g.taken f)
  goes_on f r = record {
    events = g.event ∷ r.events;
    alone = alone_goes bytes s g left e t f r.alone;
    made = r.made;
    rest = r.rest;
    accepted = r.accepted;
    first_part = r.first_part ∙ ap (λ l. references_next (read_of l)) (drop-drop f.taken g.taken bytes);
    are = one {es = r.events} (read_front (g.taken + f.taken) bytes e (omega arith)) (rw (drop_take g.taken f.taken bytes) r.are);
    continued = λ past run. r.continued (past_after g.event past) (t.runs past run);
    from_fresh_start = λ b past. cases (fresh_start g.event)
        (λ is. r.continued (past_after g.event past) (t.begins is past))
        (λ is. r.from_fresh_start (rw is at b) (past_after g.event past));
    only_needed = beyond_both (needed_by set) (most_needed r.events r.made set) s.tables left.tables f.left.tables here
        (subst (λ z. SameBeyond (most_needed r.events r.made z) left.tables f.left.tables) t.under r.only_needed);
  }

pub ran : (bytes : List ℕ) (s : Tracker) → Ran bytes s (feed_of bytes s)
ran = by_feeding Ran
    (λ s. stands [] s s _ (refused 7) (read_empty [] refl) refl [] [] refl nothing)
    (λ bytes s some e. stands bytes s s _ (refused 7) e refl [] [] refl nothing)
    (λ bytes s n other some e. stands bytes s s _ (refused n) e refl [] [] refl nothing)
    (λ bytes s g n left e q.
    stands bytes s left _ (gives g) e (sym (ap (λ o. o.left) q.is)) q.made q.rest q.are q.accepted)
    (λ bytes s g left e t r. goes_on bytes s g left e t (feed_of (drop g.taken bytes) left) r)
