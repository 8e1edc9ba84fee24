-- Demand 1, of feeding: which event is refused, for what, and what is left then. Assumes nothing.
use Rattle.std.specs.Prelude.{ℕ, ◌≡◌, List, [], ◌∷◌, eqb, drop}
use Rattle.rules.specs.declared.Refusal.TheVariants as refusal
use Rattle.rules.specs.Answers.{Result, refused, gives}
use Rattle.rules.specs.declared.Got.{Got}
use Rattle.rules.specs.Order.{Judged, ◌when◌}
use Rattle.rules.specs.Events.{read_of}
use Rattle.rules.specs.Layout.{Tracker}
use Rattle.demands.specs.Refusing.{apply_order, FirstIs}
use Rattle.feed.specs.Feed.{Feeding, feed_of, TakenAlone}

-- the refusals of the next event: 8, 10, then those of the calls that it stands for; an incomplete event has none yet
abbrev pub next_order : Result Got → Tracker → List Judged
next_order (refused n) s = (refusal.Kind when eqb n 8) ∷ (refusal.Overrun when eqb n 10) ∷ []
next_order (gives g) s = apply_order g.event s

-- the bytes that were taken, fed alone, are accepted to their end; of the event behind them, on what they left, n is the first refusal,
-- and what that event leaves is left
pub record RefusedAfter (n : ℕ) (bytes : List ℕ) (s : Tracker) (f : Feeding) : Type 0 where
  pub alone : TakenAlone bytes s f
  pub next : FirstIs n (next_order (read_of (drop f.taken bytes)) alone.between)

-- feeding is refused n only so, and always so
pub record FeedInOrder : Type 0 where
  pub only_so : (bytes : List ℕ) (s : Tracker) (n : ℕ) → (feed_of bytes s).result ≡ refused n → RefusedAfter n bytes s (feed_of bytes s)
  pub always_so : (bytes : List ℕ) (s : Tracker) (n : ℕ) (f : Feeding) → f.result ≡ refused n → RefusedAfter n bytes s f → feed_of bytes s ≡ f
