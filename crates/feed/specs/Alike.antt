-- Document 01's one exception, of feeding: the places of the location table from the live number on. Assumes nothing.
use Rattle.std.specs.Prelude.{◌≡◌, List, ℕ}
use Rattle.rules.specs.Layout.{Tracker}
use Rattle.demands.specs.Refusing.{Agree}
use Rattle.feed.specs.Feed.{Feeding, feed_of}

-- trackers that agree except there are fed alike, and agree so again
pub record FedAlike (f h : Feeding) : Type 0 where
  pub same_taken : f.taken ≡ h.taken
  pub same_result : f.result ≡ h.result
  pub agree : Agree f.left h.left

abbrev pub FeedAgrees : Type 0
FeedAgrees = (bytes : List ℕ) (s t : Tracker) → Agree s t → FedAlike (feed_of bytes s) (feed_of bytes t)
