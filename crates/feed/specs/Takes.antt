-- What a part adds to a state, over any way to add a pair: the pairs that it makes whole are added one after the other, and what has begun of
-- the next one is kept. That a state which adds by a function has what the feed gathers is in proofs/Taking.antt. Assumes nothing.
use Rattle.std.specs.Prelude.{◌≡◌, List, [], ◌∷◌, ◌++◌, ℕ}
use Rattle.std.specs.List.{FoldsTo}
use Rattle.std.specs.Fn.{Shared}
use denote.Ref.{Bor}
use Rattle.pairs.specs.Cut.{Pair, pair_in, longest_record}
use Rattle.feed.specs.Feed.{Feed, stepped, held_of, feed_in}
use Rattle.feed.specs.Parts.{fed}

-- one pair more in a list
unfoldable pub listed : List Pair → Pair → List Pair
listed pairs pair = pairs ++ pair ∷ []

-- the pairs that a part makes whole, and what is left behind them
unfoldable pub parted : List ℕ → ℕ → List ℕ → Feed (List Pair)
parted held rest part = fed (stepped longest_record listed) (feed_in held rest []) part

-- a call at a state and the bytes of a pair may give this
pub record Adds {F S : Type 0} (g : Shared F (S × (Bor (List ℕ) × Unit {0})) S) (f : F) (s : S) (pair : Pair) (s' : S) : Type 0 where
  pub shown : Bor (List ℕ)
  pub shows : pair_in shown.now ≡ pair
  pub met : g.post f (s, (shown, tt)) s'

-- the pairs of a part were added, in their order; the array holds what is left of it, and nothing else
pub record Takes {S : Type 0} (adds : S → Pair → S → Type 0) (held : List ℕ) (rest : ℕ) (s : S) (part held' : List ℕ) (rest' : ℕ) (s' : S)
    : Type 0 where
  pub added : FoldsTo adds s (parted held rest part).gathered s'
  pub rest_is : rest' ≡ (parted held rest part).rest
  pub held_is : held' ≡ held_of (parted held rest part).kept
