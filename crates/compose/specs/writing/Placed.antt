-- From the sums in their limbs to the three arrays. Assumes nothing.
use Rattle.std.specs.Prelude.{◌≡◌, List, ℕ, ◌*◌, ◌-◌, ◌^◌, ◌≤◌, ◌<◌, ℤ, pos, nat_abs, length, get_or, set}
use Rattle.whole.specs.Choose.{choose}
use Rattle.whole.specs.Round.{nearest}
use Rattle.limbs.specs.Limbs.{worth}
use Rattle.two_words.specs.Words.{high_word, low_word}
use Rattle.request.specs.Head.{most_degree, most_n, most_points}
use Rattle.lists.specs.Lists.{afterwards}
use Rattle.compose.specs.writing.Arrays.{Arrays}

-- numerator R over binomial(L, R)·1024^r, rounded
unfoldable pub rounded_at : List ℤ → ℕ → ℕ → ℕ → ℤ
rounded_at sums L r R = nearest (worth sums R) (choose L R * 1024 ^ r)

-- when a numerator n gives a travel at R: it is at most its denominator times the greatest travel
pub record PointAt (n : ℤ) (L r R : ℕ) : Type 0 where
  pub row : L ≤ most_degree * most_n
  pub here : R ≤ L
  pub few : r ≤ most_degree
  pub within : nat_abs n ≤ choose L R * 1024 ^ r * 4096

-- when each of the first `count` places of sums does
pub record PointsAt (sums : List ℤ) (count r : ℕ) : Type 0 where
  pub row : count ≤ most_points
  pub few : r ≤ most_degree
  pub long : 2 * count ≤ length sums
  pub small : (k : ℕ) → nat_abs (get_or sums k (pos 0)) ≤ 2 ^ 56
  pub within : (R : ℕ) → R < count → nat_abs (worth sums R) ≤ choose (count - 1) R * 1024 ^ r * 4096

-- room for `count` places in each array
pub record Enough (lent : Arrays) (count : ℕ) : Type 0 where
  pub high : count ≤ length lent.high
  pub low : count ≤ length lent.low
  pub points : count ≤ length lent.points

-- what stands at R is written to place R of each
pub record Put (sums : List ℤ) (L r R : ℕ) (lent left : Arrays) : Type 0 where
  pub high_is : left.high ≡ set lent.high R (high_word (worth sums R))
  pub low_is : left.low ≡ set lent.low R (low_word (worth sums R))
  pub points_is : left.points ≡ set lent.points R (rounded_at sums L r R)

-- and all that stands below `count`
pub record Wrote (sums : List ℤ) (L r count : ℕ) (lent left : Arrays) : Type 0 where
  pub high_is : left.high ≡ afterwards count (λ R. high_word (worth sums R)) lent.high
  pub low_is : left.low ≡ afterwards count (λ R. low_word (worth sums R)) lent.low
  pub points_is : left.points ≡ afterwards count (rounded_at sums L r) lent.points
