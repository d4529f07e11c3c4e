-- The composer's contract: five equations that fix the answer, the entries and every place of the three arrays, for every input.
-- Assumes nothing.
use Rattle.std.specs.Prelude.{◌≡◌, ℕ}
use Rattle.request.specs.Request.{Request}
use Rattle.request.specs.Refusal.{answer}
use Rattle.compose.specs.declared.Composition.{Composition}
use Rattle.compose.specs.Afterwards.{Arrays, rooms_of, high_after, low_after, points_after, entries_after}

-- age is that of the tilt sample, lent the arrays as they were lent and left as they are afterwards
pub record Composed (rq : Request) (age : ℕ) (lent : Arrays) (c : Composition) (left : Arrays) : Type 0 where
  pub answered : c.answer ≡ answer rq age (rooms_of lent)
  pub counted : c.entries ≡ entries_after rq age lent
  pub high_is : left.high ≡ high_after rq age lent
  pub low_is : left.low ≡ low_after rq age lent
  pub points_is : left.points ≡ points_after rq age lent
