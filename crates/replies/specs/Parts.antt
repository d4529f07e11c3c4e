-- What writing a reply asks, and what it leaves. Assumes nothing.
use Rattle.std.specs.Prelude.{◌≡◌, List, ℕ, ◌≤◌, ◌<◌, ℤ, pos, length, get_or}
use Rattle.request.specs.Head.{most_points}
use Rattle.request.specs.declared.Answer.{Answer}
use Rattle.wire.specs.Words.{Short}
use Rattle.replies.specs.Reply.{reply_record, over}

pub record AllShort (numbers : List ℤ) : Type 0 where
  pub each : (k : ℕ) → k < length numbers → Short (get_or numbers k (pos 0))

-- an answer whose parts are a byte each
pub record InBytes (a : Answer) : Type 0 where
  pub number_fits : a.number < 256
  pub place_fits : a.place < 256
  pub few : a.count ≤ most_points

-- an answer that fits a reply, with its points
pub record Sendable (a : Answer) (points : List ℤ) : Type 0 where
  pub bytes : InBytes a
  pub all_points : length points ≡ a.count
  pub short : AllShort points

-- the reply's byte count, and the slice with the reply at its front
pub record Written (a : Answer) (points : List ℤ) (lent : List ℕ) (count : ℕ) (after : List ℕ) : Type 0 where
  pub counted : count ≡ length (reply_record a points)
  pub written : after ≡ over (reply_record a points) lent
