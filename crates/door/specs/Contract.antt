-- The door's contract: two equations that fix the answered count and every byte of the reply slice, for every request and
-- every reply slice. Assumes nothing.
use Rattle.std.specs.Prelude.{◌≡◌, cond, List, ℕ, ℤ, ltb, length}
use Rattle.net.specs.Composed.{point}
use Rattle.compose.specs.Afterwards.{list_below}
use Rattle.replies.specs.Reply.{reply_record, room, over}
use Rattle.judgement.specs.Record.{Reading, today, request_in}
use Rattle.judgement.specs.Judgement.{judged_by}

-- the points of the reply, as many as the answer's count
unfoldable pub points_by : Reading → List ℕ → List ℤ
points_by reading request = list_below (judged_by reading request).count (point (request_in request))

abbrev pub points_of : List ℕ → List ℤ
points_of = points_by today

-- the reply to a request by either reading, and today's
unfoldable pub reply_by : Reading → List ℕ → List ℕ
reply_by reading request = reply_record (judged_by reading request) (points_by reading request)

abbrev pub reply_of : List ℕ → List ℕ
reply_of = reply_by today

-- "Under [58] bytes of reply room nothing is written and 0 is answered; otherwise the reply's byte count is answered"
unfoldable pub count_answered : List ℕ → List ℕ → ℕ
count_answered request reply = cond (ltb (length reply) room) 0 (length (reply_of request))

unfoldable pub reply_after : List ℕ → List ℕ → List ℕ
reply_after request reply = cond (ltb (length reply) room) reply (over (reply_of request) reply)

pub record Answered (request reply : List ℕ) (count : ℕ) (reply' : List ℕ) : Type 0 where
  pub counted : count ≡ count_answered request reply
  pub written : reply' ≡ reply_after request reply
