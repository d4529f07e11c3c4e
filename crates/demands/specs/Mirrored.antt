-- At the door (rule Port and starboard; 02, ticket 2): of a request and of its mirror image, written as records, the replies have
-- the same answer, and the points of the one are the negated points of the other. Assumes nothing.
use Rattle.std.specs.Prelude.{◌≡◌, refl, map, ℕ, zero, suc, ℤ, neg_ℤ}
use Rattle.std.proofs.Math.Option.{Option}
use Rattle.request.specs.Request.{Request}
use Rattle.net.specs.Composed.{point}
use Rattle.net.specs.Mirror.{mirrored}
use Rattle.net.proofs.Mirror.{answer-mirrored, point-mirrored}
use Rattle.compose.specs.Afterwards.{list_below}
use Rattle.replies.specs.Reply.{reply_record}
use Rattle.judgement.specs.Record.{request_record}
use Rattle.judgement.specs.Judgement.{most_rooms, judged}
use Rattle.door.specs.Contract.{points_by, points_of, reply_by, reply_of}
use Rattle.demands.specs.Asked.{Fits, milliseconds, Askable, read_again, answered-alike}

negated : (n : ℕ) (f g : ℕ → ℤ) → ((k : ℕ) → g k ≡ neg_ℤ (f k)) → list_below n g ≡ map neg_ℤ (list_below n f)
unfolding list_below
negated zero f g e = refl
negated (suc n) f g e = rw (e 0, negated n (λ k. f (suc k)) (λ k. g (suc k)) (λ k. e (suc k)))

module _ (rq : Request) (age : Option ℕ) (fits : Fits age) (ok : Askable rq) (ok' : Askable (mirrored rq)) where
  pub judged-mirrored : judged (request_record (mirrored rq) age) ≡ judged (request_record rq age)
  judged-mirrored =
      rw (answered-alike (mirrored rq) age ok' fits, answered-alike rq age ok fits)
      (answer-mirrored rq (milliseconds age) most_rooms)

  pub points-mirrored : points_of (request_record (mirrored rq) age) ≡ map neg_ℤ (points_of (request_record rq age))
  unfolding points_by
  points-mirrored =
      rw (judged-mirrored, read_again (mirrored rq) age ok', read_again rq age ok)
      (negated _ (point rq) (point (mirrored rq)) (point-mirrored rq))

  pub reply-mirrored : reply_of (request_record (mirrored rq) age) ≡ reply_record (judged (request_record rq age)) (map neg_ℤ (points_of (request_record rq age)))
  unfolding reply_by
  reply-mirrored = rw (judged-mirrored, points-mirrored)
