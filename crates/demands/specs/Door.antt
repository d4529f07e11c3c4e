-- What the door's contract promises: it leaves no choice, every reply is a whole record that says what was answered, and
-- the refusals that a record's length rules out are never given. Assumes nothing.
use Rattle.std.specs.Prelude.{◌≡◌, refl, Bool, not, ◌||◌, List, ◌∷◌, ◌++◌, ℕ, ◌+◌, ◌*◌, ◌/◌, ◌%◌, ◌≤◌, ◌<◌, ℤ, pos, T, eqb, get_or, drop}
use Rattle.std.proofs.Common.{ap, ◌∙◌, subst, drop_at, le-ltb, eq-eqb}
use native.Mathlib.Omega.{arith}
use Rattle.std.proofs.Math.ListN.{length}
use Rattle.whole.proofs.Determined.{Determined}
use Rattle.request.proofs.Forms.{longest-most}
use Rattle.request.specs.declared.Answer.{Answer}
use Rattle.request.specs.declared.Rooms.{Rooms}
use Rattle.request.specs.Head.{most_points, longest}
use Rattle.request.specs.Request.{Request}
use Rattle.request.specs.Cascade.{first, refused, decided}
use Rattle.request.specs.Refusal.{not_surface, not_path, not_room, accepted, refusals, answer}
use Rattle.request.proofs.Cascade.{Each, decided-is, past}
use Rattle.net.specs.Composed.{point}
use Rattle.wire.specs.Words.{Short, word_at, word_bytes, number_bytes, number_at}
use Rattle.wire.specs.Start.{start, length_field, kind_field, record_start, record_of}
use Rattle.replies.specs.Reply.{reply_kind, answer_bytes, reply_record, room, over}
use Rattle.judgement.specs.Record.{head_in, age_in, request_in}
use Rattle.judgement.specs.Judgement.{most_rooms, judged}
use Rattle.door.specs.Contract.{points_of, reply_by, reply_of, Answered}
use Rattle.wire.proofs.Words.{number_read}
use Rattle.replies.proofs.Over.{over-length}
use Rattle.replies.proofs.Replies.{reply-length}
use Rattle.judgement.proofs.Order.{Passed, judged-is}
use Rattle.door.proofs.Sending.{judged-fits, surface-read, path-read, points-length, points-at, sendable}
use Rattle.door.proofs.Room.{count_is, reply-is}

-- ---- any two results that the contract allows are equal
pub record Result : Type 0 where
  pub count : ℕ
  pub reply : List ℕ

pub determined : (request reply : List ℕ) → Determined (λ (r : Result). Answered request reply r.count r.reply)
determined request reply = record {
  value = record { count = _; reply = _ };
  only = λ r a t. record { count = a.counted t; reply = a.written t };
}

-- ---- every reply is a whole record
pub record Reply (request : List ℕ) (n : ℕ) (reply : List ℕ) : Type 0 where
  pub size : length_field reply ≡ n
  pub kind : kind_field reply ≡ reply_kind
  pub number : get_or reply 4 0 ≡ (judged request).number
  pub place : get_or reply 5 0 ≡ (judged request).place
  pub count : get_or reply 6 0 ≡ (judged request).count
  pub zero_byte : get_or reply 7 0 ≡ 0
  pub counted : n ≡ start + 2 * (judged request).count
  pub points : (R : ℕ) → R < (judged request).count → number_at reply start R ≡ point (request_in request) R

reply-size : (request : List ℕ) → length (reply_of request) ≡ start + 2 * (judged request).count
unfolding reply_by
reply-size request = rw (reply-length, points-length)

module _ (a : Answer) (points : List ℤ) (rest : List ℕ) where
  whole-size : length_field (reply_record a points ++ rest) ≡ length (reply_record a points)
  unfolding length_field word_at reply_record record_of record_start word_bytes answer_bytes
  whole-size = omega arith

  point-read : (R : ℕ) → R < length points → Short (get_or points R (pos 0)) → number_at (reply_record a points ++ rest) start R ≡ get_or points R (pos 0)
  unfolding reply_record record_of record_start word_bytes answer_bytes
  point-read R m s =
      let size = 4 + length (answer_bytes a ++ number_bytes points) in
      number_read (size % 256 ∷ size / 256 ∷ reply_kind % 256 ∷ reply_kind / 256 ∷ answer_bytes a) points rest R m s

  -- the bytes of a reply, read again
  says : (request : List ℕ) → a ≡ judged request → points ≡ points_of request → Reply request (length (reply_record a points)) (reply_record a points ++ rest)
  unfolding kind_field word_at reply_record record_of record_start word_bytes answer_bytes
  says request e f = record {
    size = whole-size;
    kind = refl;
    number = rw e;
    place = rw e;
    count = rw e;
    zero_byte = refl;
    counted = reply-length a points ∙ rw (f, points-length);
    points = λ R m.
        let s = sendable request in
        let l : R < length (points_of request) = omega (arith, points-length request) in
        point-read R (rw f l) (rw f (s.short.each R l)) ∙ rw f (points-at request R m);
  }

-- with room, the reply is such a record at the front of the slice, within it, and the slice beyond it stays
pub record Replied (request reply : List ℕ) (n : ℕ) (reply' : List ℕ) : Type 0 where
  pub record_is : Reply request n reply'
  pub within : n ≤ room
  pub same_length : length reply' ≡ length reply
  pub beyond : drop n reply' ≡ drop n reply

front : (request reply : List ℕ) → room ≤ length reply → Replied request reply (length (reply_of request)) (over (reply_of request) reply)
unfolding reply_by over
front request reply m =
    let n = reply-size request in
    let few = (judged-fits request).few in
    record {
      record_is = says (judged request) (points_of request) (drop (length (reply_of request)) reply) request refl refl;
      within = omega arith;
      same_length = over-length (reply_of request) reply (omega arith);
      beyond = drop_at (reply_of request) _ _ refl;
    }

pub replied : (request reply : List ℕ) (n : ℕ) (reply' : List ℕ) → room ≤ length reply → Answered request reply n reply' → Replied request reply n reply'
replied request reply n reply' m w = rw (w.counted ∙ count_is request reply m, w.written ∙ reply-is request reply m) (front request reply m)

-- ---- SURFACE, PATH and ROOM are never answered: a record that passes has the counts that its degrees say
pub record Never (number : ℕ) : Type 0 where
  pub surface : number ≡ 3 → ⊥
  pub path : number ≡ 4 → ⊥
  pub room : number ≡ 5 → ⊥

abbrev apart : ℕ → Bool
apart n = not (eqb n 3 || eqb n 4 || eqb n 5)

other : (number : ℕ) → T (apart number) → Never number
other number t = record { surface = λ e. subst (λ n. T (apart n)) e t; path = λ e. subst (λ n. T (apart n)) e t; room = λ e. subst (λ n. T (apart n)) e t }

-- the table of the composer behind its first six tests
last-three : (rq : Request) (age : ℕ) (rooms : Rooms) → Never (decided (first (drop 6 (refusals rq age rooms))) (accepted rq.head)).number
unfolding refusals refused accepted Each
last-three rq age rooms = decided-is (λ a. Never a.number) _ (accepted rq.head) (other 6 tt, (other 7 tt, (other 8 tt, tt))) (λ n. other 0 tt)

-- where no test of the door holds, only those three are left
last_word : (request : List ℕ) → Passed request
    → answer (request_in request) (age_in request) most_rooms
    ≡ decided (first (drop 6 (refusals (request_in request) (age_in request) most_rooms))) (accepted (request_in request).head)
unfolding request_in answer refusals not_surface not_path not_room
last_word request ok =
    let L = longest-most (head_in request) ok.degrees in
    let room = le-ltb most_points (longest (head_in request) + 1) (omega arith) in
    past _ _ _ ok.kind ∙ past _ _ _ ok.degrees ∙ past _ _ _ ok.fresh
    ∙ past _ _ _ (ap not (eq-eqb _ _ (surface-read request))) ∙ past _ _ _ (ap not (eq-eqb _ _ (path-read request))) ∙ past _ _ _ (rw room)

pub never : (request : List ℕ) → Never (judged request).number
unfolding refused
never request =
    let three = last-three (request_in request) (age_in request) most_rooms in
    judged-is request (λ a. Never a.number) (other 9 tt) (other 1 tt) (other 2 tt) (other 10 tt) (λ ok. rw (last_word request ok) three)
