-- What is answered at the door fits a reply: number, place and count a byte each, and each point two bytes. Assumes nothing.
use mathlib.Core.Path.{◌≡◌, ap}
use mathlib.Core.Bool.{false}
use mathlib.Core.List.{List, [], append-nil}
use Prim.Native.Nat.{ℕ, ◌≤◌, ◌<◌}
use native.Mathlib.Decide.{ℕ_discrete}
use native.Mathlib.Omega.{arith}
use lib.IntN.{ℤ, pos, negsuc, nat_abs}
use lib.ListN.{length, get_or, take}
use Rattle.request.specs.declared.Answer.{Answer}
use Rattle.request.specs.declared.Rooms.{Rooms}
use Rattle.request.specs.Head.{most_path_numbers, surface_count, path_count}
use Rattle.request.specs.Request.{Request}
use Rattle.request.specs.Cascade.{refused}
use Rattle.request.specs.Refusal.{not_degree, accepted, refusals, answer}
use Rattle.request.proofs.Forms.{small, longest-most}
use Rattle.request.proofs.Bounds.{value-most, parameter-most, balance-most}
use Rattle.request.proofs.Cascade.{Each, decided-is}
use Rattle.request.proofs.Accepted.{accepts, refusal-empty}
use Rattle.net.specs.Composed.{point}
use Rattle.net.proofs.Bounds.{point-size}
use Rattle.lists.proofs.Written.{below_at, below_length}
use Rattle.compose.proofs.Entry.{composable}
use Rattle.wire.specs.Words.{Short}
use Rattle.replies.specs.Parts.{InBytes, Sendable}
use Rattle.judgement.specs.Record.{head_in, age_in, request_in}
use Rattle.judgement.specs.Judgement.{most_rooms, composed, judged}
use Rattle.judgement.proofs.Sizes.{surface-most, path-most}
use Rattle.judgement.proofs.Order.{Passed, judged-is}
use Rattle.door.specs.Contract.{points_by, points_of}
use Rattle.door.specs.Given.{Given}
use Rattle.door.proofs.Composing.{first-places}

-- ---- the answer
refusal-fits : (number place : ℕ) → number < 256 → place < 256 → InBytes (refused number place)
unfolding refused
refusal-fits number place m n = record { number_fits = m; place_fits = n; few = omega arith }

module _ (rq : Request) (d : not_degree rq.head ≡ false) (s : length rq.surface ≤ 15) (p : length rq.path ≤ most_path_numbers) where
  accepted-fits : InBytes (accepted rq.head)
  unfolding accepted
  accepted-fits = record { number_fits = omega arith; place_fits = omega arith; few = omega (arith, longest-most rq.head d) }

  composer-fits : (age : ℕ) (rooms : Rooms) → InBytes (answer rq age rooms)
  unfolding answer refusals Each
  composer-fits age rooms =
      let at-0 : (number : ℕ) → number < 256 → InBytes (refused number 0) = λ number m. refusal-fits number 0 m (omega arith) in
      decided-is InBytes (refusals rq age rooms) (accepted rq.head) (
        at-0 1 (omega arith),
        (
          at-0 2 (omega arith),
          (
            at-0 10 (omega arith),
            (
              at-0 3 (omega arith),
              (
                at-0 4 (omega arith),
                (
                  at-0 5 (omega arith),
                  (
                    refusal-fits 6 _ (omega arith) (omega (arith, value-most rq.surface)),
                    (
                      refusal-fits 7 _ (omega arith) (omega (arith, parameter-most rq.path)),
                      (refusal-fits 8 _ (omega arith) (omega (arith, balance-most rq.path rq.head.N, (small rq.head d).N_most)), tt),
                    ),
                  ),
                ),
              ),
            ),
          ),
        ),
      )
      (λ n. accepted-fits)

-- as many numbers as the head asks for
pub surface-read : (request : List ℕ) → length (request_in request).surface ≡ surface_count (head_in request)
unfolding request_in
surface-read request = below_length _ _

pub path-read : (request : List ℕ) → length (request_in request).path ≡ path_count (head_in request)
unfolding request_in
path-read request = below_length _ _

passed-fits : (request : List ℕ) → Passed request → InBytes (composed request)
unfolding request_in
passed-fits request ok =
    composer-fits (request_in request) ok.degrees
    (omega (arith, surface-read request, surface-most (head_in request) ok.degrees))
    (omega (arith, path-read request, path-most (head_in request) ok.degrees))
    (age_in request) most_rooms

pub judged-fits : (request : List ℕ) → InBytes (judged request)
judged-fits request =
    let at-0 : (number : ℕ) → number < 256 → InBytes (refused number 0) = λ number m. refusal-fits number 0 m (omega arith) in
    judged-is request InBytes (at-0 9 (omega arith)) (at-0 1 (omega arith)) (at-0 2 (omega arith)) (at-0 10 (omega arith))
    (passed-fits request)

-- ---- the points
composer-point : (rq : Request) (age : ℕ) (rooms : Rooms) (R : ℕ) → R < (answer rq age rooms).count → nat_abs (point rq R) ≤ 4096
unfolding accepted
composer-point rq age rooms R m = go (ℕ_discrete (answer rq age rooms).number 0)
  where
    go : Dec ((answer rq age rooms).number ≡ 0) → nat_abs (point rq R) ≤ 4096
    go (yes z) =
        let f = accepts rq age rooms z in
        point-size rq (composable rq age rooms f) R (omega (arith, ap (λ (a : Answer). a.count) f.answered))
    go (no n) = absurd (omega (arith, refusal-empty rq age rooms n))

-- no point is above the greatest travel
pub point-most : (request : List ℕ) (R : ℕ) → R < (judged request).count → nat_abs (point (request_in request) R) ≤ 4096
unfolding refused
point-most request R =
    judged-is request (λ a. R < a.count → nat_abs (point (request_in request) R) ≤ 4096)
    (λ m. absurd (omega arith)) (λ m. absurd (omega arith)) (λ m. absurd (omega arith)) (λ m. absurd (omega arith))
    (λ ok. composer-point (request_in request) (age_in request) most_rooms R)

short : (z : ℤ) → nat_abs z ≤ 4096 → Short z
short (pos n) m = omega arith
short (negsuc n) m = omega arith

pub points-at : (request : List ℕ) (R : ℕ) → R < (judged request).count → get_or (points_of request) R (pos 0) ≡ point (request_in request) R
unfolding points_by
points-at request R m = rw append-nil at (below_at (judged request).count (point (request_in request)) [] R (pos 0) m)

pub points-length : (request : List ℕ) → length (points_of request) ≡ (judged request).count
unfolding points_by
points-length request = below_length _ _

pub sendable : (request : List ℕ) → Sendable (judged request) (points_of request)
sendable request = record {
  bytes = judged-fits request;
  all_points = points-length request;
  short = record {
    each = λ k m.
        let l : k < (judged request).count = omega (arith, points-length request) in
        rw (points-at request k l) (short (point (request_in request) k) (point-most request k l));
  };
}

-- what is sent of the places that the composer was lent
pub points-sent : (request : List ℕ) (points : List ℤ) (a : Answer) (points' : List ℤ) → Given request (judged request) points a points'
    → take a.count points' ≡ points_of request
unfolding points_by
points-sent request points a points' g = rw (g.points_is, g.answered) (first-places _ _ points)
