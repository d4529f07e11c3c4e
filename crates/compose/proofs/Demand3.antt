-- Demand 3, of any result that the definitions allow: where a request is accepted, the curve drawn with the array of points
-- as it is afterwards is, at every moment k/q, within half a unit of the surface at the path's place. Both are read by
-- Bernstein's formula and scaled alike by 1024^r·q^L, so that every number is whole. Assumes nothing.
use mathlib.Core.Path.{◌≡◌, ap}
use Prim.Native.Nat.{ℕ, ◌*◌, ◌^◌, ◌≤◌}
use native.Mathlib.Omega.{arith}
use lib.IntN.{pos, nat_abs, ◌-ℤ◌, ◌*ℤ◌}
use lib.ListN.{get_or}
use Rattle.request.specs.declared.Answer.{Answer}
use Rattle.request.specs.Head.{degree, longest}
use Rattle.request.specs.Request.{Request}
use Rattle.request.specs.Refusal.{answer, accepted}
use Rattle.request.proofs.Accepted.{accepts}
use Rattle.net.specs.Composed.{point}
use Rattle.net.specs.Reading.{drawn, surface_read}
use Rattle.net.proofs.Moment.{moment, drawn-is}
use Rattle.compose.specs.Afterwards.{Arrays, rooms_of, points_after}
use Rattle.lists.proofs.Written.{afterwards-at}

points-at : (rq : Request) (age : ℕ) (lent : Arrays) → (answer rq age (rooms_of lent)).number ≡ 0
    → (R : ℕ) → R ≤ longest rq.head → get_or (points_after rq age lent) R (pos 0) ≡ point rq R
unfolding points_after accepted
points-at rq age lent zero_is R h =
    afterwards-at _ (point rq) lent.points R (pos 0) (omega (arith, ap (λ (a : Answer). a.count) (accepts rq age (rooms_of lent) zero_is).answered))

pub demand3 : (rq : Request) (age : ℕ) (lent : Arrays) → (answer rq age (rooms_of lent)).number ≡ 0 → (k q : ℕ) → k ≤ q
    → nat_abs (pos 2 *ℤ (pos (1024 ^ degree rq.head) *ℤ drawn (longest rq.head) (points_after rq age lent) k q -ℤ surface_read rq k q))
    ≤ 1024 ^ degree rq.head * q ^ longest rq.head
demand3 rq age lent zero_is k q h =
    rw (drawn-is (longest rq.head) (points_after rq age lent) k q (point rq) (points-at rq age lent zero_is)) (moment rq k q h)
