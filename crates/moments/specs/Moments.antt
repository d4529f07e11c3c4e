-- The theorem of ticket 9 (rule Reading at a tick), of every reading that the contract of `tick::read` allows: how near it is to
-- the curve and, of a net that the composer answered, to the surface at the path's place. Both sides are scaled to whole numbers,
-- and read by Bernstein's formula (Rattle.net.specs.Reading). That no choice is left is `determined` in
-- Rattle.tick.proofs.Answered, that port and starboard mirror `told-mirrored` in Rattle.tick.proofs.Mirror. Assumes nothing.
use Rattle.std.specs.Prelude.{◌≡◌, List, [], ℕ, suc, ◌+◌, ◌*◌, ◌-◌, ◌^◌, ◌≤◌, ℤ, pos, nat_abs, ◌-ℤ◌, ◌*ℤ◌, length, get_or, take}
use Rattle.std.proofs.Common.{sym, ◌∙◌, append-nil, mul_left_comm, add-mul, arith}
use Rattle.std.proofs.Math.Path.{ap}
use Rattle.whole.proofs.Ring.{◌⊖◌, ◌⊗◌, pos-mul}
use Rattle.request.specs.declared.Answer.{Answer}
use Rattle.request.specs.Head.{degree, longest}
use Rattle.request.specs.Request.{Request}
use Rattle.request.specs.Refusal.{answer, accepted}
use Rattle.request.proofs.Accepted.{Accepted, accepts}
use Rattle.request.proofs.Forms.{longest-most}
use Rattle.request.proofs.Bounds.{all-travels}
use Rattle.net.specs.Composed.{point}
use Rattle.net.specs.Reading.{drawn, surface_read}
use Rattle.net.proofs.Bounds.{point-size}
use Rattle.net.proofs.Moment.{moment, drawn-is}
use Rattle.compose.specs.Afterwards.{Arrays, list_below, rooms_of, points_after}
use Rattle.lists.proofs.Written.{below_at, below_length}
use Rattle.compose.proofs.Entry.{composable}
use Rattle.door.proofs.Composing.{first-places}
use Rattle.demands.specs.Demands.{Result, Allowed}
use Rattle.tick.specs.declared.Tick.{Tick}
use Rattle.tick.specs.Reading.{reading}
use Rattle.tick.specs.Told.{told}
use Rattle.tick.proofs.Answered.{Readable, readable, reading-is, read_at}
use Rattle.moments.specs.Near.{nearer, reading-near}

-- Any net. Where it is read, the reading lies within L/131072 of a unit of the curve read exactly at k/1024, of degree L = one
-- less than its points: twice the difference, both scaled by 65,536·1024^L, is at most L·1024^L.
pub record NearCurve (points : List ℤ) (k : ℕ) (t : Tick) : Type 0 where
  pub within : t.number ≡ 0
      → nat_abs (pos 2 *ℤ (pos (1024 ^ (length points - 1)) *ℤ t.reading -ℤ pos 65536 *ℤ drawn (length points - 1) points k 1024))
      ≤ (length points - 1) * 1024 ^ (length points - 1)

pub near-curve : (points : List ℤ) (k : ℕ) (t : Tick) → t ≡ told points k → NearCurve points k t
unfolding told ◌⊖◌ ◌⊗◌
near-curve points k t e = record {
  within = λ zero_is.
      let z : (told points k).number ≡ 0 = ap (λ (t : Tick). t.number) (sym e) ∙ zero_is in
      let r = readable points k z in
      let some = r.some in
      rw (e, reading-is points k z) (reading-near points k (length points - 1) r.early (omega arith));
}

-- the net that a result of the composer holds: the first L + 1 of its points
abbrev pub net : Result → List ℤ
net r = take r.answer.count r.left.points

-- "For a net that the composer answered, the result lies within 1/2 + L/131072 of a unit of the surface at the path's place."
-- Where the composer accepts a request, its net is read at every k from 0 to 1,024, and twice the difference of the reading
-- and the surface at k/1024, both scaled by 65,536·1024^r·1024^L, is at most (65,536 + L)·1024^r·1024^L.
pub record NearSurface (rq : Request) (r : Result) (k : ℕ) (t : Tick) : Type 0 where
  pub taken : r.answer.number ≡ 0 → k ≤ 1024 → (t.number ≡ 0) × (t.place ≡ 0)
  pub within : r.answer.number ≡ 0 → k ≤ 1024
      → nat_abs (pos 2 *ℤ (pos (1024 ^ degree rq.head * 1024 ^ longest rq.head) *ℤ t.reading -ℤ pos 65536 *ℤ surface_read rq k 1024))
      ≤ (65536 + longest rq.head) * (1024 ^ degree rq.head * 1024 ^ longest rq.head)

module _ (rq : Request) (age : ℕ) (lent : Arrays) (r : Result) (allowed : Allowed rq age lent r) (number : r.answer.number ≡ 0) where
  abbrev L : ℕ
  L = longest rq.head

  passed : Accepted rq age (rooms_of lent)
  passed = accepts rq age (rooms_of lent) (ap (λ (a : Answer). a.number) (sym allowed.answered) ∙ number)

  -- the net's points are the rounded points of the definition
  points-are : net r ≡ list_below (L + 1) (point rq)
  unfolding points_after accepted
  points-are =
      let count : (answer rq age (rooms_of lent)).count ≡ L + 1 = ap (λ (a : Answer). a.count) passed.answered in
      rw (allowed.points_is, allowed.answered, count) (first-places (L + 1) (point rq) lent.points)

  each : (R : ℕ) → R ≤ L → get_or (net r) R (pos 0) ≡ point rq R
  each R m = rw points-are (rw append-nil at (below_at (L + 1) (point rq) [] R (pos 0) (omega arith)))

  long : length (net r) ≡ suc L
  long = ap length points-are ∙ below_length (L + 1) (point rq) ∙ omega arith

  net-readable : (k : ℕ) → k ≤ 1024 → Readable (net r) k
  net-readable k early =
      let most = longest-most rq.head passed.degrees in
      let fine = composable rq age (rooms_of lent) passed in
      record {
        some = omega (arith, long);
        few = omega (arith, long);
        travels = all-travels (net r) (λ R m. let n : R ≤ L = omega (arith, long) in rw (each R n) (point-size rq fine R n));
        early = early;
      }

  -- the drawn curve from the surface, and the reading from the drawn curve
  curve-near : (k : ℕ) → k ≤ 1024
      → nat_abs (pos 2 ⊗ (pos (1024 ^ degree rq.head) ⊗ drawn L (net r) k 1024 ⊖ surface_read rq k 1024)) ≤ 1024 ^ degree rq.head * 1024 ^ L
  unfolding ◌⊖◌ ◌⊗◌
  curve-near k early = rw (drawn-is L (net r) k 1024 (point rq) each) (moment rq k 1024 early)

  surface-near : (k : ℕ) → k ≤ 1024
      → nat_abs (pos 2 ⊗ (pos (1024 ^ degree rq.head) ⊗ pos (1024 ^ L) ⊗ reading (net r) k ⊖ pos 65536 ⊗ surface_read rq k 1024))
      ≤ 1024 ^ degree rq.head * (L * 1024 ^ L) + 65536 * (1024 ^ degree rq.head * 1024 ^ L)
  surface-near k early =
      nearer (1024 ^ degree rq.head) 65536 (L * 1024 ^ L) (1024 ^ degree rq.head * 1024 ^ L) (pos (1024 ^ L)) (reading (net r) k) (drawn L (net r) k 1024)
      (surface_read rq k 1024) (reading-near (net r) k L early long) (curve-near k early)

pub near-surface : (rq : Request) (age : ℕ) (lent : Arrays) (r : Result) → Allowed rq age lent r → (k : ℕ) (t : Tick) → t ≡ told (net r) k
    → NearSurface rq r k t
unfolding ◌⊖◌ ◌⊗◌
near-surface rq age lent r allowed k t e = record {
  taken = λ number early.
      let is = e ∙ read_at (net r) k (net-readable rq age lent r allowed number k early) in
      (ap (λ (t : Tick). t.number) is, ap (λ (t : Tick). t.place) is);
  within = λ number early.
      let is = e ∙ read_at (net r) k (net-readable rq age lent r allowed number k early) in
      let near = surface-near rq age lent r allowed number k early in
      rw (is, pos-mul (1024 ^ degree rq.head) (1024 ^ longest rq.head))
      (omega (arith, near, count (longest rq.head) (1024 ^ degree rq.head) (1024 ^ longest rq.head)));
}
  where
    count : (L M Q : ℕ) → M * (L * Q) + 65536 * (M * Q) ≡ (65536 + L) * (M * Q)
    count L M Q = omega (arith, mul_left_comm M L Q, add-mul 65536 L (M * Q))
