-- The demands on a patch, each a statement of every result that the contract allows; determinacy. Demand 1 is the table of
-- refusals. Assumes nothing.
use Rattle.std.specs.Prelude.{◌≡◌, List, ℕ, ◌+◌, ◌*◌, ◌^◌, ◌≤◌, ◌<◌, ℤ, pos, nat_abs, ◌-ℤ◌, ◌*ℤ◌, length, get_or}
use Rattle.std.proofs.Math.Option.{none, some}
use Rattle.whole.specs.Round.{nearest}
use Rattle.whole.proofs.Determined.{Determined}
use Rattle.request.specs.declared.Answer.{Answer}
use Rattle.request.specs.Cascade.{Test, first}
use Rattle.patch_net.specs.Patch.{Patch, longest, places, index_at}
use Rattle.patch_net.specs.Refusal.{refusals, answer}
use Rattle.patch_net.specs.Composed.{multinomial, numerator}
use Rattle.patch_net.specs.Afterwards.{exact_after, points_after, Patched}
use Rattle.patch_net.specs.Reading.{drawn, surface_read}

-- what is left of a patch: the answer and both arrays
pub record Result : Type 0 where
  pub answer : Answer
  pub exact : List ℤ
  pub points : List ℤ

abbrev pub Allowed : Patch → List ℤ → List ℤ → Result → Type 0
Allowed p exact points r = Patched p exact points r.answer r.exact r.points

pub determined : (p : Patch) (exact points : List ℤ) → Determined (Allowed p exact points)
determined p exact points = record {
  value = record { answer = answer p (length exact) (length points); exact = exact_after p exact points; points = points_after p exact points };
  only = λ r c. λ t. record { answer = c.answered t; exact = c.exact_is t; points = c.points_is t };
}

-- Demand 1. Where a test is the first of the table of seven that holds, the answer is its number, its place and count 0, and
-- both arrays are as they were; where none holds, it is 0, 0 and the number of points.
pub record Demand1 (p : Patch) (exact points : List ℤ) (r : Result) : Type 0 where
  pub refusal : (t : Test) → first (refusals p (length exact) (length points)) ≡ some t
      → (r.answer ≡ record { number = t.number; place = t.place; count = 0 }) × (r.exact ≡ exact) × (r.points ≡ points)
  pub acceptance : first (refusals p (length exact) (length points)) ≡ none
      → r.answer ≡ record { number = 0; place = 0; count = places (longest p) }

-- Demand 2. Each exact numerator is the literal sum (rule Patches on patches; document 002, theorem 1), at its place in the order of 01
-- (rule Order of the numbers); each point is that over its multinomial times 1024^n, rounded; every later place of both arrays stays.
pub record Demand2 (p : Patch) (exact points : List ℤ) (r : Result) : Type 0 where
  pub numerators : r.answer.number ≡ 0 → (R : ℕ) → R < places (longest p) → get_or r.exact R (pos 0) ≡ numerator p (index_at (longest p) R)
  pub rounded : r.answer.number ≡ 0 → (R : ℕ) → R < places (longest p)
      → get_or r.points R (pos 0) ≡ nearest (numerator p (index_at (longest p) R)) (multinomial (index_at (longest p) R) * 1024 ^ p.outer)
  pub exact_rest : r.answer.number ≡ 0 → (R : ℕ) → places (longest p) ≤ R → get_or r.exact R (pos 0) ≡ get_or exact R (pos 0)
  pub points_rest : r.answer.number ≡ 0 → (R : ℕ) → places (longest p) ≤ R → get_or r.points R (pos 0) ≡ get_or points R (pos 0)

-- Demand 3. At every place (a, b, c)/q the patch drawn from the rounded points lies within half a unit of the surface at the
-- domain's place: twice the difference, both scaled by 1024^n·q^L to whole numbers, is at most that scale.
pub record Demand3 (p : Patch) (r : Result) : Type 0 where
  pub within_half : r.answer.number ≡ 0 → (a b c q : ℕ) → 1 ≤ q → a + b + c ≡ q
      → nat_abs (pos 2 *ℤ (pos (1024 ^ p.outer) *ℤ drawn (longest p) r.points a b c -ℤ surface_read p a b c)) ≤ 1024 ^ p.outer * q ^ longest p
