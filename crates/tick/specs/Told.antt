-- What is answered to a net and a moment: "Zero points or more than 25 is SURFACE, a point beyond 4,096 in size VALUE with its
-- place, k above 1,024 the new refusal 11 MOMENT; in that order, the place otherwise 0, the reading 0." Assumes nothing.
use Rattle.std.specs.Prelude.{Bool, cond, ◌||◌, List, [], ◌∷◌, ℕ, ltb, eqb, ℤ, pos, length}
use Rattle.request.specs.declared.Answer.{Answer}
use Rattle.request.specs.Cascade.{Test, test, first, decided}
use Rattle.request.specs.Refusal.{value_place}
use Rattle.tick.specs.declared.Tick.{Tick}
use Rattle.tick.specs.Reading.{moment_one, most_points, reading}

-- 3 SURFACE
unfoldable pub not_net : List ℤ → Bool
not_net points = ltb (length points) 1 || ltb most_points (length points)

-- 6 VALUE
unfoldable pub not_point : List ℤ → Bool
not_point points = ltb (value_place points) (length points)

-- 11 MOMENT
unfoldable pub not_moment : ℕ → Bool
not_moment k = ltb moment_one k

-- the table
unfoldable pub refusals : List ℤ → ℕ → List Test
refusals points k = test 3 (not_net points) 0 ∷ test 6 (not_point points) (value_place points) ∷ test 11 (not_moment k) 0 ∷ []

-- the number and the place; the count is that of the readings, one or none
unfoldable pub judged : List ℤ → ℕ → Answer
judged points k = decided (first (refusals points k)) (record { number = 0; place = 0; count = 1 })

unfoldable pub told : List ℤ → ℕ → Tick
told points k = record {
  number = (judged points k).number;
  place = (judged points k).place;
  reading = cond (eqb (judged points k).number 0) (reading points k) (pos 0);
}
