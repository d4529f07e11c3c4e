-- Worked readings, reckoned step by step apart from this program; none of them has a symmetry. Rounded only at the end the
-- first three are −201585, −116332 and 359025, and the longest net has 41143570; with halves toward zero the third is 359025;
-- with k and 1024 − k exchanged the first is 68192. Then the refusals, each also where the next one holds. Assumes nothing.
use Rattle.std.specs.Prelude.{◌≡◌, refl, List, [], ◌∷◌, map, ℕ, ℤ, pos, neg_ℤ, replicate}
use Rattle.whole.specs.Round.{half_up, on_side_of, nearest}
use Rattle.request.specs.units.Bounds.{beyond_travel}
use Rattle.request.specs.Cascade.{first, refused, decided}
use Rattle.request.specs.Refusal.{least, value_place}
use Rattle.tick.specs.declared.Tick.{Tick}
use Rattle.tick.specs.Reading.{carried, between, lower, after, reading}
use Rattle.tick.specs.Told.{not_net, not_point, not_moment, refusals, judged, told}

unfoldable pub below : ℕ → ℤ
below n = neg_ℤ (pos n)

-- 25 points
unfoldable pub longest_net : List ℤ
longest_net =
    pos 3334 ∷ pos 3901 ∷ pos 1109 ∷ pos 3752 ∷ pos 393 ∷ pos 672 ∷ pos 3605 ∷ pos 2519 ∷ below 1696 ∷ below 2252 ∷ pos 2080 ∷ below 1157
    ∷ pos 4084 ∷ pos 1449 ∷ below 1145 ∷ below 2636 ∷ pos 3962 ∷ pos 365 ∷ pos 1823 ∷ below 3063 ∷ pos 1731 ∷ below 3534 ∷ pos 912 ∷ pos 1858
    ∷ pos 505 ∷ []

-- a net, a moment, and the number, the place and the reading that are answered
pub record Worked : Type 0 where
  pub points : List ℤ
  pub k : ℕ
  pub answer : Tick

unfoldable pub worked : List ℤ → ℕ → ℕ → ℕ → ℤ → Worked
worked points k number place reading = record { points = points; k = k; answer = record { number = number; place = place; reading = reading } }

unfoldable pub readings : List Worked
readings =
    worked (below 6 ∷ pos 9 ∷ below 2 ∷ below 9 ∷ []) 749 0 0 (below 201586)
    ∷ worked (below 3 ∷ below 6 ∷ below 2 ∷ pos 5 ∷ pos 2 ∷ pos 7 ∷ []) 364 0 0 (below 116333)
    ∷ worked (pos 7 ∷ below 1 ∷ pos 5 ∷ below 6 ∷ pos 9 ∷ pos 2 ∷ pos 0 ∷ []) 38 0 0 (pos 359026)
    ∷ worked longest_net 512 0 0 (pos 41143572)
    -- a half, away from zero
    ∷ worked (pos 0 ∷ pos 0 ∷ below 2 ∷ []) 2 0 0 (below 1)
    -- both ends, at both bounds
    ∷ worked (below 4096 ∷ pos 17 ∷ pos 4096 ∷ []) 0 0 0 (below 268435456)
    ∷ worked (below 4096 ∷ pos 17 ∷ pos 4096 ∷ []) 1024 0 0 (pos 268435456)
    ∷ worked [] 1025 3 0 (pos 0)
    ∷ worked (replicate 26 (pos 4097)) 7 3 0 (pos 0)
    ∷ worked (pos 0 ∷ pos 4096 ∷ below 4097 ∷ pos 5000 ∷ []) 1025 6 2 (pos 0)
    ∷ worked (pos 4096 ∷ below 4096 ∷ []) 1025 11 0 (pos 0)
    ∷ []

pub as-worked : map (λ (w : Worked). told w.points w.k) readings ≡ map (λ (w : Worked). w.answer) readings
unfolding below longest_net worked readings carried between lower after reading not_net not_point not_moment refusals judged told first refused decided
    least value_place beyond_travel nearest on_side_of half_up
as-worked = refl
