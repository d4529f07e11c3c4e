-- Rule Reading at a tick (02, ticket 9): "read the curve at k/1024. Carry values in 1/65,536 of a unit; each de Casteljau step
-- rounds to the nearest, halves away from zero." The whole reading, step by step, on lists. Assumes nothing.
use Rattle.std.specs.Prelude.{List, [], ◌∷◌, map, ℕ, zero, suc, ◌-◌, ℤ, pos, ◌+ℤ◌, ◌*ℤ◌, length, get_or}
use Rattle.whole.specs.Round.{nearest}

-- one, in moments: they are of 1/1024
abbrev pub moment_one : ℕ
moment_one = 1024

-- the greatest count of points
abbrev pub most_points : ℕ
most_points = 25

-- the parts of a unit in which values are carried
abbrev pub parts : ℕ
parts = 65536

-- a point as it is carried
unfoldable pub carried : ℤ → ℤ
carried point = pos parts *ℤ point

-- between a value and the next, at k/1024: ((1024 − k)·a + k·b)/1024, rounded (k is at most 1024)
unfoldable pub between : ℕ → ℤ → ℤ → ℤ
between k a b = nearest (pos (moment_one - k) *ℤ a +ℤ pos k *ℤ b) moment_one

-- one step: each two neighbours give one value, so that there is one value less
unfoldable pub lower : ℕ → List ℤ → List ℤ
lower k [] = []
lower k (a ∷ []) = []
lower k (a ∷ b ∷ rest) = between k a b ∷ lower k (b ∷ rest)

-- after L steps, the first value that is left
unfoldable pub after : ℕ → ℕ → List ℤ → ℤ
after zero k values = get_or values 0 (pos 0)
after (suc L) k values = after L k (lower k values)

-- the reading of a net of L + 1 points, in 1/65,536 of a unit
unfoldable pub reading : List ℤ → ℕ → ℤ
reading points k = after (length points - 1) k (map carried points)
