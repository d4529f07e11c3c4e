-- Which path number an f64 is, by IEEE's `==`: minus zero equals 0; a NaN, an infinity and a fraction equal none.
-- Assumes nothing.
use Rattle.std.specs.Prelude.{ℕ, suc, pos, Float}
use Rattle.std.specs.Float.Ieee.{eq}
use Rattle.request.specs.units.Bounds.{path_one}
use Rattle.request.specs.Refusal.{least}
use Rattle.floats.specs.Float.{float}

-- "a whole 0 to 1,024": the k that x equals, or 1025, which is beyond every path number, where there is none
unfoldable pub path_of : Float → ℕ
path_of x = least (suc path_one) (λ k. eq (float (pos k)) x)
