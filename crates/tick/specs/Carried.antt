-- The values of a reading under way, and how large they are: at most 65,536 times the greatest travel. Assumes nothing.
use Rattle.std.specs.Prelude.{◌≡◌, List, ℕ, ◌*◌, ◌≤◌, ℤ, pos, nat_abs, length, get_or}
use Rattle.request.specs.units.Bounds.{most}
use Rattle.tick.specs.Reading.{most_points, parts}

abbrev pub carried_most : ℕ
carried_most = parts * most

-- an array of 25 values, each of them carried
pub record Carried (values : List ℤ) : Type 0 where
  pub long : length values ≡ most_points
  pub each : (i : ℕ) → nat_abs (get_or values i (pos 0)) ≤ carried_most
