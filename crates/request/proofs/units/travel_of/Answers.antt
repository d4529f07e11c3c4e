-- `units::travel_of` meets its contract: a number within the greatest travel fits 32 bits, and so does what is read back.
-- Assumes nothing.
use Prim.Native.Nat.{◌≤◌}
use native.Mathlib.Omega.{arith}
use lib.IntN.{ℤ, pos, negsuc, nat_abs}
use mir.Syntax.{w32, w64}
use mir.Val.{SFits}
use mir.Facts.{to_z-of_z, sfits_widen}
use Rattle.request.proofs.units.travel_of.Goals as goal

small : (z : ℤ) → nat_abs z ≤ 4096 → SFits w32 z
small (pos n) m = record { sfits = omega arith }
small (negsuc n) m = record { sfits = omega arith }

pub overflow_cast-result : goal.overflow_cast-result
overflow_cast-result c = let f = small c.args.n.0 c.requires in rw (to_z-of_z (sfits_widen {w' = w64} tt f)) f

pub returns : goal.returns
returns c = let f = small c.args.n.0 c.requires in rw (to_z-of_z (sfits_widen {w' = w64} tt f), to_z-of_z f)
