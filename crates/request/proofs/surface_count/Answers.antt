-- `request::surface_count` meets its contract: the degrees are small, so the products fit. Assumes nothing.
use Prim.Native.Nat.{ℕ, ◌*◌, ◌≤◌}
use native.Mathlib.Nat.{mul-le-mul, lt_of_le_of_lt}
use native.Mathlib.Omega.{arith}
use lib.Dec.{lit<}
use mir.Syntax.{w64}
use mir.Val.{Fits}
use Rattle.request.proofs.Forms.{small}
use Rattle.request.proofs.surface_count.Goals as goal

fits : (a b : ℕ) → a ≤ 6 → b ≤ 6 → Fits w64 (a * b)
fits a b p q = record { fits = lt_of_le_of_lt (mul-le-mul p q) (lit< tt) }

pub overflow_mul-result : goal.overflow_mul-result
overflow_mul-result c = let s = small _ c.requires in fits _ _ (omega arith) (omega arith)

pub overflow_mul-result-in_default : goal.overflow_mul-result-in_default
overflow_mul-result-in_default c = let s = small _ c.requires in fits _ _ (omega arith) (omega arith)
