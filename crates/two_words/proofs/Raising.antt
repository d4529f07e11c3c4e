-- A number moved up so far that it is not negative. Assumes nothing.
use Rattle.std.proofs.Common.{◌≡◌, ℕ, suc, ◌≤◌, ℤ, pos, negsuc, ◌+ℤ◌, nat_abs, refl, le-ltb}

pub up : (z : ℤ) (k : ℕ) → nat_abs z ≤ k → z +ℤ pos k ≡ pos (nat_abs (z +ℤ pos k))
up (pos a) k h = refl
up (negsuc a) k h = rw (le-ltb k (suc a) h)
