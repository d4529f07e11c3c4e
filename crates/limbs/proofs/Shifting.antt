-- A shift to the right by 32, as the machine has it, is the number over 2^32, rounded down. Assumes nothing.
use mathlib.Core.Path.{◌≡◌, ◌∙◌, ap}
use Prim.Native.Nat.{◌^◌, ◌<◌}
use native.Mathlib.Omega.{arith}
use lib.IntN.{ℤ}
use lib.Signed.{mag, shr_z, mag_shr}
use Rattle.whole.proofs.Bits.{again, again-is}

pub shifted_down : (z : ℤ) → mag z < 2 ^ 63 → again (shr_z (again z) (2 ^ 32)) ≡ shr_z z (2 ^ 32)
shifted_down z h = ap (λ x. again (shr_z x (2 ^ 32))) (again-is z h) ∙ again-is (shr_z z (2 ^ 32)) (omega (arith, mag_shr z (2 ^ 32)))
