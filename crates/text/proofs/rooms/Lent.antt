-- The front of an array that is filled with one number. Assumes nothing.
use mathlib.Core.Path.{◌≡◌, refl, ap}
use mathlib.Core.List.{◌∷◌}
use Prim.Native.Nat.{ℕ, zero, suc, ◌≤◌}
use native.Mathlib.Omega.{arith}
use lib.ListN.{take, replicate}

pub take-replicate : {A : Type 0} (n m : ℕ) (z : A) → n ≤ m → take n (replicate m z) ≡ replicate n z
take-replicate zero m z l = refl
take-replicate (suc n) zero z l = absurd (omega arith)
take-replicate (suc n) (suc m) z l = ap (λ s. z ∷ s) (take-replicate n m z (omega arith))
