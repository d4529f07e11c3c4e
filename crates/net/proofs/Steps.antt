-- One step for all three forms. As an argument, a path point is three weights, and the forms differ in nothing else; what
-- is true of steps over weights is true of 01's three steps (rule One argument) at once. Assumes nothing.
use mathlib.Core.Path.{◌≡◌, refl, ◌∙◌, ap}
use mathlib.Core.List.{List, [], ◌∷◌, map}
use Prim.Native.Nat.{ℕ, suc}
use lib.IntN.{ℤ, pos}
use Rattle.whole.proofs.Ring.{◌⊕◌, ◌⊗◌, ◌⊖◌, ring}
use Rattle.net.specs.Net.{Net}
use Rattle.net.specs.Blossom.{Argument, along_u, along_v, within, step, blossom}

pub record Weights : Type 0 where
  pub x : ℤ
  pub y : ℤ
  pub z : ℤ

unfoldable pub mix : Weights → Net → Net
mix w p i j = w.x ⊗ p (suc i) j ⊕ w.y ⊗ p i (suc j) ⊕ w.z ⊗ p i j

unfoldable pub weights_of : Argument → Weights
weights_of (along_u u) = record { x = u; y = pos 0; z = pos 1024 ⊖ u }
weights_of (along_v v) = record { x = pos 0; y = v; z = pos 1024 ⊖ v }
weights_of (within x y z) = record { x = x; y = y; z = z }

-- the number that is left when every argument is taken
unfoldable pub taken : List Weights → Net → ℤ
taken [] p = p 0 0
taken (w ∷ rest) p = taken rest (mix w p)

-- what an argument does not read has weight 0
without-y : (x z a b c : ℤ) → z ⊗ c ⊕ x ⊗ a ≡ x ⊗ a ⊕ pos 0 ⊗ b ⊕ z ⊗ c
without-y x z a b c = simp ring

without-x : (y z a b c : ℤ) → z ⊗ c ⊕ y ⊗ b ≡ pos 0 ⊗ a ⊕ y ⊗ b ⊕ z ⊗ c
without-x y z a b c = simp ring

pub step-is-mix : (a : Argument) (p : Net) (i j : ℕ) → step a p i j ≡ mix (weights_of a) p i j
unfolding step mix weights_of ◌⊕◌ ◌⊗◌ ◌⊖◌
step-is-mix (along_u u) p i j = without-y u (pos 1024 ⊖ u) (p (suc i) j) (p i (suc j)) (p i j)
step-is-mix (along_v v) p i j = without-x v (pos 1024 ⊖ v) (p (suc i) j) (p i (suc j)) (p i j)
step-is-mix (within x y z) p i j = refl

pub step-mix : (a : Argument) (p : Net) → step a p ≡ mix (weights_of a) p
step-mix a p = λ t i j. step-is-mix a p i j t

pub blossom-taken : (arguments : List Argument) (p : Net) → blossom arguments p ≡ taken (map weights_of arguments) p
unfolding blossom taken
blossom-taken [] p = refl
blossom-taken (a ∷ rest) p = ap (blossom rest) (step-mix a p) ∙ blossom-taken rest (mix (weights_of a) p)

-- two steps commute, whatever their weights
pub mix-comm : (v w : Weights) (p : Net) (i j : ℕ) → mix v (mix w p) i j ≡ mix w (mix v p) i j
unfolding mix
mix-comm v w p i j = simp ring
