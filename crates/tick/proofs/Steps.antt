-- One step and the values that are left, one by one. Assumes nothing.
use mathlib.Core.Path.{◌≡◌, refl}
use mathlib.Core.List.{List, [], ◌∷◌, map}
use Prim.Native.Nat.{ℕ, zero, suc, ◌-◌, ◌<◌}
use native.Mathlib.Omega.{arith}
use lib.IntN.{ℤ, pos}
use lib.ListN.{length, get_or, get_or-map}
use Rattle.tick.specs.Reading.{carried, between, lower, after}

pub lower-length : (k : ℕ) (l : List ℤ) → length (lower k l) ≡ length l - 1
unfolding lower
lower-length k [] = refl
lower-length k (a ∷ []) = refl
lower-length k (a ∷ b ∷ rest) = let e = lower-length k (b ∷ rest) in omega arith

pub lower-at : (k : ℕ) (l : List ℤ) (i : ℕ) → suc i < length l → get_or (lower k l) i (pos 0) ≡ between k (get_or l i (pos 0)) (get_or l (suc i) (pos 0))
unfolding lower
lower-at k [] i h = absurd (omega arith)
lower-at k (a ∷ []) i h = absurd (omega arith)
lower-at k (a ∷ b ∷ rest) zero h = refl
lower-at k (a ∷ b ∷ rest) (suc i) h = lower-at k (b ∷ rest) i (omega arith)

pub after-zero : (k : ℕ) (l : List ℤ) → after 0 k l ≡ get_or l 0 (pos 0)
unfolding after
after-zero k l = refl

pub after-suc : (L k : ℕ) (l : List ℤ) → after (suc L) k l ≡ after L k (lower k l)
unfolding after
after-suc L k l = refl

pub carried-at : (points : List ℤ) (i : ℕ) → get_or (map carried points) i (pos 0) ≡ carried (get_or points i (pos 0))
unfolding carried
carried-at points i = get_or-map carried points i (pos 0)
