-- "All control values negated, all points negated" (rule Port and starboard; 02, ticket 2), and so is a reading of them: the same
-- number and place, the reading negated. Assumes nothing.
use mathlib.Core.Path.{◌≡◌, refl, ap, ap₂, ◌∙◌}
use mathlib.Core.Bool.{Bool, true, false, cond}
use mathlib.Core.List.{List, [], ◌∷◌, map}
use Prim.Native.Nat.{ℕ, zero, suc, ◌-◌}
use lib.Dec.{eqb}
use lib.IntN.{ℤ, pos, neg_ℤ, ◌+ℤ◌, ◌*ℤ◌}
use lib.ListN.{length, length-map, get_or-map}
use Rattle.whole.specs.Round.{nearest}
use Rattle.whole.proofs.Ring.{◌⊕◌, ◌⊗◌, ⊝◌, ring, subs, sub-eq, *ℤ-negℤ}
use Rattle.whole.proofs.Rounding.{nearest-neg}
use Rattle.request.proofs.Bounds.{value-mirrored}
use Rattle.tick.specs.Reading.{moment_one, parts, carried, between, lower, after, reading}
use Rattle.tick.specs.Told.{not_net, not_point, refusals, judged, told}

opposite : (x y a b : ℤ) → x ⊗ ⊝ a ⊕ y ⊗ ⊝ b ≡ ⊝ (x ⊗ a ⊕ y ⊗ b)
opposite x y a b = simp subs (sub-eq _ _ _ _ (simp ring))

between-neg : (k : ℕ) (a b : ℤ) → between k (neg_ℤ a) (neg_ℤ b) ≡ neg_ℤ (between k a b)
unfolding between ◌⊕◌ ◌⊗◌ ⊝◌
between-neg k a b =
    ap (λ n. nearest n moment_one) (opposite (pos (moment_one - k)) (pos k) a b) ∙ nearest-neg (pos (moment_one - k) *ℤ a +ℤ pos k *ℤ b) moment_one

lower-neg : (k : ℕ) (l : List ℤ) → lower k (map neg_ℤ l) ≡ map neg_ℤ (lower k l)
unfolding lower
lower-neg k [] = refl
lower-neg k (a ∷ []) = refl
lower-neg k (a ∷ b ∷ rest) = ap₂ ◌∷◌ (between-neg k a b) (lower-neg k (b ∷ rest))

after-neg : (L k : ℕ) (l : List ℤ) → after L k (map neg_ℤ l) ≡ neg_ℤ (after L k l)
unfolding after
after-neg zero k l = get_or-map neg_ℤ l 0 (pos 0)
after-neg (suc L) k l = ap (after L k) (lower-neg k l) ∙ after-neg L k (lower k l)

carried-neg : (l : List ℤ) → map carried (map neg_ℤ l) ≡ map neg_ℤ (map carried l)
unfolding carried
carried-neg [] = refl
carried-neg (a ∷ l) = ap₂ ◌∷◌ (*ℤ-negℤ (pos parts) a) (carried-neg l)

reading-neg : (points : List ℤ) (k : ℕ) → reading (map neg_ℤ points) k ≡ neg_ℤ (reading points k)
unfolding reading
reading-neg points k =
    ap₂ (λ (n : ℕ) l. after (n - 1) k l) (length-map points neg_ℤ) (carried-neg points) ∙ after-neg (length points - 1) k (map carried points)

judged-neg : (points : List ℤ) (k : ℕ) → judged (map neg_ℤ points) k ≡ judged points k
unfolding judged refusals not_net not_point
judged-neg points k = rw (length-map points neg_ℤ, value-mirrored points)

pub told-mirrored : (points : List ℤ) (k : ℕ)
    → told (map neg_ℤ points) k ≡ record { number = (told points k).number; place = (told points k).place; reading = neg_ℤ (told points k).reading }
unfolding told
told-mirrored points k = rw (judged-neg points k, reading-neg points k, either (eqb (judged points k).number 0) (reading points k))
  where
    either : (b : Bool) (z : ℤ) → cond b (neg_ℤ z) (pos 0) ≡ neg_ℤ (cond b z (pos 0))
    either true z = refl
    either false z = refl
