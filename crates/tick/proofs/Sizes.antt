-- A carried value is at most 65,536·4,096 in size, and so is what lies between two of them: nothing overflows. Assumes nothing.
use mathlib.Core.Path.{◌≡◌, refl, sym, ap, ap₂, ◌∙◌}
use mathlib.Core.Bool.{true, false, not, true≢false}
use Prim.Native.Nat.{ℕ, suc, ◌+◌, ◌*◌, ◌-◌, ◌/◌, ◌^◌, ◌≤◌, ◌<◌}
use native.Mathlib.Nat.{mul-le-mul, div-add-mod, mod-lt}
use native.Mathlib.Omega.{arith}
use lib.IntN.{ℤ, pos, negsuc, neg_ℤ, nat_abs, ◌+ℤ◌, ◌*ℤ◌}
use lib.Signed.{non_neg}
use Rattle.whole.specs.Round.{half_up, on_side_of, nearest}
use Rattle.whole.proofs.Bound.{nat_abs-add, nat_abs_mul}
use Rattle.whole.proofs.Rounding.{half-up-only, nearest-size}
use Rattle.request.specs.units.Bounds.{most}
use Rattle.tick.specs.Reading.{moment_one, parts, carried, between}
use Rattle.tick.specs.Carried.{carried_most}

-- a point's product fits, and is carried
pub point-fits : (s point : ℤ) → s ≡ pos parts → nat_abs point ≤ most → nat_abs s * nat_abs point < 2 ^ 63
point-fits s point e m = rw e (omega arith)

pub point-carried : (s point r : ℤ) → s ≡ pos parts → nat_abs point ≤ most → r ≡ s *ℤ point → (r ≡ carried point) × (nat_abs r ≤ carried_most)
unfolding carried
point-carried s point r e m is =
    let e' : r ≡ pos parts *ℤ point = is ∙ ap (λ x. x *ℤ point) e in
    (e', rw (e', nat_abs_mul (pos parts) point) (omega arith))

-- a share of a value, of 1024
pub share_most : (x : ℕ) (s a : ℤ) → s ≡ pos x → x ≤ moment_one → nat_abs a ≤ carried_most → nat_abs s * nat_abs a ≤ x * carried_most
share_most x s a e m f = rw e (mul-le-mul (omega arith) f)

-- ---- a fraction of 1024 rounded by its half
half_up_lem : (x : ℕ) → (x + 512) / 1024 ≡ half_up x 1024
half_up_lem x =
    let d = div-add-mod (x + 512) 1024 in
    let m = mod-lt (x + 512) {m = 1024} (omega arith) in
    half-up-only x 1024 ((x + 512) / 1024) (record { above = omega arith; below = omega arith })

pub half-below : (n : ℤ) → not (non_neg n) ≡ true → neg_ℤ (pos 512) ≡ on_side_of n 512
unfolding on_side_of
half-below (pos a) t = absurd (true≢false (sym t))
half-below (negsuc a) t = refl

pub half-above : (n : ℤ) → not (non_neg n) ≡ false → pos 512 ≡ on_side_of n 512
unfolding on_side_of
half-above (pos a) t = refl
half-above (negsuc a) t = absurd (true≢false t)

pub half-size : (n half : ℤ) → half ≡ on_side_of n 512 → nat_abs half ≡ 512
unfolding on_side_of
half-size (pos a) half e = ap nat_abs e
half-size (negsuc a) half e = ap nat_abs e

pub rounded-is : (n half all r : ℤ) → half ≡ on_side_of n 512 → all ≡ n +ℤ half → r ≡ on_side_of all (nat_abs all / 1024) → r ≡ nearest n 1024
unfolding on_side_of nearest
rounded-is (pos a) half all r h s q =
    q ∙ ap (λ z. on_side_of z (nat_abs z / 1024)) (s ∙ ap (λ y. pos a +ℤ y) h) ∙ ap pos (half_up_lem a)
rounded-is (negsuc a) half all r h s q =
    let size : nat_abs (negsuc a +ℤ neg_ℤ (pos 512)) ≡ suc a + 512 = omega arith in
    q ∙ ap (λ z. on_side_of z (nat_abs z / 1024)) (s ∙ ap (λ y. negsuc a +ℤ y) h)
    ∙ ap (λ (x : ℕ). neg_ℤ (pos (x / 1024))) size ∙ ap (λ (x : ℕ). neg_ℤ (pos x)) (half_up_lem (suc a))

-- what lies between a and b, as the code makes it: two shares, their products, the sum of these, rounded
pub record Made (k : ℕ) (a b x y near far all r : ℤ) : Type 0 where
  pub here : x ≡ pos (moment_one - k)
  pub there : y ≡ pos k
  pub first : near ≡ x *ℤ a
  pub second : far ≡ y *ℤ b
  pub sum : all ≡ near +ℤ far
  pub rounded : r ≡ nearest all moment_one

module _ {k : ℕ} {a b x y near far all r : ℤ} (m : Made k a b x y near far all r) where
  made-is : r ≡ between k a b
  unfolding between
  made-is =
      m.rounded
      ∙ ap (λ n. nearest n moment_one) (m.sum ∙ ap₂ ◌+ℤ◌ (m.first ∙ ap (λ z. z *ℤ a) m.here) (m.second ∙ ap (λ z. z *ℤ b) m.there))

  pub made : k ≤ moment_one → nat_abs a ≤ carried_most → nat_abs b ≤ carried_most → (r ≡ between k a b) × (nat_abs r ≤ carried_most)
  made early f g =
      let p = share_most (moment_one - k) x a m.here (omega arith) f in
      let q = share_most k y b m.there early g in
      let n : nat_abs all ≤ nat_abs (x *ℤ a) + nat_abs (y *ℤ b) = rw (m.sum, m.first, m.second) (nat_abs-add (x *ℤ a) (y *ℤ b)) in
      let size : nat_abs all ≤ moment_one * carried_most = omega (arith, n, nat_abs_mul x a, nat_abs_mul y b) in
      (made-is, rw m.rounded (nearest-size all moment_one carried_most (omega arith) size))
