-- The law over one step: on whole numbers within its bounds the step is exact. Assumes nothing.
use Rattle.std.proofs.Common.{◌≡◌, ℕ, ◌-◌, ◌*◌, ◌^◌, ◌≤◌, ℤ, pos, ◌+ℤ◌, ◌-ℤ◌, ◌*ℤ◌, sym, ap, ◌∙◌, mul-le-mul_right, arith, lit≤}
use lib.Ieee.{Float, binary64, add, sub, mul, of_int}
use Rattle.request.specs.units.Bounds.{path_one}
use Rattle.floats.specs.Float.{float}
use Rattle.floats.specs.Step.{mixed, Exact}
use Rattle.floats.proofs.Sums.{less, sub-exact, weighed-exact}

scaled : (p a : ℕ) → p ≤ path_one → a * path_one ≤ 2 ^ 53 → p * a ≤ 2 ^ 53
scaled p a l h = omega (arith, mul-le-mul_right a l)

pub step-law : {a b u : Float} {z y : ℤ} {k : ℕ} → Exact a b u z y k → mixed a b u ≡ float ((pos path_one -ℤ pos k) *ℤ z +ℤ pos k *ℤ y)
unfolding mixed float
step-law {z = z} {y = y} {k = k} e =
    let l = e.share_most in
    let first = e.first_most in
    let second = e.second_most in
    let share = of_int binary64 (pos k) in
    let to = mul binary64 share (of_int binary64 y) in
    (λ i. add binary64 (mul binary64 (sub binary64 (of_int binary64 (pos path_one)) (e.share i)) (e.first i)) (mul binary64 (e.share i) (e.second i)))
    ∙ ap (λ (w : Float). add binary64 (mul binary64 w (of_int binary64 z)) to) (sub-exact binary64 path_one k (lit≤ tt) l)
    ∙ weighed-exact binary64 (path_one - k) k z y (record {
      some = omega arith;
      p_most = omega arith;
      q_most = omega arith;
      z_most = omega arith;
      y_most = omega arith;
      first_most = scaled (path_one - k) _ (omega arith) first;
      second_most = scaled k _ l second;
    })
    ∙ ap (λ (w : ℤ). of_int binary64 (w *ℤ z +ℤ pos k *ℤ y)) (sym (less path_one k l))
