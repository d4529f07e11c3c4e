-- The size law: a step multiplies the bound by 1024. Assumes nothing.
use mathlib.Core.Path.{◌≡◌, ap}
use Prim.Native.Nat.{ℕ, ◌+◌, ◌*◌, ◌≤◌}
use native.Mathlib.Nat.{mul-le-mul_left, le_trans, add-mul, le_of_eq}
use native.Mathlib.Omega.{arith}
use lib.IntN.{ℤ, pos, nat_abs, ◌+ℤ◌, ◌*ℤ◌}
use Rattle.whole.proofs.Bound.{nat_abs-add, nat_abs_mul}

-- shares of sizes within a bound
pub shares-most : (x y z A B C M : ℕ) → A ≤ M → B ≤ M → C ≤ M → x * A + y * B + z * C ≤ (x + y + z) * M
shares-most x y z A B C M p q r =
    omega (arith, mul-le-mul_left x p, mul-le-mul_left y q, mul-le-mul_left z r, add-mul (x + y) z M, add-mul x y M)

pub mixed-size : (x y z : ℕ) (a b c : ℤ) → nat_abs (pos x *ℤ a +ℤ pos y *ℤ b +ℤ pos z *ℤ c) ≤ x * nat_abs a + y * nat_abs b + z * nat_abs c
mixed-size x y z a b c =
    omega (
      arith,
      nat_abs-add (pos x *ℤ a +ℤ pos y *ℤ b) (pos z *ℤ c),
      nat_abs-add (pos x *ℤ a) (pos y *ℤ b),
      nat_abs_mul (pos x) a,
      nat_abs_mul (pos y)
          b,
      nat_abs_mul (pos z) c,
    )

pub mixed-most : (x y z : ℕ) (a b c : ℤ) (M : ℕ) → x + y + z ≡ 1024 → nat_abs a ≤ M → nat_abs b ≤ M → nat_abs c ≤ M
    → nat_abs (pos x *ℤ a +ℤ pos y *ℤ b +ℤ pos z *ℤ c) ≤ 1024 * M
mixed-most x y z a b c M e p q r =
    le_trans (mixed-size x y z a b c)
    (le_trans (shares-most x y z (nat_abs a) (nat_abs b) (nat_abs c) M p q r) (le_of_eq (ap (λ (n : ℕ). n * M) e)))
