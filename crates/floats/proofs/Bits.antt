-- What bits say of f64: those that are whole numbers turned into f64 are never minus zero. Assumes nothing.
use Rattle.std.proofs.Common.{◌≡◌, ◌^◌, ◌≤◌, true, T, ℤ, pos, nat_abs, sym, refl, ap, ◌∙◌}
use lib.Ieee.{Float, fin, binary64, fits, of_bits, of_int, to_bits}
use lib.Ieee.Bits.{of_bits-to_bits}
use lib.Ieee.Fits.{of_int-fits}
use Rattle.floats.specs.Float.{float, bits}
use Rattle.floats.proofs.Sums.{not-minus-zero}

-- an f64 is what its bits say: those that a format holds are equal where their bits are
pub same_bits : (x y : Float) → T (fits binary64 x) → T (fits binary64 y) → bits x ≡ bits y → x ≡ y
unfolding bits
same_bits x y p q e = sym (of_bits-to_bits binary64 x p) ∙ ap (of_bits binary64) e ∙ of_bits-to_bits binary64 y q

-- minus zero and plus zero, by their bits
minus-zero : of_bits binary64 (2 ^ 63) ≡ fin true 0 (pos 0)
unfolding of_bits
minus-zero = refl

pub plus-zero : bits (float (pos 0)) ≡ 0
unfolding bits float to_bits of_int
plus-zero = refl

pub never-minus-zero : (z : ℤ) → nat_abs z ≤ 2 ^ 53 → bits (float z) ≡ 2 ^ 63 → ⊥
unfolding bits float
never-minus-zero z h e =
    not-minus-zero binary64 z h
    (sym (of_bits-to_bits binary64 (of_int binary64 z) (of_int-fits binary64 z)) ∙ ap (of_bits binary64) e ∙ minus-zero)
