-- An array of zeros that the numbers of a list were read into. Assumes nothing.
use mathlib.Core.Path.{◌≡◌, sym, ap, ◌∙◌}
use mathlib.Core.List.{List}
use Prim.Native.Nat.{ℕ, ◌≤◌}
use native.Mathlib.Omega.{arith}
use lib.IntN.{ℤ, pos}
use lib.ListN.{length, take, replicate}
use lib.Seq.{sets, length-sets}
use Rattle.spell.proofs.Writing.{front_read}
use Rattle.text.specs.numbers.Numbers.{most}

abbrev pub zeros : List ℤ
zeros = replicate most (pos 0)

module _ (k l : List ℤ) (h : l ≡ sets zeros 0 k) where
  pub list-size : most ≡ length l
  list-size = sym (ap length h ∙ length-sets zeros 0 k)

  -- they stand at its front
  pub list_read : (n : ℕ) → n ≡ length k → n ≤ most → take n l ≡ k
  list_read n e m = rw (e, h) (front_read zeros k (omega arith))
