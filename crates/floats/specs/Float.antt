-- Which f64 a whole number is, and the bits of an f64: both are the library's own definitions. Assumes nothing.
use Rattle.std.specs.Prelude.{ℕ, ℤ, to_bits, Float}
use Rattle.std.specs.Float.{binary64}
use Rattle.std.specs.Float.Ieee.{of_int}

-- a whole number "turned into f64": the nearest one, and the number itself as far as 2^53
unfoldable pub float : ℤ → Float
float z = of_int binary64 z

-- what two f64 are compared by "bit for bit"
unfoldable pub bits : Float → ℕ
bits x = to_bits binary64 x
