-- The three output arrays. Assumes nothing.
use Rattle.std.specs.Prelude.{List, ℕ, ℤ}

-- the lent arrays: the high words and the low words of the numerators, and the rounded points
pub record Arrays : Type 0 where
  pub high : List ℤ
  pub low : List ℕ
  pub points : List ℤ

abbrev pub arrays : List ℤ → List ℕ → List ℤ → Arrays
arrays high low points = record { high = high; low = low; points = points }
