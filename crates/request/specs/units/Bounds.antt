-- "Numbers that bound a request", as tests. Assumes nothing.
use Rattle.std.specs.Prelude.{Bool, ◌||◌, ℕ, ℤ, pos, nat_abs, ltb}
use Rattle.std.specs.Int.Signed.{lt_z}

-- one, in path numbers: they are "whole numbers of 1/1024"
abbrev pub path_one : ℕ
path_one = 1024

-- the greatest size of a travel
abbrev pub most : ℕ
most = 4096

-- the greatest age of a tilt sample, in milliseconds
abbrev pub oldest : ℕ
oldest = 250

-- rule Refusals (02, ticket 3): "age above 250", in milliseconds
unfoldable pub stale : ℕ → Bool
stale age = ltb oldest age

-- "Control values: −4,096 to 4,096."
unfoldable pub beyond_travel : ℤ → Bool
beyond_travel z = ltb most (nat_abs z)

-- "Path numbers: 0 to 1,024."
unfoldable pub beyond_path : ℤ → Bool
beyond_path z = lt_z z (pos 0) || lt_z (pos path_one) z
