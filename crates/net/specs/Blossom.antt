-- "The blossom, scaled": one argument makes a net one degree lower; after r arguments one number is left, the blossom
-- value times 1024^r. Assumes nothing.
use Rattle.std.specs.Prelude.{List, [], ◌∷◌, suc, ℤ, pos, ◌+ℤ◌, ◌-ℤ◌, ◌*ℤ◌}
use Rattle.net.specs.Net.{Net}

-- one argument: u of form 1 and a u argument of form 2; a v argument of form 2; x, y, z of form 3
pub data Argument : Type 0 where
  along_u : ℤ → Argument
  along_v : ℤ → Argument
  within : ℤ → ℤ → ℤ → Argument

-- form 1: "(1024 − u)·p(i) + u·p(i+1)"; form 2: "the same over i for a u argument, over j for a v argument";
-- form 3: "x·p(i+1,j,k) + y·p(i,j+1,k) + z·p(i,j,k+1)"
unfoldable pub step : Argument → Net → Net
step (along_u u) p i j = (pos 1024 -ℤ u) *ℤ p i j +ℤ u *ℤ p (suc i) j
step (along_v v) p i j = (pos 1024 -ℤ v) *ℤ p i j +ℤ v *ℤ p i (suc j)
step (within x y z) p i j = x *ℤ p (suc i) j +ℤ y *ℤ p i (suc j) +ℤ z *ℤ p i j

-- "Work goes one argument at a time": one number is left when every argument is taken
unfoldable pub blossom : List Argument → Net → ℤ
blossom [] p = p 0 0
blossom (a ∷ rest) p = blossom rest (step a p)
