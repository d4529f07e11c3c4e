-- One step for all forms, over an argument's three shares. Assumes nothing.
use Rattle.std.specs.Prelude.{◌≡◌, ℕ, suc, ◌+◌, pos, ◌+ℤ◌, ◌*ℤ◌}
use Rattle.net.specs.declared.Shares.{Shares}
use Rattle.net.specs.Net.{Net}
use Rattle.net.specs.Blossom.{Argument, step}

-- x·p(i+1,j) + y·p(i,j+1) + z·p(i,j)
unfoldable pub mixed : Shares → Net → Net
mixed w p i j = pos w.x *ℤ p (suc i) j +ℤ pos w.y *ℤ p i (suc j) +ℤ pos w.z *ℤ p i j

-- three shares that do what an argument does to every net
pub record Weighs (w : Shares) (a : Argument) : Type 0 where
  pub one : w.x + w.y + w.z ≡ 1024
  pub same : (p : Net) (i j : ℕ) → step a p i j ≡ mixed w p i j
