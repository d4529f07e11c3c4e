-- `sums::gather::triangle` meets its contract. Assumes nothing.
use mathlib.Core.Path.{◌≡◌, refl}
use native.Mathlib.Omega.{arith}
use Rattle.whole.specs.Choose.{choose}
use Rattle.net.specs.runs.Tree.{size}
use Rattle.sums.proofs.gather.triangle.Goals as goal

pub returns-in-3 : goal.returns-in-3
unfolding size choose
returns-in-3 c = rw c.in-3.is (refl, omega arith)

pub returns-in-2 : goal.returns-in-2
unfolding size choose
returns-in-2 c = rw c.in-2.is (refl, omega arith)

pub returns-in-1 : goal.returns-in-1
unfolding size choose
returns-in-1 c = rw c.in-1.is (refl, omega arith)

pub returns-in_default : goal.returns-in_default
unfolding size choose
returns-in_default c =
    let z : c.args.d ≡ 0 = let p = c.requires in omega arith in
    rw z (refl, omega arith)
