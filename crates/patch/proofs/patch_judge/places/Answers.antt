-- `patch_judge::places` meets its contract: the product fits. Assumes nothing.
use Prim.Native.Nat.{◌+◌, ◌≤◌}
use native.Mathlib.Nat.{mul-le-mul}
use native.Mathlib.Omega.{arith}
use borrow.Author.Rules.{rules}
use Rattle.patch_net.specs.Patch.{places}
use Rattle.patch.proofs.patch_judge.places.Goals as goal

pub overflow_mul-result : goal.overflow_mul-result
overflow_mul-result c =
    let d = c.args.d in
    let a : d + 1 ≤ 10 = omega arith in
    let b : d + 2 ≤ 11 = omega arith in
    record { fits = omega (arith, mul-le-mul a b) }

pub returns : goal.returns
unfolding places
returns c = search rules
