-- `sums::steps::toward` meets its contract: each product and the sum are far below 2^63. Assumes nothing.
use Prim.Native.Nat.{◌^◌}
use native.Mathlib.Omega.{arith}
use Rattle.sums.proofs.steps.Mixing.{between-again, part-most}
use Rattle.sums.proofs.steps.toward.Goals as goal

pub sum-requires : goal.sum-requires
sum-requires c =
    let p = c.requires in
    let d = part-most _ _ _ _ (2 ^ 42) p.0 c.less.ensures.1 p.2 p.1 in
    omega (arith, d, p.1, c.share-2.ensures.1, c.share.ensures.1)

pub returns : goal.returns
returns c =
    let a = c.args in
    rw (c.sum.ensures.0, c.share-2.ensures.0, c.less.ensures.0, c.share.ensures.0)
    (between-again a.s a.p.0 a.q.0)
