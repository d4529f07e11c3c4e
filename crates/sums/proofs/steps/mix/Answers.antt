-- `sums::steps::mix` meets its contract: each product and each sum is far below 2^63. Assumes nothing.
use Prim.Native.Nat.{◌^◌}
use native.Mathlib.Omega.{arith}
use Rattle.sums.proofs.steps.Mixing.{between-most, among-again, part-most}
use Rattle.sums.proofs.steps.mix.Goals as goal

pub toward-requires : goal.toward-requires
toward-requires c = let p = c.requires in (omega arith, p.1, p.3)

pub sum-requires : goal.sum-requires
sum-requires c =
    let p = c.requires in
    let d = between-most c.args.x c.args.p.0 c.args.r.0 (2 ^ 42) (omega (arith, p.0)) p.1 p.3 in
    let e = part-most c.args.y _ _ _ (2 ^ 42) (omega (arith, p.0)) c.less.ensures.1 p.2 p.1 in
    rw c.toward.ensures (omega (arith, d, e, c.share.ensures.1))

pub returns : goal.returns
returns c =
    rw (c.sum.ensures.0, c.toward.ensures, c.share.ensures.0, c.less.ensures.0)
    (among-again c.args.x c.args.y c.args.p.0 c.args.q.0 c.args.r.0 c.requires.0)
