-- `writing::write_all` meets its contract: the places passed are written, the others are still as they were. Assumes nothing.
use mathlib.Core.Path.{◌≡◌}
use native.Mathlib.Omega.{arith}
use Rattle.compose.specs.writing.Arrays.{Arrays, arrays}
use Rattle.compose.proofs.writing.Placing.{wrote_none, same-lengths, still-enough, wrote-more}
use Rattle.compose.proofs.writing.write_all.Goals as goal

pub loop-R-init : goal.loop-R-init
loop-R-init c = (omega arith, wrote_none _ _ _ _)

pub write_place-requires : goal.write_place-requires
write_place-requires c =
    let lent : Arrays = arrays c.args.high.now c.args.low.now c.args.points.now in
    (c.requires.0, omega arith, still-enough _ _ _ _ lent c.requires.1 _ _ c.loop-R.invariant.1 (omega arith))

pub loop-R-preserved : goal.loop-R-preserved
loop-R-preserved c =
    let lent : Arrays = arrays c.args.high.now c.args.low.now c.args.points.now in
    (omega arith, wrote-more _ _ _ _ lent c.requires.1 _ _ c.loop-R.invariant.1 (omega arith) _ c.write_place.ensures)

pub shape_of-high : goal.shape_of-high
shape_of-high c =
    let lent : Arrays = arrays c.args.high.now c.args.low.now c.args.points.now in
    (same-lengths _ _ _ _ lent c.requires.1 _ _ c.loop-R.invariant.1 c.loop-R.invariant.0).high

pub shape_of-low : goal.shape_of-low
shape_of-low c =
    let lent : Arrays = arrays c.args.high.now c.args.low.now c.args.points.now in
    (same-lengths _ _ _ _ lent c.requires.1 _ _ c.loop-R.invariant.1 c.loop-R.invariant.0).low

pub shape_of-points : goal.shape_of-points
shape_of-points c =
    let lent : Arrays = arrays c.args.high.now c.args.low.now c.args.points.now in
    (same-lengths _ _ _ _ lent c.requires.1 _ _ c.loop-R.invariant.1 c.loop-R.invariant.0).points

pub returns : goal.returns
returns c =
    let e : c.loop-R.R ≡ c.args.count = let m = c.loop-R.invariant.0 in omega arith in
    rw e at c.loop-R.invariant.1
