-- `tick::carried_at` meets its contract: a point's product fits, and is carried. Assumes nothing.
use lib.IntN.{pos}
use lib.ListN.{get_or}
use Rattle.request.proofs.Bounds.{travels}
use Rattle.tick.proofs.Sizes.{point-fits, point-carried}
use Rattle.tick.proofs.carried_at.Goals as goal

pub product-requires : goal.product-requires
product-requires c =
    point-fits _ c.units_of.result.0 c.plus.ensures
    (rw (c.units_of.ensures, c.travel_at.ensures) (travels c.args.points.now c.requires c.args.i))

pub returns : goal.returns
returns c =
    point-carried _ (get_or c.args.points.now c.args.i (pos 0)) _ c.plus.ensures (travels c.args.points.now c.requires c.args.i)
    (rw (c.units_of.ensures, c.travel_at.ensures) at c.product.ensures.0)
