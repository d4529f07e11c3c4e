-- `door::tally::is_today` meets its contract. Assumes nothing.
use mathlib.Core.Path.{refl}
use native.Mathlib.Omega.{arith}
use lib.ListN.{length-take}
use Rattle.door.proofs.tally.Asking.{replied, compared}
use Rattle.door.proofs.tally.is_today.Goals as goal

pub slice_bounds-today-end : goal.slice_bounds-today-end
slice_bounds-today-end c = (replied c.door_reply-count.ensures refl).inside

pub slice_bounds-same-end : goal.slice_bounds-same-end
slice_bounds-same-end c = simp length-take (omega (arith, (replied c.door_reply-count.ensures refl).inside))

pub returns : goal.returns
returns c = compared _ _ _ _ _ (replied c.door_reply-count.ensures refl) c.same.ensures
