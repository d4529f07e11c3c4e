-- `renewal::renew` meets its contract. Assumes nothing.
use mathlib.Core.Path.{refl}
use native.Mathlib.Omega.{arith}
use lib.ListN.{length-take}
use Rattle.renewal.proofs.Carrying.{renewed}
use borrow.Author.Rules.{rules}
use Rattle.renewal.proofs.renew.Goals as goal

pub slice_bounds-buffer-end : goal.slice_bounds-buffer-end
slice_bounds-buffer-end c = omega (arith, c.last-n.ensures.within)

pub slice_bounds-write-end : goal.slice_bounds-write-end
slice_bounds-write-end c = simp length-take (omega (arith, c.last-n.ensures.within))

pub returns : goal.returns
returns c = renewed c.new.ensures c.carry_all-night.ensures refl c.refused.ensures _ _ _ _ (search rules) c.last-n.ensures c.write.ensures
