-- `asking::answered` meets its contract. Assumes nothing.
use lib.ListN.{length-take}
use Rattle.names.proofs.Naming.{front-is}
use Rattle.asking.proofs.Telling.{shown_by_lem, shown-plain}
use native.Mathlib.Omega.{arith}
use Rattle.asking.proofs.answered.Goals as goal

pub slice_bounds-write-end : goal.slice_bounds-write-end
slice_bounds-write-end c = omega (arith, c.write_by_name-n.ensures.small)

pub slice_bounds-write-end-then-by_names : goal.slice_bounds-write-end-then-by_names
slice_bounds-write-end-then-by_names c = simp length-take (omega (arith, c.write_by_name-n.ensures.small))

pub returns-then-by_names : goal.returns-then-by_names
returns-then-by_names c =
    let named = c.write_by_name-n in
    let is = front-is _ _ _ _ _ named.ensures (omega arith) in
    shown_by_lem _ _ _ _ _ c.if-by_names.true is c.write.ensures

pub returns : goal.returns
returns c = shown-plain _ _ _ _ c.if-by_names.false c.write-2.ensures
