-- `renewal::carry_part` meets its contract: all of the part is taken, and what it puts out is written where that is wanted.
-- Assumes nothing.
use native.Mathlib.Omega.{arith}
use lib.ListN.{length-take}
use Rattle.renewal.proofs.Carrying.{part-after, part_out, carried-out, carried_on}
use Rattle.renewal.proofs.carry_part.Goals as goal
use Rattle.renewal.proofs.carry_part.Goals.{then-wanted, else-wanted}

pub returns : goal.returns
returns c =
    let after = part-after _ _ (simp length-take (omega arith)) (omega arith) c.take-taken.ensures in
    elim c.if-wanted.branch [
      | then-wanted w ↦
          rw w.out-is
          (carried-out _ _ _ _ _ c.read-got.ensures.1 after _ w.if-wanted.true _ _ _
          (part_out _ _ (simp length-take (omega arith)) (omega arith) c.take-taken.ensures) w.write-out.ensures)
      | else-wanted w ↦ rw w.out-is (carried_on _ _ _ _ _ c.read-got.ensures.1 after _ w.if-wanted.false _)
    ]
