-- `sums::rectangle` meets its contract. Assumes nothing.
use native.Mathlib.Omega.{arith}
use Rattle.sums.proofs.steps.Fronts.{front}
use Rattle.sums.proofs.Starting.{few-small, loaded-small, one-done, box-done}
use Rattle.sums.proofs.rectangle.Goals as goal

pub last_row-requires : goal.last_row-requires
unfolding front
last_row-requires c =
    let p = c.requires in (
      rw (c.of_group.ensures, c.if-r-eq1.true) (rw c.if-r-eq1.true at p.1),
      p.2,
      rw (c.travel.ensures, c.travel-then-r-eq1.ensures) (few-small c.args.surface.now 2 1 p.3 (omega arith)),
    )

pub returns-then-r-eq1 : goal.returns-then-r-eq1
unfolding front
returns-then-r-eq1 c =
    one-done _ _ _ _ _ c.args.surface.now _ _ c.if-r-eq1.true _ c.of_group.ensures (rw (c.travel.ensures, c.travel-then-r-eq1.ensures) at
    c.last_row.ensures)

pub gather_row-requires : goal.gather_row-requires
gather_row-requires c =
    let p = c.requires in (
      let some = p.0 in let more = c.if-r-eq1.false in omega arith,
      rw c.of_group.ensures p.1,
      p.2,
      loaded-small _ _ p.1.total c.load_box-net.ensures.small,
    )

pub returns : goal.returns
returns c =
    let q = rw c.of_group.ensures at c.gather_row.ensures in
    (q.0, box-done _ _ _ _ _ c.args.surface.now c.gather_row.result _ c.requires.1.total _ c.load_box-net.ensures q.1)
