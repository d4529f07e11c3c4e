-- `sums::triangle` meets its contract. Assumes nothing.
use native.Mathlib.Omega.{arith}
use Rattle.sums.proofs.steps.Fronts.{front}
use Rattle.sums.proofs.Starting.{few-small, loaded-small, three-done, triangle-done}
use Rattle.sums.proofs.triangle.Goals as goal

pub last_tri-requires : goal.last_tri-requires
unfolding front
last_tri-requires c =
    let p = c.requires in (
      rw c.if-r-eq1.true (rw c.if-r-eq1.true at p.1),
      p.2,
      rw c.travels-net.ensures
          (few-small c.args.surface.now 3 1 p.3 (omega arith)),
    )

pub returns-then-r-eq1 : goal.returns-then-r-eq1
unfolding front
returns-then-r-eq1 c =
    three-done _ _ _ _ c.args.surface.now _ _ c.if-r-eq1.true
    (rw c.travels-net.ensures at c.last_tri.ensures)

pub load_tri-net-requires : goal.load_tri-net-requires
load_tri-net-requires c = let p = c.requires in (p.3, let some = p.0 in let more = c.if-r-eq1.false in omega arith, p.1.total)

pub gather_tri-requires : goal.gather_tri-requires
gather_tri-requires c =
    let p = c.requires in (
      let some = p.0 in let more = c.if-r-eq1.false in omega arith,
      p.1,
      p.2,
      loaded-small _ _ p.1.total c.load_tri-net.ensures.small,
    )

pub returns : goal.returns
returns c =
    let q = c.gather_tri.ensures in
    (q.0, triangle-done _ _ _ _ c.args.surface.now c.gather_tri.result _ _ c.load_tri-net.ensures q.1)
