-- `sheets::widen_all` meets its contract: each turn takes one point. Assumes nothing.
use native.Mathlib.Omega.{arith}
use Rattle.day.proofs.sheets.Leaves.{widening-none, widening-more, widening-all}
use Rattle.day.proofs.sheets.widen_all.Goals as goal

pub loop-k-init : goal.loop-k-init
loop-k-init c = (omega arith, widening-none _ _ _ c.byte_at-count.ensures.0)

pub point_at-requires : goal.point_at-requires
point_at-requires c = omega (arith, c.byte_at-count.ensures.1)

pub loop-k-preserved : goal.loop-k-preserved
loop-k-preserved c = (
  omega arith,
  widening-more _ _ _ c.byte_at-count.ensures.0 _ _ _ _ (omega arith) c.point_at.ensures c.widen-next.ensures
      c.loop-k.invariant.1,
)

pub returns : goal.returns
returns c = widening-all _ _ _ c.byte_at-count.ensures.0 _ _ (omega arith) c.loop-k.invariant.1
