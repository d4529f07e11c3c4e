-- `day::sheet_lines::write_refusals` meets its contract: each turn writes one line. Assumes nothing.
use mathlib.Core.Path.{refl}
use native.Mathlib.Omega.{arith}
use Rattle.day.proofs.sheet_lines.Telling.{refusing-none, refusing-more, refusing-all}
use Rattle.day.proofs.sheet_lines.write_refusals.Goals as goal

pub loop-n-init : goal.loop-n-init
loop-n-init c = refusing-none _ _ _

pub write_refusal-end-requires : goal.write_refusal-end-requires
write_refusal-end-requires c = omega (
  arith,
  c.loop-n.invariant.size,
  c.loop-n.invariant.so_far.small,
)

pub loop-n-preserved : goal.loop-n-preserved
loop-n-preserved c = refusing-more _ _ _ _ _ _ c.loop-n.invariant _ _ _ (omega arith)
    refl (omega arith) c.write_refusal-end.ensures

pub shape_of-out : goal.shape_of-out
shape_of-out c = c.loop-n.invariant.size

pub returns : goal.returns
returns c = refusing-all _ _ _ _ _ _ c.loop-n.invariant _ (omega arith) (omega arith)
