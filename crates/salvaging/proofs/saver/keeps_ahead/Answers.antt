-- `salvaging::saver::keeps_ahead` meets its contract. Assumes nothing.
use native.Mathlib.Omega.{arith}
use Rattle.salvaging.proofs.saver.Looking.{kept-stop, some_kept, kept_more}
use Rattle.salvaging.proofs.saver.keeps_ahead.Goals as goal

pub overflow_add-i : goal.overflow_add-i
overflow_add-i c = omega (arith, (kept_more _ _ _ c.loop-n.invariant _ c.in-Some.ensures).within)

pub loop-n-smaller : goal.loop-n-smaller
loop-n-smaller c = omega (
  arith,
  some_kept _ _ _ c.loop-n.invariant _ c.in-Some.ensures,
  (kept_more _ _ _ c.loop-n.invariant _ c.in-Some.ensures).within,
)

pub loop-n-preserved : goal.loop-n-preserved
loop-n-preserved c = kept_more _ _ _ c.loop-n.invariant _ c.in-Some.ensures

pub returns : goal.returns
returns c = kept-stop _ _ _ c.loop-n.invariant c.in_default.ensures
