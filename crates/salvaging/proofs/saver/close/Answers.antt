-- `salvaging::saver::close` meets its contract. Assumes nothing.
use native.Mathlib.Omega.{arith}
use Rattle.salvaging.proofs.saver.Looking.{close-small, close-none, close-line}
use Rattle.salvaging.proofs.saver.close.Goals as goal

pub returns-then-line-lt47 : goal.returns-then-line-lt47
returns-then-line-lt47 c = close-small _ _ (omega arith)

pub returns-then-place-eq0 : goal.returns-then-place-eq0
returns-then-place-eq0 c = close-none _ _ (omega arith) c.if-place-eq0.true

pub returns : goal.returns
returns c = close-line _ _ (omega arith) c.if-place-eq0.false c.write_skip.ensures
