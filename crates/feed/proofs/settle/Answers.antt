-- `feed::settle` meets its contract: zeros stand behind what is kept. Assumes nothing.
use native.Mathlib.Omega.{arith}
use borrow.Author.Rules.{rules}
use Rattle.feed.proofs.Holding.{clear-start, clear_next, settled}
use Rattle.feed.proofs.settle.Goals as goal

pub loop-i-init : goal.loop-i-init
loop-i-init c = (omega arith, clear-start _ _)

pub loop-i-preserved : goal.loop-i-preserved
loop-i-preserved c = (omega arith, rw c.loop-i.invariant.1 (clear_next _ _ _ (omega arith) (search rules)))

pub returns : goal.returns
returns c = rw c.loop-i.invariant.1 (settled _ _ _ _ (search rules) (search rules) (omega arith))
