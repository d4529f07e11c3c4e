-- `sums::numbers` meets its contract, form by form. Assumes nothing.
use native.Mathlib.Omega.{arith}
use Rattle.sums.proofs.Filling.{curve-numbers, tensor-numbers, triangle-numbers}
use Rattle.sums.proofs.numbers.Goals as goal

pub returns-in-1 : goal.returns-in-1
returns-in-1 c = (curve-numbers _ c.in-1.is, omega arith)

pub returns-in-2 : goal.returns-in-2
returns-in-2 c = (tensor-numbers _ c.in-2.is, omega arith)

pub returns-in_default : goal.returns-in_default
returns-in_default c = (triangle-numbers _ (omega arith) (omega arith), omega arith)
