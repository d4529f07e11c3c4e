-- `page::digit` meets its contract. Assumes nothing.
use native.Mathlib.Omega.{arith}
use Rattle.page.proofs.Putting.{low_digit, high_digit}
use Rattle.page.proofs.digit.Goals as goal

pub returns-then-d-lt10 : goal.returns-then-d-lt10
returns-then-d-lt10 c = low_digit _ (omega arith)

pub returns-else-d-lt10 : goal.returns-else-d-lt10
returns-else-d-lt10 c = high_digit _ (omega arith)
