-- `page::is_mark` meets its contract. Assumes nothing.
use native.Mathlib.Omega.{arith}
use Rattle.std.proofs.lemmas.Bool.Decides.{nat_tests}
use Rattle.page.specs.Form.{is_mark}
use Rattle.page.proofs.is_mark.Goals as goal

pub returns-then-c-ge33 : goal.returns-then-c-ge33
unfolding is_mark
returns-then-c-ge33 c = grind (arith, nat_tests)

pub returns-else-c-ge33 : goal.returns-else-c-ge33
unfolding is_mark
returns-else-c-ge33 c = grind (arith, nat_tests)
