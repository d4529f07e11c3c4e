-- `fives::lines::write_five` meets its contract. Assumes nothing.
use native.Mathlib.Omega.{arith}
use Rattle.spell.proofs.Writing.{no_room, told}
use Rattle.fives.proofs.lines.write_five.Goals as goal

pub returns-then-out-lt134 : goal.returns-then-out-lt134
returns-then-out-lt134 c = no_room _ _ _ (omega arith)

pub returns : goal.returns
returns c = told _ _ _ _ _ (omega arith) c.write_lines.ensures
