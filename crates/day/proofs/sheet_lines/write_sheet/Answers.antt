-- `day::sheet_lines::write_sheet` meets its contract. Assumes nothing.
use native.Mathlib.Omega.{arith}
use Rattle.spell.proofs.Writing.{no_room, told}
use Rattle.day.proofs.sheet_lines.write_sheet.Goals as goal

pub returns-then-out-lt628 : goal.returns-then-out-lt628
returns-then-out-lt628 c = no_room _ _ _ (omega arith)

pub returns : goal.returns
returns c = told _ _ _ _ _ (omega arith) c.write_lines.ensures
