-- `day::sheet_lines::write_value` meets its contract. Assumes nothing.
use native.Mathlib.Omega.{arith}
use Rattle.spell.proofs.Writing.{written-within}
use Rattle.day.specs.sheet_lines.Lines.{value_of}
use Rattle.day.proofs.sheet_lines.write_value.Goals as goal

pub returns-then-some : goal.returns-then-some
unfolding value_of
returns-then-some c = rw c.if-some.true c.write_number.ensures

pub returns : goal.returns
unfolding value_of
returns c = rw c.if-some.false (written-within _ _ _ _ _ _ c.write_bytes.ensures 20 (omega arith))
