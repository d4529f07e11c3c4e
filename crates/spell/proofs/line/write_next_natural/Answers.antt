-- `spell::line::write_next_natural` meets its contract: a space, and then the number. Assumes nothing.
use mathlib.Core.Path.{◌∙◌}
use lib.ListN.{length-set}
use native.Mathlib.Omega.{arith}
use Rattle.spell.proofs.Writing.{written-first}
use Rattle.spell.proofs.line.write_next_natural.Goals as goal

pub write_natural-requires : goal.write_natural-requires
write_natural-requires c = simp length-set (omega arith)

pub shape_of-out : goal.shape_of-out
shape_of-out c = c.write_natural.auto.out ∙ simp length-set

pub returns : goal.returns
returns c = written-first 20 _ _ _ _ _ _ c.write_natural.ensures
