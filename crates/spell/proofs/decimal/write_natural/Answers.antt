-- `spell::decimal::write_natural` meets its contract: a number of 64 bits has at most 20 digits. Assumes nothing.
use native.Mathlib.Omega.{arith}
use Rattle.spell.proofs.Spelling.{twenty}
use Rattle.spell.proofs.Writing.{written-within}
use Rattle.spell.proofs.decimal.write_natural.Goals as goal

pub write_digits-requires : goal.write_digits-requires
write_digits-requires c = omega (arith, twenty _ c.ranges.n.fits)

pub returns : goal.returns
returns c = written-within _ _ _ _ _ _ c.write_digits.ensures 20 (twenty _ c.ranges.n.fits)
