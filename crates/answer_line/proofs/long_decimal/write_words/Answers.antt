-- `answer_line::long_decimal::write_words` meets its contract: the minus, and then the digits of the size. Assumes nothing.
use mathlib.Core.Path.{sym, ◌∙◌}
use native.Mathlib.Omega.{arith}
use Rattle.spell.proofs.Writing.{written-first, written-within}
use Rattle.answer_line.proofs.long_decimal.Tens.{words-below, words-above}
use Rattle.answer_line.proofs.long_decimal.write_words.Goals as goal

pub returns-then-negative : goal.returns-then-negative
returns-then-negative c =
    let z = c.size_of-size.ensures in
    rw (words-below _ _ _ z.2 z.0 (sym c.negative.ensures ∙ c.if-negative.true)) (written-first 39 _ _ _ _ _ _ c.write_size.ensures)

pub returns-else-negative : goal.returns-else-negative
returns-else-negative c =
    let z = c.size_of-size.ensures in
    rw (words-above _ _ _ z.2 z.0 (sym c.negative.ensures ∙ c.if-negative.false))
    (written-within 39 _ _ _ _ _ c.write_size-else-negative.ensures 40 (omega arith))
