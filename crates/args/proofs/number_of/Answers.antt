-- `args::number_of` meets its contract: what is read so far is the number of the digits before. Assumes nothing.
use Rattle.std.proofs.Common.{sym, ◌∙◌, arith}
use Rattle.std.proofs.lemmas.Grind.{common_steps}
use Rattle.args.proofs.Words.{no_word, some_word, all_read, no_digit, too_large, digit-more, below-ten, to-digit}
use Rattle.args.proofs.number_of.Goals as goal

pub returns-then-is_empty : goal.returns-then-is_empty
returns-then-is_empty c = grind (arith, no_word)

pub loop-b-init : goal.loop-b-init
loop-b-init c = grind (arith, some_word)

pub returns-in_err-d : goal.returns-in_err-d
returns-in_err-d c = grind (arith, common_steps, no_digit, c.loop-b.invariant.1, to-digit _ _ _ c.from.ensures c.to_digit.ensures.value)

pub returns-then-n-ge100000000000000000 : goal.returns-then-n-ge100000000000000000
returns-then-n-ge100000000000000000 c = grind (arith, common_steps, too_large, c.loop-b.invariant.1, to-digit _ _ _ c.from.ensures c.to_digit.ensures.value)

pub overflow_add-n : goal.overflow_add-n
overflow_add-n c = grind (arith, common_steps, below-ten, to-digit _ _ _ c.from.ensures c.to_digit.ensures.value)

pub loop-b-preserved : goal.loop-b-preserved
loop-b-preserved c = grind (arith, common_steps, below-ten, digit-more, c.loop-b.invariant.1, to-digit _ _ _ c.from.ensures c.to_digit.ensures.value)

pub returns : goal.returns
returns c = sym (c.loop-b.invariant.1 ∙ all_read c.args.word.now c.loop-b.b-index c.loop-b.n (omega arith))
