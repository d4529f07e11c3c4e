-- `entries::ending::second_ending` meets its contract. Assumes nothing.
use mathlib.Core.Path.{◌∙◌}
use native.Mathlib.Omega.{arith}
use Rattle.shown.proofs.entries.Telling.{length-form, in-first, in-second, second-wrong}
use Rattle.shown.proofs.entries.ending.second_ending.Goals as goal

pub returns-then-rest-word_at : goal.returns-then-rest-word_at
returns-then-rest-word_at c = c.cut.ensures ∙ in-first _ _ _ _ c.word_at.ensures.0 (omega arith)

pub returns-then-is_length : goal.returns-then-is_length
returns-then-is_length c = c.cut-then-is_length.ensures ∙ in-second _ _ _ _ c.word_at.ensures.0 (omega arith) _ (rw c.behind.ensures at c.word_at-second.ensures.0) _ c.is_length.ensures c.if-is_length.true

pub returns : goal.returns
returns c = length-form _ _ _ ∙ second-wrong _ _ _ _ c.word_at.ensures.0 (omega arith) _ (rw
    c.behind.ensures at c.word_at-second.ensures.0) _ c.is_length.ensures _ c.if-is_length.false c.second_at.ensures
