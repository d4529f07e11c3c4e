-- `entries::ending::ending` meets its contract. Assumes nothing.
use mathlib.Core.Path.{◌∙◌}
use native.Mathlib.Omega.{arith}
use Rattle.shown.proofs.entries.Telling.{whole-form, length-form, all_read, no_field, first-right, first-wrong}
use Rattle.shown.proofs.entries.ending.ending.Goals as goal

pub returns-then-rest-eq0 : goal.returns-then-rest-eq0
returns-then-rest-eq0 c = whole-form _ _ _ ∙ all_read _ _ _ c.if-rest-eq0.true

pub returns-then-rest-lt2 : goal.returns-then-rest-lt2
returns-then-rest-lt2 c = c.cut.ensures ∙ no_field _ _ _ c.if-rest-eq0.false (omega arith)

pub returns-then-is_length : goal.returns-then-is_length
returns-then-is_length c = c.second_ending.ensures ∙ first-right _ _ _ c.if-rest-eq0.false (omega arith) _ c.word_at-first.ensures.0 _ c.is_length.ensures c.if-is_length.true

pub returns : goal.returns
returns c = length-form _ _ _ ∙ first-wrong _ _ _ c.if-rest-eq0.false (omega arith) _ c.word_at-first.ensures.0 _ c.is_length.ensures c.if-is_length.false
