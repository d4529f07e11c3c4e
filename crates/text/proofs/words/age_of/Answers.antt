-- `text::words::age_of` meets its contract: the mark and a number, or a word left over. Assumes nothing.
use mathlib.Core.Path.{refl, sym, ◌∙◌}
use Rattle.text.specs.words.Words.{age_mark, is_age}
use Rattle.text.proofs.words.Cases.{reads-age, reads_other}
use Rattle.text.proofs.words.Marks.{strips_mark}
use Rattle.text.proofs.words.age_of.Goals as goal

pub returns-in-Some : goal.returns-in-Some
unfolding is_age
returns-in-Some c = reads-age _ _ (sym (strips_mark age_mark c.args.word.now) ∙ c.in-Some.ensures.cases.0) (c.bounded.ensures.is ∙ rw c.in-Some.ensures.cases.1)

pub returns-in-None : goal.returns-in-None
unfolding is_age
returns-in-None c = reads_other _ _ (sym (strips_mark age_mark c.args.word.now) ∙ c.in-None.ensures.cases) refl
