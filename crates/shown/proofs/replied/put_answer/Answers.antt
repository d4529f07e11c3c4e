-- `shown::replied::put_answer` meets its contract. Assumes nothing.
use Rattle.page.proofs.Putting.{adds_then, adds-same}
use Rattle.shown.proofs.Telling.{answer-none, answer-accepted, answer-refused}
use Rattle.shown.proofs.replied.put_answer.Goals as goal

pub returns-then-word_at-ne32769 : goal.returns-then-word_at-ne32769
returns-then-word_at-ne32769 c = adds-same _ _ _ _ c.put.ensures (answer-none _ _ c.word_at.ensures.0 c.if-word_at-ne32769.true)

pub returns-then-n-eq0 : goal.returns-then-n-eq0
returns-then-n-eq0 c =
    adds-same _ _ _ _ c.put-then-n-eq0.ensures
    (answer-accepted _ _ c.word_at.ensures.0 c.if-word_at-ne32769.false _ c.byte_at-n.ensures.0 c.if-n-eq0.true)

pub returns : goal.returns
returns c =
    adds-same _ _ _ _
    (adds_then _ _ _ _ _ (adds_then _ _ _ _ _ c.put_natural.ensures c.put-2.ensures) (adds-same _ _ _ _ c.put-3.ensures c.name_of.ensures))
    (answer-refused _ _ c.word_at.ensures.0 c.if-word_at-ne32769.false _ c.byte_at-n.ensures.0 c.if-n-eq0.false)
