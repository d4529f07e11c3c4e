-- `entries::entry::change` meets its contract. Assumes nothing.
use Rattle.shown.proofs.entries.Telling.{kinds-told, numbers-told, places-told, counts-told, behind-told}
use Rattle.shown.proofs.entries.entry.change.Goals as goal

pub returns-then-word_at : goal.returns-then-word_at
returns-then-word_at c = kinds-told _ _ _ _ _ _ c.word_at.ensures.0 c.word_at-2.ensures.0 c.if-word_at.true

pub returns-then-not-is_alike : goal.returns-then-not-is_alike
returns-then-not-is_alike c = numbers-told _ _ _ _ _ _ c.word_at.ensures.0 c.word_at-2.ensures.0 c.if-word_at.false _ c.is_alike.ensures c.if-not-is_alike.true

pub returns-then-not-is_alike-2 : goal.returns-then-not-is_alike-2
returns-then-not-is_alike-2 c = places-told _ _ _ _ _ _ c.word_at.ensures.0 c.word_at-2.ensures.0 c.if-word_at.false _ c.is_alike.ensures c.if-not-is_alike.false _ c.is_alike-2.ensures c.if-not-is_alike-2.true

pub returns-then-not-is_alike-3 : goal.returns-then-not-is_alike-3
returns-then-not-is_alike-3 c = counts-told _ _ _ _ _ _ c.word_at.ensures.0 c.word_at-2.ensures.0 c.if-word_at.false _ c.is_alike.ensures c.if-not-is_alike.false _ c.is_alike-2.ensures c.if-not-is_alike-2.false _ c.is_alike-3.ensures c.if-not-is_alike-3.true

pub returns : goal.returns
returns c = behind-told _ _ _ _ _ _ c.word_at.ensures.0 c.word_at-2.ensures.0 c.if-word_at.false _ c.is_alike.ensures c.if-not-is_alike.false _ c.is_alike-2.ensures c.if-not-is_alike-2.false _ c.is_alike-3.ensures _ c.if-not-is_alike-3.false c.behind.ensures
