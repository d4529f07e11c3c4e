-- `lean_salvage::lean_salvage` meets its contract: the look ahead's own numbers, in five words. Assumes nothing.
use native.Mathlib.Omega.{arith}
use Rattle.lean_salvage.proofs.Crossed.{few_words, short-line, wrote}
use Rattle.lean_salvage.proofs.lean_salvage.Goals as goal

pub returns-then-words-lt5 : goal.returns-then-words-lt5
returns-then-words-lt5 c = few_words _ _ _ _ (omega arith)

pub returns-then-line-lt47 : goal.returns-then-line-lt47
returns-then-line-lt47 c = short-line _ _ _ _ (omega arith) (omega arith)

pub returns : goal.returns
returns c =
    wrote _ _ _ _ (omega arith) (omega arith) _ _ _ c.ahead.ensures c.put_stretch.ensures
