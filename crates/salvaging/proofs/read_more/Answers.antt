-- `salvaging::read_more` meets its contract: a part behind the bytes that are not decided. Assumes nothing.
use borrow.Author.Rules.{rules}
use Rattle.salvaging.proofs.Sliding.{slid}
use Rattle.salvaging.proofs.Streaming.{within-front, part-fills}
use Rattle.salvaging.proofs.read_more.Goals as goal

pub returns : goal.returns
returns c =
    part-fills _ _ _ _ _ _ _ _ _ _ c.requires.0 c.read-got.ensures.0.0 c.read-got.ensures.1 c.settle-settled.ensures.0
    (slid _ _ _ c.copy_within.ensures.after (within-front _ _ _ c.settle-settled.ensures.0.within) (search rules))
