-- `judgement::tested` meets its contract: the record's numbers begin at one of two bytes. Assumes nothing.
use Rattle.std.proofs.Common.{rules}
use Rattle.judgement.proofs.Sizes.{start-most}
use Rattle.judgement.proofs.tested.Goals as goal

pub body_end-requires : goal.body_end-requires
body_end-requires c = (rw c.requires.from_is (start-most _), search rules)
