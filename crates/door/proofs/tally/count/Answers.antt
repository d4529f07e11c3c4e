-- `door::tally::count` meets its contract. Assumes nothing.
use mathlib.Core.Path.{ap, ◌∙◌}
use Rattle.door.specs.Contract.{reply_of}
use Rattle.fives.specs.Count.{counted}
use Rattle.fives.proofs.Numbers.{counts_is}
use Rattle.door.proofs.tally.count.Goals as goal

pub returns : goal.returns
returns c = c.count_pair.ensures ∙ ap (counted _) c.agree.ensures ∙ counts_is reply_of _ _
