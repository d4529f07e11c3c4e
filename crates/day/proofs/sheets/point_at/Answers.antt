-- `sheets::point_at` meets its contract. Assumes nothing.
use Rattle.wire.specs.Words.{number_at}
use borrow.Author.Rules.{rules}
use Rattle.day.proofs.sheets.point_at.Goals as goal

pub returns : goal.returns
unfolding number_at
returns c = search rules
