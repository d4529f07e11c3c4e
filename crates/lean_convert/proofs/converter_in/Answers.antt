-- `lean_convert::converter_in` meets its contract. Assumes nothing.
use Rattle.lean_convert.specs.Converts.{converter_in}
use borrow.Author.Rules.{rules}
use Rattle.lean_convert.proofs.converter_in.Goals as goal

pub returns : goal.returns
unfolding converter_in
returns c = search rules
