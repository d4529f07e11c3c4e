-- `lean_sheet::span_in` meets its contract. Assumes nothing.
use Rattle.lean_sheet.specs.Fed.{span_in}
use borrow.Author.Rules.{rules}
use Rattle.lean_sheet.proofs.span_in.Goals as goal

pub returns : goal.returns
unfolding span_in
returns c = search rules
