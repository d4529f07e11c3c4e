-- `lean_sheet::state_in` meets its contract. Assumes nothing.
use Rattle.lean_sheet.specs.Fed.{state_in}
use Rattle.lean_sheet.proofs.state_in.Goals as goal

pub returns : goal.returns
unfolding state_in
returns c = rw c.span_in.ensures
