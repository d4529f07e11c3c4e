-- `lean_sheet::lean_sheet` meets its contract: the state that the arrays hold takes the part. Assumes nothing.
use mathlib.Core.Path.{refl}
use Rattle.lean_sheet.proofs.Arrays.{held_in}
use Rattle.lean_sheet.proofs.lean_sheet.Goals as goal

pub returns : goal.returns
returns c =
    held_in (rw c.state_in.ensures at c.take-state.ensures) refl c.put_counts.ensures refl c.put_span.ensures
