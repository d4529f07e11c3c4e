-- `lean_sheet::put_counts` meets its contract. Assumes nothing.
use Rattle.lean_sheet.proofs.Arrays.{counts-are}
use Rattle.lean_sheet.proofs.put_counts.Goals as goal

pub returns : goal.returns
returns c = counts-are c.args.rest c.args.odd c.from.result c.args.some c.from.ensures
