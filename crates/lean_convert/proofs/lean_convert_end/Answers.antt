-- `lean_convert::lean_convert_end` meets its contract: the converter that the arrays hold puts out what it keeps. Assumes nothing.
use Rattle.lean_convert.proofs.lean_convert_end.Goals as goal

pub returns : goal.returns
returns c = rw c.converter_in.ensures at c.last.ensures
