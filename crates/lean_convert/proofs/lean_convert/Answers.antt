-- `lean_convert::lean_convert` meets its contract: the converter that the arrays hold takes the part. Assumes nothing.
use mathlib.Core.Path.{refl}
use Rattle.lean_convert.proofs.Arrays.{held_in}
use Rattle.lean_convert.proofs.lean_convert.Goals as goal

pub returns : goal.returns
returns c =
    held_in c.converter_in.ensures c.take-taken.ensures refl c.put_words.ensures
