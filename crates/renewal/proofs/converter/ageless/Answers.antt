-- `renewal::converter::ageless` meets its contract. Assumes nothing.
use Rattle.wire.specs.Start.{kind_field}
use Rattle.aging.specs.Convert.{ageless}
use Rattle.renewal.proofs.converter.ageless.Goals as goal

pub returns : goal.returns
unfolding ageless kind_field
returns c = rw c.word_at.ensures.0
