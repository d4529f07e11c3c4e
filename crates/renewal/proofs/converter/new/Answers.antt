-- `renewal::converter::new` meets its contract. Assumes nothing.
use Rattle.renewal.specs.converter.Put.{begun}
use Rattle.renewal.proofs.converter.new.Goals as goal

pub returns : goal.returns
unfolding begun
returns c = c.blank.ensures
