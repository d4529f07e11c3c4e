-- `renewal::look` meets its contract. Assumes nothing.
use mathlib.Core.Path.{refl}
use Rattle.renewal.proofs.Carrying.{looked}
use Rattle.renewal.proofs.look.Goals as goal

pub returns : goal.returns
returns c = looked c.new.ensures c.carry_all-night.ensures refl c.refused.ensures
