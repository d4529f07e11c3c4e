-- `renewal::converter::blank` meets its contract. Assumes nothing.
use mathlib.Core.Path.{refl}
use Rattle.feed.specs.Feed.{blank, held_of}
use Rattle.renewal.specs.converter.Put.{converter_of}
use Rattle.renewal.proofs.converter.blank.Goals as goal

pub returns : goal.returns
unfolding converter_of held_of blank
returns c = refl
