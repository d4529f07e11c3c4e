-- `day::daily::take` meets its contract: the sheet adds a pair by a function. Assumes nothing.
use mathlib.Core.Path.{ap, ◌∙◌}
use Rattle.feed.proofs.Taking.{gathers}
use Rattle.day.specs.sheets.Fold.{adds}
use Rattle.day.specs.daily.Read.{after_part}
use Rattle.day.proofs.daily.Reading.{state-is}
use Rattle.day.proofs.daily.take.Goals as goal

pub returns : goal.returns
unfolding after_part
returns c = state-is _ _ _ _ (gathers adds _ (λ s pair s' a. a.met ∙ ap (adds s) a.shows) c.take-rest.ensures)
