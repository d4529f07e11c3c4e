-- `day::daily::sheet_of` meets its contract. Assumes nothing.
use mathlib.Core.Path.{ap, ◌∙◌}
use Rattle.day.specs.declared.daily.State.{State}
use Rattle.day.proofs.daily.Reading.{sheet-of-all}
use Rattle.day.proofs.daily.sheet_of.Goals as goal

pub returns : goal.returns
returns c = ap (λ (s : State). s.sheet) (rw c.new.ensures at c.take.ensures) ∙ sheet-of-all _
