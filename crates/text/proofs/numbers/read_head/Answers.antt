-- `text::numbers::read_head` meets its contract: four numbers one after the other. Assumes nothing.
use Rattle.text.specs.numbers.Numbers.{headed}
use Rattle.text.proofs.numbers.read_head.Goals as goal

pub returns : goal.returns
unfolding headed
returns c =
    let N = c.number-N.ensures in
    let second = c.number-second.ensures in
    let first = c.number-first.ensures in
    let form = c.number-form.ensures in
    record { is = rw (← form.is, ← first.is, ← second.is, ← N.is); inside = N.inside }
