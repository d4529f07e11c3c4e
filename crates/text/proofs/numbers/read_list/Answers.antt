-- `text::numbers::read_list` meets its contract: a count and as many values. Assumes nothing.
use mathlib.Core.Path.{sym}
use Rattle.text.specs.numbers.Numbers.{listed}
use Rattle.text.proofs.numbers.Values.{values_length}
use Rattle.text.proofs.numbers.read_list.Goals as goal

pub returns : goal.returns
unfolding listed
returns c =
    let count = c.number-counted.ensures in
    let read = c.read_values.ensures in
    record {
      is = rw (← count.is) read.is;
      inside = read.inside;
      counted = rw (← count.is) (sym (values_length _ _ _));
      small = count.size;
      holds = rw (← count.is) read.holds;
    }
