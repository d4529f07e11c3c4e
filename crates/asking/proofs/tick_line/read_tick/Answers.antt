-- `crate::tick_line::read_tick` meets its contract: the readers one after the other. Assumes nothing.
use Rattle.asking.proofs.tick_line.Behind.{asked_is}
use Rattle.asking.proofs.tick_line.read_tick.Goals as goal

pub returns : goal.returns
returns c =
    let listed = c.read_list-listed.ensures in
    let end = c.read_end.ensures in
    let asked = asked_is _ _ _ _ _ listed.is c.number-moment.ensures.is end.is in
    record {
      cursor = rw asked;
      counted = rw asked listed.counted;
      k = rw asked;
      holds = rw asked listed.holds;
      few = listed.small;
      inside = end.inside;
    }
