-- `crate::patch_line::read_patch` meets its contract: the readers one after the other. Assumes nothing.
use Rattle.asking.proofs.patch_line.Behind.{asked_is}
use Rattle.asking.proofs.patch_line.read_patch.Goals as goal

pub returns : goal.returns
returns c =
    let values = c.read_list-values.ensures in
    let numbers = c.read_list-numbers.ensures in
    let rooms = c.read_rooms-lent.ensures in
    let end = c.read_end.ensures in
    let asked = asked_is _ _ _ _ _ _ _ _ c.number-n.ensures.is c.number-N.ensures.is values.is numbers.is
    rooms.is end.is in
    record {
      cursor = rw asked;
      n = rw asked;
      N = rw asked;
      surface_count = rw asked values.counted;
      path_count = rw asked numbers.counted;
      rooms = rw asked;
      surface_is = rw asked values.holds;
      path_is = rw asked numbers.holds;
      few_values = values.small;
      few_numbers = numbers.small;
      few_exact = rooms.small_exact;
      few_points = rooms.small_points;
      inside = end.inside;
    }
