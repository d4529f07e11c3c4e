-- `text::read_line` meets its contract: the readers one after the other. Assumes nothing.
use Rattle.text.proofs.Readers.{said-is, said-short}
use Rattle.text.proofs.read_line.Goals as goal

pub returns : goal.returns
returns c =
    let values = c.read_list-values.ensures in
    let numbers = c.read_list-numbers.ensures in
    let rooms = c.read_rooms-lent.ensures in
    let end = c.read_end.ensures in
    let said = said-is _ _ _ _ _ _ _ _ c.begin.ensures.is c.read_head-headed.ensures.is values.is
    numbers.is rooms.is c.read_age-aged.ensures.is end.is in
    record {
      cursor = rw said;
      head = rw said;
      surface_count = rw said values.counted;
      path_count = rw said numbers.counted;
      rooms = rw said;
      age = rw said;
      surface_is = rw said values.holds;
      path_is = rw said numbers.holds;
      few_values = values.small;
      few_numbers = numbers.small;
      few_exact = rooms.small_exact;
      few_points = rooms.small_points;
      inside = end.inside;
      short = said-short _ _ (rw said) end.inside;
    }
