-- `answer_line::long_decimal::over_ten` meets its contract: two digits of base 2^32, each with what the one before it leaves. Assumes nothing.
use Rattle.answer_line.proofs.long_decimal.Tens.{upper_fits}
use Rattle.answer_line.proofs.long_decimal.over_ten.Goals as goal

pub overflow_add-upper : goal.overflow_add-upper
overflow_add-upper c = record { fits = upper_fits _ _ c.ranges.low.fits }
