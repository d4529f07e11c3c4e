-- `answer_line::long_decimal::write_size` meets its contract: the digits of the tenth, and then the last. The high word falls at each call.
-- Assumes nothing.
use Rattle.answer_line.proofs.long_decimal.Tens.{falls as falls-by, low-written, thirty-nine, inside, last_written}
use Rattle.answer_line.proofs.long_decimal.+write_size.Goals as goal

pub returns-then-high-eq0 : goal.returns-then-high-eq0
returns-then-high-eq0 t c = low-written _ _ _ _ _ _ c.if-high-eq0.true c.write_natural.ensures

pub write_size-next-requires : goal.write_size-next-requires
write_size-next-requires t c = (falls-by _ _ _ c.if-high-eq0.false c.over_ten-tenth.ensures.2 c.decreases, c.requires)

pub bounds-out-next : goal.bounds-out-next
bounds-out-next t c =
    let q = c.over_ten-tenth.ensures in
    inside c.args.high c.args.low c.over_ten-tenth.result.high c.over_ten-tenth.result.low c.over_ten-tenth.result.digit
    c.if-high-eq0.false q.0 q.1
    c.args.at c.write_size-next.result _ (thirty-nine _ _ c.ranges.high.fits c.ranges.low.fits) c.write_size-next.ensures.ends
    (rw c.write_size-next.auto.out c.requires)

pub returns : goal.returns
returns t c =
    let q = c.over_ten-tenth.ensures in
    last_written c.args.high c.args.low c.over_ten-tenth.result.high c.over_ten-tenth.result.low c.over_ten-tenth.result.digit
    c.if-high-eq0.false q.0 q.1
    _ _ _ _ (thirty-nine _ _ c.ranges.high.fits c.ranges.low.fits) c.write_size-next.ensures
