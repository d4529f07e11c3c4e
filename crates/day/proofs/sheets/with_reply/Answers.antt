-- `sheets::with_reply` meets its contract. Assumes nothing.
use Rattle.day.specs.sheets.Fold.{with_reply}
use Rattle.day.proofs.sheets.with_reply.Goals as goal

pub returns-then-is_odd : goal.returns-then-is_odd
unfolding with_reply
returns-then-is_odd c = rw (← c.is_odd.ensures, c.if-is_odd.true, c.more.ensures)

pub returns : goal.returns
unfolding with_reply
returns c =
    rw (← c.is_odd.ensures, c.if-is_odd.false, c.widen_all.ensures, c.count_up.ensures, c.byte_at.ensures.0)
