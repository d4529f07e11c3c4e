-- `page::Paper::put_piece` meets its contract. Assumes nothing.
use Rattle.page.proofs.Forming.{piece-first, piece-second}
use Rattle.page.proofs.Paper.put_piece.Goals as goal

pub returns-then-c-lt64 : goal.returns-then-c-lt64
returns-then-c-lt64 c = let a = c.args in rw (← piece-first _ c.requires a.c a.a.now a.b.now a.n a.m c.if-c-lt64.true, ← c.from-place.ensures) c.put_marked.ensures

pub returns-else-c-lt64 : goal.returns-else-c-lt64
returns-else-c-lt64 c =
    let a = c.args in
    rw (← piece-second _ c.requires a.c a.a.now a.b.now a.n a.m c.if-c-lt64.false, ← c.from-place.ensures) c.put_marked-else-c-lt64.ensures
