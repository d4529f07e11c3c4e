-- `salvaging::saver::ahead` meets its contract: there is no room, nothing is kept, or pairs are. Assumes nothing.
use native.Mathlib.Omega.{arith}
use Rattle.pairs.specs.Cut.{longest_record}
use Rattle.door.specs.Contract.{reply_of}
use Rattle.torn.proofs.Going.{skips-within}
use Rattle.salvaging.proofs.saver.Looking.{nothing-ahead, none_kept, some-kept}
use Rattle.salvaging.proofs.saver.ahead.Goals as goal

pub returns-then-line-lt47 : goal.returns-then-line-lt47
returns-then-line-lt47 c = nothing-ahead _ _ _ _ (omega arith)

pub slice_bounds-keeps_ahead-count : goal.slice_bounds-keeps_ahead-count
slice_bounds-keeps_ahead-count c = omega (
  arith,
  c.skips_ahead-skipped.ensures,
  skips-within longest_record reply_of c.args.last c.args.window.now,
)

pub slice_bounds-keeps_ahead-start : goal.slice_bounds-keeps_ahead-start
slice_bounds-keeps_ahead-start c = omega (
  arith,
  c.skips_ahead-skipped.ensures,
  skips-within longest_record reply_of c.args.last c.args.window.now,
)

pub returns-then-kept-eq0 : goal.returns-then-kept-eq0
returns-then-kept-eq0 c = none_kept _ _ _ _ (omega arith) _ _ c.skips_ahead-skipped.ensures c.keeps_ahead-kept.ensures _ c.sum.ensures c.if-kept-eq0.true

pub returns : goal.returns
returns c = some-kept _ _ _ _ (omega arith) _ _ c.skips_ahead-skipped.ensures c.keeps_ahead-kept.ensures
    _ c.sum.ensures c.if-kept-eq0.false
    c.close-size.ensures _ (rw c.sum-2.ensures at c.sum-3.ensures)
