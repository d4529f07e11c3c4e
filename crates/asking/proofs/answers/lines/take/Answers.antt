-- `asking::answers::lines::take` meets its contract: a line has ended, or not. Assumes nothing.
use mathlib.Core.Path.{sym}
use lib.Seq.{length-take-le}
use native.Mathlib.Omega.{arith}
use borrow.Author.Tests.{not-true, not-false}
use Rattle.asking.proofs.answers.Parts.{takes-more, takes-line}
use Rattle.asking.proofs.answers.lines.take.Goals as goal

pub returns-then-not-piece : goal.returns-then-not-piece
returns-then-not-piece c =
    let cut = c.cut-piece in
    takes-more _ _ _ _ _ _ _ cut.result cut.ensures (not-true _ c.if-not-piece.true)

pub slice_bounds-answer-end : goal.slice_bounds-answer-end
slice_bounds-answer-end c =
    let cut = c.cut-piece in
    omega (arith, cut.ensures.fits, cut.auto.line)

pub slice_bounds-answer-end-2 : goal.slice_bounds-answer-end-2
slice_bounds-answer-end-2 c =
    let cut = c.cut-piece in
    sym (length-take-le _ _ (omega (arith, cut.ensures.fits, cut.auto.line)))

pub returns : goal.returns
returns c =
    let cut = c.cut-piece in
    takes-line _ _ _ _ _ _ _ cut.result cut.ensures (not-false _ c.if-not-piece.false) _ _ _ _ _ c.behind.ensures
    c.answer-said.ensures
