-- `day::sheet_all` meets its contract: a read failed, or the lines are written. Assumes nothing.
use mathlib.Core.Path.{refl, ap, ◌∙◌}
use native.Mathlib.Omega.{arith}
use lib.ListN.{length-take}
use Rattle.pairs.specs.Cut.{longest_record}
use Rattle.day.specs.sheets.Sheet.{sheet_in}
use Rattle.day.specs.sheet_lines.Lines.{sheet_lines, lines_room}
use Rattle.day.specs.declared.daily.State.{State}
use Rattle.day.specs.daily.Read.{blank_state, after_part}
use Rattle.day.proofs.daily.Promises.{same-sheet}
use Rattle.reading.proofs.Taking.{took, failed, written}
use borrow.Author.Rules.{rules}
use Rattle.day.proofs.sheet_all.Goals as goal

pub returns-then-input : goal.returns-then-input
returns-then-input c =
    let read = took _ after_part (λ s part s' t. t.met ∙ ap (after_part s) t.shows) c.read_all.ensures in
    failed after_part blank_state (λ (s : State). s.sheet) (sheet_in longest_record) sheet_lines same-sheet c.new.ensures
    read refl _ c.if-input.true

pub slice_bounds-lines-end : goal.slice_bounds-lines-end
slice_bounds-lines-end c = omega (arith, c.write_sheet-n.ensures.within)

pub slice_bounds-write-end : goal.slice_bounds-write-end
slice_bounds-write-end c = simp length-take (omega (arith, c.write_sheet-n.ensures.within))

pub returns : goal.returns
returns c =
    let read = took _ after_part (λ s part s' t. t.met ∙ ap (after_part s) t.shows) c.read_all.ensures in
    written after_part blank_state (λ (s : State). s.sheet) (sheet_in longest_record) sheet_lines same-sheet c.new.ensures
    read refl lines_room _ _
    _ _ _ c.if-input.false (search rules) c.write_sheet-n.ensures c.write.ensures
