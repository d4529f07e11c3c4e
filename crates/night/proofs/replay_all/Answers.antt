-- `night::replay_all` meets its contract: a read failed, or the lines are written. Assumes nothing.
use mathlib.Core.Path.{ap, ◌∙◌}
use lib.ListN.{length-take}
use Rattle.door.specs.tally.Read.{after_part}
use Rattle.reading.proofs.Taking.{took}
use Rattle.night.proofs.Parts.{failed, written}
use borrow.Author.Rules.{rules}
use native.Mathlib.Omega.{arith}
use Rattle.night.proofs.replay_all.Goals as goal

pub returns-then-input : goal.returns-then-input
returns-then-input c =
    let read = took _ after_part (λ s part s' t. t.met ∙ ap (after_part s) t.shows) c.read_all.ensures in
    failed _ _ _ _ _ c.new.ensures read c.finish-five.ensures _ c.if-input.true

pub slice_bounds-lines-end : goal.slice_bounds-lines-end
slice_bounds-lines-end c = omega (arith, c.write_five-n.ensures.within)

pub slice_bounds-write-end : goal.slice_bounds-write-end
slice_bounds-write-end c = simp length-take (omega (arith, c.write_five-n.ensures.within))

pub returns : goal.returns
returns c =
    let read = took _ after_part (λ s part s' t. t.met ∙ ap (after_part s) t.shows) c.read_all.ensures in
    written _ _ _ _ _ c.new.ensures
    read c.finish-five.ensures _ _ _ _ _
    c.if-input.false
    (search rules) c.write_five-n.ensures c.write.ensures
