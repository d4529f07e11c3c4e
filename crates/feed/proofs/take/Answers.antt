-- `feed::take` meets its contract: pairs were added, and what is left feeds on. Assumes nothing.
use mathlib.Core.Path.{refl}
use native.Mathlib.Omega.{arith}
use lib.ListN.{length-take, length-drop}
use borrow.Author.Rules.{rules}
use Rattle.feed.proofs.Taking.{going-begun, takes_some, going-none, going-pair, going-over}
use Rattle.feed.proofs.Reading.{handed-long}
use Rattle.feed.proofs.take.Goals as goal
use Rattle.feed.proofs.take.Goals.{then-turn-ne0, else-turn-ne0}

pub loop-left-init : goal.loop-left-init
loop-left-init g c = going-begun _ _ _ _ _

pub shared_ref_as_front-add : goal.shared_ref_as_front-add
shared_ref_as_front-add g c = omega (arith, (handed-long _ (search rules) c.next-turn.ensures).1)

pub slice_bounds-left-count : goal.slice_bounds-left-count
slice_bounds-left-count g c = (takes_some _ _ _ _ _ c.loop-left.invariant (search rules) c.next-turn.ensures).1

pub slice_bounds-left-start : goal.slice_bounds-left-start
slice_bounds-left-start g c = (takes_some _ _ _ _ _ c.loop-left.invariant (search rules) c.next-turn.ensures).1

pub loop-left-smaller : goal.loop-left-smaller
loop-left-smaller g c =
    let some = takes_some _ _ _ _ _ c.loop-left.invariant (search rules) c.next-turn.ensures in
    simp (length-take, length-drop) (omega (arith, some.0, some.1))

pub loop-left-preserved : goal.loop-left-preserved
loop-left-preserved g c =
    let going = c.loop-left.invariant in
    elim c.if-turn-ne0.branch [
      | then-turn-ne0 w ↦
          rw w.state-is
          (going-pair _ _ _ _ _ going (search rules) c.next-turn.ensures w.if-turn-ne0.true
          (record { shown = _; shows = refl; met = w.add-state.ensures }))
      | else-turn-ne0 w ↦ rw w.state-is (going-none _ _ _ _ _ going (search rules) c.next-turn.ensures w.if-turn-ne0.false)
    ]

pub returns : goal.returns
returns g c = going-over _ _ _ _ _ c.loop-left.invariant (search rules) _ c.settle.ensures
