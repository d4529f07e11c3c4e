-- `crate::reply::reply_in` meets its contract: the composer's answer, in the places that are shown. Assumes nothing.
-- where the composer has answered
use mathlib.Core.Path.{sym, ◌∙◌, subst}
use lib.ListN.{length-take}
use lib.Seq.{length-take-le}
use native.Mathlib.Omega.{arith}
use Rattle.spell.specs.Decimal.{Written}
use Rattle.compose.specs.Afterwards.{arrays}
use Rattle.asking.proofs.reply.Replied.{replied}
use borrow.Author.Rules.{rules}
use Rattle.asking.proofs.reply.reply_in.Goals as goal

pub slice_bounds-write_answer-end-2 : goal.slice_bounds-write_answer-end-2
slice_bounds-write_answer-end-2 c = sym (length-take-le _ _ (search rules))

pub slice_bounds-write_answer-end-4 : goal.slice_bounds-write_answer-end-4
slice_bounds-write_answer-end-4 c = sym (length-take-le _ _ (search rules))

pub slice_bounds-write_answer-end-6 : goal.slice_bounds-write_answer-end-6
slice_bounds-write_answer-end-6 c = sym (length-take-le _ _ (search rules))

pub write_answer-requires : goal.write_answer-requires
write_answer-requires c =
    let p = c.requires in
    let alike = c.compose-composed.auto.low ∙ p.0.alike ∙ sym c.compose-composed.auto.high in
    (record { alike = simp length-take (omega arith); few = simp length-take (omega arith); few_points = simp length-take (omega arith) }, p.1)

pub returns : goal.returns
returns c =
    subst (λ bytes. Written 4096 c.args.out.now 0 bytes c.write_answer.new.out
    c.write_answer.result)
    (replied _ _ _ (arrays c.args.high.now c.args.low.now c.args.points.now) _ c.compose-composed.result
    c.shown-c.result c.shown-d.result
    c.compose-composed.ensures c.compose-composed.auto.high c.compose-composed.auto.points
    c.shown-c.ensures.0 c.shown-d.ensures.0)
    c.write_answer.ensures
