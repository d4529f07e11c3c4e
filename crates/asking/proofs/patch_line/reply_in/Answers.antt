-- `crate::patch_line::reply_in` meets its contract: the answer to the patch, in the places that are shown. Assumes nothing.
-- where the patch was answered
use mathlib.Core.Path.{sym, subst}
use lib.ListN.{length-take}
use lib.Seq.{length-take-le}
use native.Mathlib.Omega.{arith}
use Rattle.text.specs.kinds.Read.{answer_most}
use Rattle.spell.specs.Decimal.{Written}
use Rattle.asking.proofs.patch_line.Behind.{replied}
use borrow.Author.Rules.{rules}
use Rattle.asking.proofs.patch_line.reply_in.Goals as goal

pub slice_bounds-write_patch-end-2 : goal.slice_bounds-write_patch-end-2
slice_bounds-write_patch-end-2 c = sym (length-take-le _ _ (search rules))

pub slice_bounds-write_patch-end-4 : goal.slice_bounds-write_patch-end-4
slice_bounds-write_patch-end-4 c = sym (length-take-le _ _ (search rules))

pub write_patch-requires : goal.write_patch-requires
write_patch-requires c =
    let p = c.requires in
    (simp length-take (omega arith), simp length-take (omega arith), p.2)

pub returns : goal.returns
returns c =
    subst (λ bytes. Written answer_most c.args.out.now 0 bytes c.write_patch.new.out c.write_patch.result)
    (replied _ _ c.args.exact.now c.args.points.now _ _ c.patch-answer.result c.shown-c.result
    c.shown-d.result c.patch-answer.ensures c.patch-answer.auto.exact c.patch-answer.auto.points
    c.shown-c.ensures.0 c.shown-d.ensures.0)
    c.write_patch.ensures
