-- `lean_patch::lean_patch` meets its contract: that of `patch`, with the answer in three words. Assumes nothing.
use native.Mathlib.Omega.{arith}
use Rattle.patch_net.specs.Patch.{patch_of}
use Rattle.lean_patch.proofs.Crossed.{untouched, answered}
use Rattle.lean_patch.proofs.lean_patch.Goals as goal

pub returns-then-words-lt3 : goal.returns-then-words-lt3
returns-then-words-lt3 c = untouched _ _ _ _ (omega arith)

pub returns : goal.returns
returns c =
    let args = c.args in
    answered (patch_of args.n args.N args.surface.now args.path.now) args.exact.now args.points.now _ _ _ _ _ (omega arith)
    c.patch-answer.ensures c.put_answer.ensures
