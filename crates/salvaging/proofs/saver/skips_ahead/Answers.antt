-- `salvaging::saver::skips_ahead` meets its contract. Assumes nothing.
use mathlib.Core.Path.{◌≡◌, ◌∙◌}
use native.Mathlib.Omega.{arith}
use lib.ListN.{length}
use Rattle.salvaging.proofs.saver.Looking.{skipped-none, skipped-stop, skipped-more, skipped-all}
use Rattle.salvaging.proofs.saver.skips_ahead.Goals as goal

pub loop-i-init : goal.loop-i-init
loop-i-init c = skipped-none _ _ _ _

pub loop-i-preserved : goal.loop-i-preserved
loop-i-preserved c = skipped-more _ _ _ _ c.loop-i.invariant _ (omega arith) c.passes.ensures c.if-not-passes.false

pub returns-then-not-passes : goal.returns-then-not-passes
returns-then-not-passes c = skipped-stop _ _ _ _ c.loop-i.invariant _ (omega arith) c.passes.ensures
    c.if-not-passes.true

pub returns : goal.returns
returns c =
    let all : length c.args.window.now ≡ c.loop-i.i = omega (arith, c.loop-i.invariant.within) in
    all ∙ skipped-all _ _ _ _ c.loop-i.invariant (omega arith)
