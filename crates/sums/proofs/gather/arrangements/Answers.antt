-- `sums::gather::arrangements` meets its contract: the rows of Pascal's triangle up to the fourth, by where a number stands.
-- Assumes nothing.
use mathlib.Core.Path.{◌≡◌, sym, ◌∙◌}
use native.Mathlib.Omega.{arith}
use Rattle.whole.specs.Choose.{choose}
use Rattle.whole.proofs.Binomial.{choose-zero, choose-self, choose-sym}
use Rattle.sums.proofs.gather.Gathering.{choose_one}
use Rattle.sums.proofs.gather.arrangements.Goals as goal
use Rattle.sums.proofs.gather.arrangements.Goals.{then-left-eq0-via-then-left-eq0, then-left-eq0-via-else-left-eq0+then-left-begun, then-left-eq1-via-then-left-eq1, then-left-eq1-via-else-left-eq1+then-left-begun-2}

pub returns-then-left-eq0 : goal.returns-then-left-eq0
returns-then-left-eq0 c =
    elim c.then-left-eq0.branch [
      | then-left-eq0-via-then-left-eq0 w ↦ (rw w.if-left-eq0.true (sym (choose-zero _)), omega arith)
      | then-left-eq0-via-else-left-eq0+then-left-begun w ↦ (rw w.if-left-begun.true (sym (choose-self _)), omega arith)
    ]

pub returns-then-left-eq1 : goal.returns-then-left-eq1
returns-then-left-eq1 c =
    elim c.then-left-eq1.branch [
      | then-left-eq1-via-then-left-eq1 w ↦ (rw w.if-left-eq1.true (sym (choose_one c.args.begun)), let p = c.requires.0 in omega arith)
      | then-left-eq1-via-else-left-eq1+then-left-begun-2 w ↦
          (sym (choose-sym c.args.begun c.args.left 1 (omega arith) ∙ choose_one c.args.begun), let p = c.requires.0 in omega arith)
    ]

pub returns : goal.returns
unfolding choose
returns c =
    let b : c.args.begun ≡ 4 = let p = c.requires in omega arith in
    let l : c.args.left ≡ 2 = let p = c.requires in omega arith in
    (rw (b, l), omega arith)
