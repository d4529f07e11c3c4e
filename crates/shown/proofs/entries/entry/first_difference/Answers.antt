-- `entries::entry::first_difference` meets its contract. Assumes nothing.
use mathlib.Core.Path.{◌≡◌}
use native.Mathlib.Omega.{arith}
use Rattle.shown.proofs.entries.Telling.{alike-none, alike-more, differ-here, ended}
use Rattle.shown.proofs.entries.entry.first_difference.Goals as goal

pub loop-i-init : goal.loop-i-init
loop-i-init c = alike-none _ _

pub returns-then-a-i : goal.returns-then-a-i
returns-then-a-i c = differ-here _ _ _ c.loop-i.invariant (omega arith) (omega arith) c.if-a-i.true

pub loop-i-preserved : goal.loop-i-preserved
loop-i-preserved c = alike-more _ _ _ c.loop-i.invariant (omega arith) (omega arith) c.if-a-i.false

pub returns : goal.returns
returns c = let all : c.loop-i.i ≡ c.min-both.result = omega arith in rw (← all) (ended _ _ _ c.loop-i.invariant (omega arith))
