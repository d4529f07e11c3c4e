-- `feed::ahead` meets its contract. Assumes nothing.
use mathlib.Core.Path.{◌∙◌}
use native.Mathlib.Omega.{arith}
use Rattle.feed.proofs.Holding.{ahead-begun, ahead-long, ahead-first}
use Rattle.feed.proofs.ahead.Goals as goal

pub returns-then-rest-ne0 : goal.returns-then-rest-ne0
returns-then-rest-ne0 c = ahead-begun _ _ _ c.if-rest-ne0.true

pub returns-then-n-gt-HELD : goal.returns-then-n-gt-HELD
returns-then-n-gt-HELD c = ahead-long _ _ _ c.if-rest-ne0.false (omega arith)

pub returns : goal.returns
returns c = c.pair_size-n.ensures ∙ ahead-first _ _ _ c.if-rest-ne0.false (omega arith)
