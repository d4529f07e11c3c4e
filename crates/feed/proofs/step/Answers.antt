-- `feed::step` meets its contract. Assumes nothing.
use Rattle.feed.proofs.Holding.{byte-whole, byte-on}
use Rattle.feed.proofs.step.Goals as goal

pub returns-then-turn : goal.returns-then-turn
returns-then-turn c = byte-whole c.put-turn.ensures c.if-turn.true

pub returns : goal.returns
returns c = byte-on c.put-turn.ensures c.if-turn.false
