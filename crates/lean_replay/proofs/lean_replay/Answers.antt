-- `lean_replay::lean_replay` meets its contract: the replay's own numbers, in five words. Assumes nothing.
use native.Mathlib.Omega.{arith}
use Rattle.lean_replay.proofs.Crossed.{no_room, wrote}
use Rattle.lean_replay.proofs.lean_replay.Goals as goal

pub returns-then-words-lt5 : goal.returns-then-words-lt5
returns-then-words-lt5 c = no_room _ _ (omega arith)

pub returns : goal.returns
returns c =
    wrote _ _ _ _ _ _ _ _ (omega arith) c.replay-five.ensures c.put.ensures c.put-2.ensures
    c.put-3.ensures c.put-4.ensures c.put-5.ensures
