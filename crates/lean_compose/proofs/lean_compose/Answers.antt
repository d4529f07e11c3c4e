-- `lean_compose::lean_compose` meets its contract: the composer's own, with the answer and the entries in four words. Assumes nothing.
use native.Mathlib.Omega.{arith}
use Rattle.compose.specs.Afterwards.{arrays}
use Rattle.lean_compose.specs.Exported.{request_of}
use Rattle.lean_compose.proofs.Crossed.{untouched, answered}
use Rattle.lean_compose.proofs.lean_compose.Goals as goal

pub returns-then-words-lt4 : goal.returns-then-words-lt4
returns-then-words-lt4 c = untouched _ _ _ _ (omega arith)

pub returns : goal.returns
returns c =
    let args = c.args in
    let rq = request_of args.form args.first args.second args.N args.surface.now args.path.now in
    answered rq _ (arrays args.high.now args.low.now args.points.now) _ _ _ _ _ (omega arith) c.compose-composed.ensures
    c.put_answer.ensures c.put.ensures
