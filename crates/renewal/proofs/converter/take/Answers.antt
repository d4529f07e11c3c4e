-- `renewal::converter::take` meets its contract. Assumes nothing.
use native.Mathlib.Omega.{arith}
use Rattle.renewal.proofs.converter.Turning.{none-taken, some-taken}
use Rattle.renewal.proofs.converter.take.Goals as goal

pub returns-then-out-lt-ROOM : goal.returns-then-out-lt-ROOM
returns-then-out-lt-ROOM c = none-taken c.args.converter c.args.part.now c.args.out.now (omega arith) c.settled.ensures

pub returns : goal.returns
returns c = some-taken c.args.converter c.args.part.now c.args.out.now (omega arith) c.min.ensures c.fill.ensures
