-- `wire::word_at` meets its contract: the low byte first. Assumes nothing.
use native.Mathlib.Omega.{arith}
use Rattle.wire.specs.Words.{word_at}
use Rattle.wire.proofs.Words.{next_byte}
use Rattle.wire.proofs.word_at.Goals as goal

pub returns : goal.returns
unfolding word_at
returns c =
    let next = next_byte c.args.bytes.now c.args.k _ (omega arith) c.saturating_add.ensures in
    (omega (arith, c.byte_at.ensures, c.byte_at-2.ensures), omega (arith, c.byte_at.ensures, c.byte_at-2.ensures))
