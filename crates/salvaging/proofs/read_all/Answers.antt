-- `salvaging::read_all` meets its contract: the parts so far were read. Assumes nothing.
use native.Mathlib.Omega.{arith}
use Rattle.salvaging.proofs.Streaming.{reads_none, reads_more}
use Rattle.salvaging.proofs.read_all.Goals as goal

pub loop-init : goal.loop-init
loop-init c = record { within = omega arith; reads = reads_none _ _ _ }

pub returns-then-is_over : goal.returns-then-is_over
returns-then-is_over c = record {
  within = c.read_more-turn.ensures.within;
  reads = reads_more c.loop.invariant.reads c.read_more-turn.ensures.reads;
}

pub loop-preserved : goal.loop-preserved
loop-preserved c = record {
  within = c.read_more-turn.ensures.within;
  reads = reads_more c.loop.invariant.reads c.read_more-turn.ensures.reads;
}
