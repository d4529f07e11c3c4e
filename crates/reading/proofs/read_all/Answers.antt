-- `reading::read_all` meets its contract: the parts so far were read, and taken. Assumes nothing.
use Rattle.std.proofs.Common.{refl, of_calls}
use Rattle.reading.proofs.Taking.{reads_none, reads_more}
use Rattle.reading.proofs.read_all.Goals as goal
use Rattle.reading.proofs.read_all.Goals.{else-loop-test, then-loop-test+then-got-eq0}

pub loop-init : goal.loop-init
loop-init g c = (λ always. always, reads_none _ _ _)

pub loop-preserved : goal.loop-preserved
loop-preserved g c = (
  λ always. search of_calls,
  reads_more _ c.loop.invariant.1 c.read-got.ensures.1 (record { shown = _; shows = refl; met = c.take-state.ensures }),
)

pub returns : goal.returns
returns g c =
    elim c.loop-test.branch [
      | else-loop-test w ↦ rw (w.input-is, w.state-is) c.loop.invariant.1
      | then-loop-test+then-got-eq0 w ↦
          rw (w.input-is, w.state-is)
          (reads_more _ c.loop.invariant.1 w.read-got.ensures.1 (record { shown = _; shows = refl; met = w.take-state.ensures }))
    ]
