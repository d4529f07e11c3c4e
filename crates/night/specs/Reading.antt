-- What the reading of a night promises of the bytes that were read, whatever they are: its numbers and lines are those of all of
-- them. Assumes nothing.
use Rattle.std.specs.Prelude.{◌≡◌, true, false, List, ℕ}
use Rattle.door.specs.tally.Read.{replayed}
use Rattle.fives.specs.Lines.{five_lines}
use Rattle.streams.specs.declared.Stream.{Stream}
use Rattle.streams.specs.Stream.{Through, Wrote}
use Rattle.night.specs.declared.Replayed.{Replayed}

-- the numbers of the bytes that were read, and their lines; where a read failed nothing was written
pub record Replays (input out : Stream) (r : Replayed) : Type 0 where
  pub bytes : List ℕ
  pub went : Through input bytes r.input
  pub numbers : r.five ≡ replayed bytes
  pub lines : r.input.failed ≡ false → Wrote out (five_lines (replayed bytes)) r.out
  pub none : r.input.failed ≡ true → r.out ≡ out
