-- What a salvage promises of the bytes that were read, whatever they are: the file and the lines that were written are theirs.
-- Assumes nothing.
use Rattle.std.specs.Prelude.{◌≡◌, Bool, true, false, List, [], ◌++◌, ℕ, ◌+◌, ◌≤◌, ◌<◌, length, take, drop}
use Rattle.pairs.specs.Cut.{longest_record}
use Rattle.door.specs.Contract.{reply_of}
use Rattle.torn.specs.Salvage.{salvage, saved, runs}
use Rattle.torn.specs.Lines.{capped_lines}
use Rattle.torn.specs.Window.{Stands}
use Rattle.streams.specs.declared.Stream.{Stream}
use Rattle.streams.specs.Stream.{Through, Wrote}
use Rattle.salvaging.specs.declared.saver.Place.{Place}
use Rattle.salvaging.specs.declared.State.{State}
use Rattle.salvaging.specs.declared.Turn.{Turn}
use Rattle.salvaging.specs.declared.Salvaged.{Salvaged}

-- a kept stretch and a line went out
pub record Puts (place : Place) (line kept : List ℕ) (s s' : State) : Type 0 where
  pub place_is : s'.place ≡ place
  pub file : Wrote s.out kept s'.out
  pub told : Wrote s.lines line s'.lines

-- what went out is what stands before a window, of the bytes that were read
pub record Holds (out lines : Stream) (last : Bool) (bytes window : List ℕ) (s : State) : Type 0 where
  pub file : List ℕ
  pub told : List ℕ
  pub stands : Stands longest_record reply_of last bytes file told s.place.from s.place.lost window
  pub filed : Wrote out file s.out
  pub said : Wrote lines told s.lines

-- from one state to another, so much of a window was decided and went out
pub record Settles (last : Bool) (window : List ℕ) (s : State) (taken : ℕ) (s' : State) : Type 0 where
  pub within : taken ≤ length window
  pub carried : (out lines : Stream) (bytes : List ℕ) → Holds out lines last bytes window s
      → Holds out lines last bytes (drop taken window) s'

-- nothing lies ahead in a window: at the end it is empty, and before it less than two records
pub record Rests (last : Bool) (window : List ℕ) : Type 0 where
  pub over : last ≡ true → window ≡ []
  pub small : last ≡ false → length window < longest_record + longest_record

-- and just these bytes were read
pub record Reads (input : Stream) (window : List ℕ) (s : State) (input' : Stream) (window' : List ℕ) (s' : State) : Type 0 where
  pub part : List ℕ
  pub went : Through input part input'
  pub carried : (out lines : Stream) (bytes : List ℕ) → Holds out lines false bytes window s
      → Holds out lines false (bytes ++ part) window' s'

-- what is not decided stands at the front of a buffer
pub record Fills (input : Stream) (window : List ℕ) (s : State) (turn : Turn) (buffer : List ℕ) : Type 0 where
  pub within : turn.count ≤ length buffer
  pub reads : Reads input window s turn.input (take turn.count buffer) turn.state

-- the kept pairs of the bytes that were read, and the lines, where the input ended; it did where no read and no write failed
pub record Salvages (input out lines : Stream) (r : Salvaged) : Type 0 where
  pub bytes : List ℕ
  pub went : Through input bytes r.input
  pub file : r.ended ≡ true → Wrote out (saved (salvage longest_record reply_of bytes)) r.out
  pub told : r.ended ≡ true → Wrote lines (capped_lines (runs (salvage longest_record reply_of bytes))) r.lines
  pub whole : r.input.failed ≡ false → r.out.failed ≡ false → r.lines.failed ≡ false → r.ended ≡ true
