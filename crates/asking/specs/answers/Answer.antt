-- The answer to a line of any kind, as bytes; and what is told of a line that cannot be read. Assumes nothing.
use Rattle.std.specs.Prelude.{cond, List, [], ℕ, is_some}
use Rattle.text.specs.pieces.Kept.{is_passed}
use Rattle.text.specs.kinds.Kinds.{is_kind, opened, Spoken}
use Rattle.asking.specs.tick_line.Line as ticks
use Rattle.asking.specs.patch_line.Line as patches
use Rattle.text.specs.tell.Tell.{unreadable, complaint}
use Rattle.asking.specs.reply.Reply as rides

-- what a line says, by its first word: `tick`, `patch`, or else it is a ride
unfoldable pub spoken_of : List ℕ → Spoken
spoken_of line =
    cond (is_kind line (opened line) ticks.tick_word) (ticks.spoken line (opened line))
    (cond (is_kind line (opened line) patches.patch_word) (patches.spoken line (opened line)) (rides.spoken line))

-- what is answered to a line: nothing where it is passed over
unfoldable pub answer_of : List ℕ → List ℕ
answer_of line = cond (is_passed line) [] (cond (is_some (spoken_of line).cursor.wrong) unreadable (spoken_of line).answer)

-- what is told of a line by its number: nothing where it is passed over, or can be read
unfoldable pub complaint_of : ℕ → List ℕ → List ℕ
complaint_of row line =
    cond (is_passed line) [] (cond (is_some (spoken_of line).cursor.wrong) (complaint row line (spoken_of line).cursor) [])
