-- The page of ticket 10 (rule Old traces): what a replay of a converted trace gives. Assumes nothing.
use Rattle.std.specs.Prelude.{◌≡◌, false, List, ℕ}
use Rattle.std.proofs.Common.{ap}
use Rattle.judgement.specs.Record.{former, today}
use Rattle.pairs.specs.Cut.{longest_record}
use Rattle.fives.specs.Replay.{five, capped_five}
use Rattle.fives.specs.Lines.{five_lines}
use Rattle.door.specs.Contract.{reply_by}
use Rattle.door.specs.tally.Read.{replayed}
use Rattle.aging.specs.Convert.{former_longest, converted, refuses}
use Rattle.aging.proofs.Same.{same-five}
use Rattle.aging.proofs.Again.{again}
use Rattle.conversion.specs.Alike.{reply-alike}

-- "Replaying a converted trace must give the five lines that the old trace gave under the old rule, provided the old reading did
-- not end at a record length of 127 or 128": one definition of the five numbers, over the door's two readings and the two greatest
-- lengths of a record
pub same_numbers : (bytes : List ℕ) → refuses bytes ≡ false
    → five longest_record (reply_by today) (converted bytes) ≡ five former_longest (reply_by former) bytes
same_numbers bytes can = same-five (reply_by former) (reply_by today) (reply-alike today) bytes can

-- so are the lines that the replay program writes today of the converted trace those of the old one
pub same_lines : (bytes : List ℕ) → refuses bytes ≡ false
    → five_lines (replayed (converted bytes)) ≡ five_lines (capped_five (five former_longest (reply_by former) bytes))
unfolding replayed
same_lines bytes can = ap (λ f. five_lines (capped_five f)) (same_numbers bytes can)

-- "where a converted trace can be converted again, that changes nothing": no byte of it changes, whether it can or not
pub converted-again : (bytes : List ℕ) → converted (converted bytes) ≡ converted bytes
converted-again bytes = again bytes
