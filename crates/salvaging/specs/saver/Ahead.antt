-- What lies ahead in a window of a torn trace, as the library answers it with today's door. Assumes nothing.
use Rattle.std.specs.Prelude.{◌≡◌, Bool, cond, List, [], ℕ, ◌≤◌, ltb, length, drop, Option, Some, None}
use Rattle.std.proofs.lemmas.List.Edits.{sets}
use Rattle.pairs.specs.Cut.{longest_record, pair_size}
use Rattle.door.specs.Contract.{reply_of}
use Rattle.torn.specs.Salvage.{good}
use Rattle.torn.specs.Window.{skips_ahead, keeps_ahead, closed_line, line_after, from_after, lost_after}
use Rattle.salvaging.specs.declared.saver.Place.{Place}
use Rattle.salvaging.specs.declared.saver.Stretch.{Stretch}

-- with the greatest numbers of 64 bits a line is as many bytes
abbrev pub line_room : ℕ
line_room = 47

-- how many bytes the pair is that is kept here, if one is
unfoldable pub kept_size : ℕ → (List ℕ → List ℕ) → List ℕ → Option ℕ
kept_size most door bytes = cond (good most door bytes) (Some (pair_size most bytes)) None

-- the line of a run that is over, at the front of a lent slice: "nothing is written and 0 is answered" where there is no room for one
unfoldable pub closing : Place → List ℕ → List ℕ
closing place line = cond (ltb (length line) line_room) [] (closed_line place.from place.lost)

pub record Closes (place : Place) (line : List ℕ) (count : ℕ) (line' : List ℕ) : Type 0 where
  pub counted : count ≡ length (closing place line)
  pub written : line' ≡ sets line 0 (closing place line)
  pub within : count ≤ length line'

-- what is left behind what lies ahead: the stretch, and the lent slice
pub record Left : Type 0 where
  pub stretch : Stretch
  pub line : List ℕ

unfoldable pub stretch_of : Bool → List ℕ → Place → List ℕ → Left
stretch_of last window place line =
    let s = skips_ahead longest_record reply_of last window in
    let k = keeps_ahead longest_record reply_of (drop s window) in
    let told = line_after place.from place.lost s k in
    cond (ltb (length line) line_room)
    (record { stretch = record { skipped = 0; kept = 0; line = 0; place = place }; line = line })
    (record {
      stretch = record {
        skipped = s;
        kept = k;
        line = length told;
        place = record { from = from_after place.from place.lost s k; lost = lost_after place.lost s k };
      };
      line = sets line 0 told;
    })

pub record Leaves (is : Left) (line' : List ℕ) (r : Stretch) : Type 0 where
  pub stretch_is : r ≡ is.stretch
  pub line_is : line' ≡ is.line
  pub within : r.line ≤ length line'
