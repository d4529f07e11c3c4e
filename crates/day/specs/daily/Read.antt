-- The state of the daily sheet: crate feed's, over the sheet's fold. What a part does is defined for every state, also for one that
-- no reading makes. That its sheet is that of what it took is in proofs/Promises.antt. Assumes nothing.
use Rattle.std.specs.Prelude.{List, ℕ}
use Rattle.pairs.specs.Cut.{longest_record}
use Rattle.feed.specs.Feed.{Feed, blank, stepped, held_of, feed_in}
use Rattle.feed.specs.Parts.{fed}
use Rattle.day.specs.declared.sheets.Sheet.{Sheet}
use Rattle.day.specs.sheets.Fold.{adds, no_sheet}
use Rattle.day.specs.declared.daily.State.{State}

-- what a byte does
abbrev pub step : Feed Sheet → ℕ → Feed Sheet
step = stepped longest_record adds

-- what a state holds, and the state that holds it and nothing else
abbrev pub feed_of : State → Feed Sheet
feed_of state = feed_in state.held state.rest state.sheet

unfoldable pub state_of : Feed Sheet → State
state_of s = record { held = held_of s.kept; rest = s.rest; sheet = s.gathered }

-- the state that has taken nothing, and after a part
unfoldable pub blank_state : State
blank_state = state_of (blank no_sheet)

unfoldable pub after_part : State → List ℕ → State
after_part state part = state_of (fed step (feed_of state) part)
