-- Laws of the state: it is the fold of the pairs of all that it took, and its sheet is that of the whole. Assumes nothing.
use mathlib.Core.Path.{◌≡◌, ap, ◌∙◌}
use mathlib.Core.List.{List}
use Prim.Native.Nat.{ℕ}
use native.Mathlib.Omega.{arith}
use Rattle.pairs.specs.Cut.{longest_record, cut}
use Rattle.feed.specs.Feed.{Feed, feed_of as fed_of}
use Rattle.feed.specs.Parts.{uncut, after_all}
use Rattle.feed.proofs.Reading.{Proper, held-again}
use Rattle.feed.proofs.Taking.{Holds}
use Rattle.feed.proofs.Readers.{at_once, in_parts}
use Rattle.day.specs.declared.sheets.Sheet.{Sheet}
use Rattle.day.specs.sheets.Sheet.{sheet_in}
use Rattle.day.specs.sheets.Fold.{adds, no_sheet}
use Rattle.day.proofs.sheets.Adding.{folded-sheet}
use Rattle.day.specs.declared.daily.State.{State}
use Rattle.day.specs.daily.Read.{feed_of, state_of, blank_state, after_part}

-- a state that has what a feed holds, and nothing else
pub state-is : (held : List ℕ) (rest : ℕ) (sheet : Sheet) (s : Feed Sheet) → Holds s held rest sheet
    → record { held = held; rest = rest; sheet = sheet } ≡ state_of s
unfolding state_of
state-is held rest sheet s h = rw (h.held_is, h.rest_is, h.gathered_is)

-- what a state holds that holds nothing else
holds-again : (s : Feed Sheet) → Proper s → feed_of (state_of s) ≡ s
unfolding state_of
holds-again s e = held-again s e

-- the sheet of what was taken at once
sheet-is : (bytes : List ℕ) → (state_of (fed_of longest_record adds no_sheet bytes)).sheet ≡ sheet_in longest_record bytes
unfolding state_of fed_of sheet_in
sheet-is bytes = folded-sheet (cut longest_record bytes).pairs

pub sheet-of-all : (bytes : List ℕ) → (after_part blank_state bytes).sheet ≡ sheet_in longest_record bytes
unfolding after_part blank_state
sheet-of-all bytes =
    ap (λ (s : State). s.sheet) (at_once longest_record adds no_sheet feed_of state_of holds-again (omega arith) bytes) ∙ sheet-is bytes

-- parts one after the other
pub state-of-parts : (parts : List (List ℕ)) → after_all after_part blank_state parts ≡ after_part blank_state (uncut parts)
unfolding after_part blank_state
state-of-parts parts = in_parts longest_record adds no_sheet feed_of state_of holds-again parts
