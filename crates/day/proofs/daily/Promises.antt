-- What the contracts promise: each leaves no choice; parts one after the other make the state that the uncut trace makes; and its
-- sheet is that of the whole trace. Assumes nothing.
use mathlib.Core.Path.{◌≡◌, ap, ◌∙◌}
use mathlib.Core.List.{List}
use Prim.Native.Nat.{ℕ}
use Rattle.whole.proofs.Determined.{Determined}
use Rattle.pairs.specs.Cut.{longest_record}
use Rattle.feed.specs.Parts.{uncut, after_all}
use Rattle.day.specs.declared.sheets.Sheet.{Sheet}
use Rattle.day.specs.sheets.Sheet.{sheet_in}
use Rattle.day.specs.declared.daily.State.{State}
use Rattle.day.specs.daily.Read.{blank_state, after_part}
use Rattle.day.proofs.daily.Reading.{sheet-of-all, state-of-parts}

-- ---- the contracts fix their results

pub new-determined : Determined (λ (r : State). r ≡ blank_state)
new-determined = record { value = _; only = λ r e. e }

pub take-determined : (state : State) (part : List ℕ) → Determined (λ (r : State). r ≡ after_part state part)
take-determined state part = record { value = _; only = λ r e. e }

pub sheet-determined : (bytes : List ℕ) → Determined (λ (r : Sheet). r ≡ sheet_in longest_record bytes)
sheet-determined bytes = record { value = _; only = λ r e. e }

-- ---- parts and the whole

-- "after the last, state and sheet are those of the uncut trace", however it was cut, "some parts without a byte"
pub same-state : (parts : List (List ℕ)) → after_all after_part blank_state parts ≡ after_part blank_state (uncut parts)
same-state parts = state-of-parts parts

pub same-sheet : (parts : List (List ℕ)) → (after_all after_part blank_state parts).sheet ≡ sheet_in longest_record (uncut parts)
same-sheet parts = ap (λ (s : State). s.sheet) (state-of-parts parts) ∙ sheet-of-all (uncut parts)
