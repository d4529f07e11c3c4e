-- The contracts of crate fives leave no choice: each fixes its result. Assumes nothing.
use mathlib.Core.Path.{◌≡◌}
use mathlib.Core.Bool.{Bool}
use mathlib.Core.List.{List}
use Prim.Native.Nat.{ℕ}
use Rattle.whole.proofs.Determined.{Determined}
use Rattle.spell.proofs.Determined.{told-determined}
use Rattle.fives.specs.declared.Five.{Five}
use Rattle.fives.specs.declared.Tally.{Tally}
use Rattle.fives.specs.Count.{counted}
use Rattle.fives.specs.Lines.{lines_room, five_lines, Told}

pub count-determined : (tally : Tally) (alike : Bool) → Determined (λ (r : Tally). r ≡ counted tally alike)
count-determined tally alike = record { value = _; only = λ r e. e }

-- how many bytes were written, and the buffer
pub write-determined : (five : Five) (out : List ℕ) → Determined (λ (r : ℕ × List ℕ). Told five out r.0 r.1)
write-determined five out = told-determined lines_room (five_lines five) out
