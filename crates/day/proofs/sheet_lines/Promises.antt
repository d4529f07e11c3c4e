-- The contract of room sheet_lines leaves no choice. Assumes nothing.
use mathlib.Core.List.{List}
use Prim.Native.Nat.{ℕ}
use Rattle.whole.proofs.Determined.{Determined}
use Rattle.spell.proofs.Determined.{told-determined}
use Rattle.day.specs.declared.sheets.Sheet.{Sheet}
use Rattle.day.specs.sheet_lines.Lines.{sheet_lines, lines_room, Told}

-- how many bytes were written, and the buffer
pub write-determined : (sheet : Sheet) (out : List ℕ) → Determined (λ (r : ℕ × List ℕ). Told sheet out r.0 r.1)
write-determined sheet out = told-determined lines_room (sheet_lines sheet) out
