-- The contract of crate sheets leaves no choice. Assumes nothing.
use mathlib.Core.Path.{◌≡◌}
use mathlib.Core.List.{List}
use Prim.Native.Nat.{ℕ}
use Rattle.whole.proofs.Determined.{Determined}
use Rattle.pairs.specs.Cut.{pair_in}
use Rattle.day.specs.declared.sheets.Sheet.{Sheet}
use Rattle.day.specs.sheets.Fold.{adds}

pub pair-determined : (sheet : Sheet) (pair : List ℕ) → Determined (λ (r : Sheet). r ≡ adds sheet (pair_in pair))
pair-determined sheet pair = record { value = _; only = λ r e. e }
