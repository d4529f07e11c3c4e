-- The contracts of crate pairs leave no choice: each fixes its result. Assumes nothing.
use mathlib.Core.Path.{◌≡◌}
use mathlib.Core.Bool.{Bool}
use mathlib.Core.List.{List}
use Prim.Native.Nat.{ℕ}
use Rattle.whole.proofs.Determined.{Determined}
use Rattle.wire.specs.Start.{starts_record, record_in, behind}
use Rattle.pairs.specs.Cut.{pair_size}

pub record-determined : (bytes : List ℕ) → Determined (λ (r : List ℕ). r ≡ record_in bytes)
record-determined bytes = record { value = _; only = λ r e. e }

pub behind-determined : (bytes : List ℕ) → Determined (λ (r : List ℕ). r ≡ behind bytes)
behind-determined bytes = record { value = _; only = λ r e. e }

pub size-determined : (most : ℕ) (bytes : List ℕ) → Determined (λ (r : ℕ). r ≡ pair_size most bytes)
size-determined most bytes = record { value = _; only = λ r e. e }

pub starts-determined : (most : ℕ) (bytes : List ℕ) → Determined (λ (r : Bool). r ≡ starts_record most bytes)
starts-determined most bytes = record { value = _; only = λ r e. e }
