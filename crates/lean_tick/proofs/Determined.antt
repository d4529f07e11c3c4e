-- The contract of `lean_tick` fixes the code and every lent word: any two results that it allows are equal. Assumes nothing.
use mathlib.Core.List.{List}
use Prim.Native.Nat.{ℕ}
use lib.IntN.{ℤ}
use Rattle.whole.proofs.Determined.{Determined}
use Rattle.crossing.specs.Left.{Left}
use Rattle.lean_tick.specs.Ticked.{Ticked}

pub ticked-determined : (points : List ℤ) (k : ℕ) (words : List ℤ) → Determined (λ (l : Left ℤ). Ticked points k words l.code l.words)
ticked-determined points k words = record {
  value = record { code = _; words = _ };
  only = λ l e t. record { code = e.code_is t; words = e.words_is t };
}
