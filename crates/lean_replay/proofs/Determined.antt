-- The contract of `lean_replay` fixes the code and every lent word: any two results that it allows are equal. Assumes nothing.
use mathlib.Core.List.{List}
use Prim.Native.Nat.{ℕ}
use Rattle.whole.proofs.Determined.{Determined}
use Rattle.crossing.specs.Left.{Left}
use Rattle.lean_replay.specs.Replayed.{Replayed}

pub replayed-determined : (bytes words : List ℕ) → Determined (λ (l : Left ℕ). Replayed bytes words l.code l.words)
replayed-determined bytes words = record {
  value = record { code = _; words = _ };
  only = λ l e t. record { code = e.code_is t; words = e.words_is t };
}
