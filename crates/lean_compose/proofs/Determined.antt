-- The contract of `lean_compose` fixes the code and every place of every lent array: any two results that it allows are equal.
-- Assumes nothing.
use mathlib.Core.List.{List}
use Prim.Native.Nat.{ℕ}
use Rattle.whole.proofs.Determined.{Determined}
use Rattle.request.specs.Request.{Request}
use Rattle.compose.specs.Afterwards.{Arrays, arrays}
use Rattle.lean_compose.specs.Exported.{Exported}

-- what a call leaves: its code, the three arrays and the words
pub record Left : Type 0 where
  pub code : ℕ
  pub left : Arrays
  pub words : List ℕ

pub composed-determined : (rq : Request) (age : ℕ) (lent : Arrays) (words : List ℕ)
    → Determined (λ (l : Left). Exported rq age lent words l.code l.left l.words)
composed-determined rq age lent words = record {
  value = record { code = _; left = arrays _ _ _; words = _ };
  only = λ l e t. record { code = e.code_is t; left = arrays (e.high_is t) (e.low_is t) (e.points_is t); words = e.words_is t };
}
