-- The contract of `lean_patch` fixes the code and every place of every lent array: any two results that it allows are equal. Assumes
-- nothing.
use mathlib.Core.List.{List}
use Prim.Native.Nat.{ℕ}
use lib.IntN.{ℤ}
use Rattle.whole.proofs.Determined.{Determined}
use Rattle.patch_net.specs.Patch.{Patch}
use Rattle.lean_patch.specs.Crossing.{Crosses}

-- what a call leaves: its code, both arrays and the words
pub record Left : Type 0 where
  pub code : ℕ
  pub exact : List ℤ
  pub points : List ℤ
  pub words : List ℕ

pub patched-determined : (p : Patch) (exact points : List ℤ) (words : List ℕ)
    → Determined (λ (l : Left). Crosses p exact points words l.code l.exact l.points l.words)
patched-determined p exact points words = record {
  value = record { code = _; exact = _; points = _; words = _ };
  only = λ l e t. record { code = e.code_is t; exact = e.exact_is t; points = e.points_is t; words = e.words_is t };
}
