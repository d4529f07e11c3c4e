-- The contract of `lean_convert` fixes every place of the three arrays: any two results that it allows are equal. (That of
-- `lean_convert_end` does by room converter's `told-determined`.) Assumes nothing.
use mathlib.Core.List.{List}
use Prim.Native.Nat.{ℕ}
use Rattle.whole.proofs.Determined.{Determined}
use Rattle.lean_convert.specs.Converts.{Converts}

-- the arrays that a call leaves
pub record Left : Type 0 where
  pub held : List ℕ
  pub words : List ℕ
  pub out : List ℕ

pub converts-determined : (held words part out : List ℕ)
    → Determined (λ (l : Left). Converts held words part out l.held l.words l.out)
converts-determined held words part out = record {
  value = record { held = _; words = _; out = _ };
  only = λ l c t. record { held = c.held_is t; words = c.words_is t; out = c.out_is t };
}
