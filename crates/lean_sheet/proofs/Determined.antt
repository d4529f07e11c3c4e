-- The contract of `lean_sheet` fixes every place of the four arrays: any two results that it allows are equal. Assumes nothing.
use mathlib.Core.List.{List}
use Prim.Native.Nat.{ℕ}
use lib.IntN.{ℤ}
use Rattle.whole.proofs.Determined.{Determined}
use Rattle.lean_sheet.specs.Fed.{Fed}

-- the arrays that a call leaves
pub record Left : Type 0 where
  pub held : List ℕ
  pub counts : List ℕ
  pub refusals : List ℕ
  pub span : List ℤ

pub fed-determined : (held counts refusals : List ℕ) (span : List ℤ) (part : List ℕ)
    → Determined (λ (l : Left). Fed held counts refusals span part l.held l.counts l.refusals l.span)
fed-determined held counts refusals span part = record {
  value = record { held = _; counts = _; refusals = _; span = _ };
  only = λ l f t. record { held = f.held_is t; counts = f.counts_is t; refusals = f.refusals_is t; span = f.span_is t };
}
