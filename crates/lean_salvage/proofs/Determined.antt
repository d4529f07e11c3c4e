-- The contract of `lean_salvage` fixes the code, every lent word and every byte of the line. Assumes nothing.
use mathlib.Core.List.{List}
use Prim.Native.Nat.{ℕ}
use Rattle.whole.proofs.Determined.{Determined}
use Rattle.lean_salvage.specs.Salvaged.{Salvaged}

pub record Left : Type 0 where
  pub code : ℕ
  pub words : List ℕ
  pub line : List ℕ

pub salvaged-determined : (window : List ℕ) (last : ℕ) (words line : List ℕ)
    → Determined (λ (l : Left). Salvaged window last words line l.code l.words l.line)
salvaged-determined window last words line = record {
  value = record { code = _; words = _; line = _ };
  only = λ l e t. record { code = e.code_is t; words = e.words_is t; line = e.line_is t };
}
