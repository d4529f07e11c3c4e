-- The contracts of room saver leave no choice: each fixes its result. Assumes nothing.
use mathlib.Core.Bool.{Bool}
use mathlib.Core.List.{List}
use Prim.Native.Nat.{ℕ}
use Rattle.whole.proofs.Determined.{Determined}
use Rattle.salvaging.specs.declared.saver.Place.{Place}
use Rattle.salvaging.specs.saver.Ahead.{Closes, Left, stretch_of, Leaves}

-- how many bytes the line is, and the lent slice
pub record Closed : Type 0 where
  pub count : ℕ
  pub line : List ℕ

pub close-determined : (place : Place) (line : List ℕ) → Determined (λ (r : Closed). Closes place line r.count r.line)
close-determined place line = record {
  value = record { count = _; line = _ };
  only = λ r c t. record { count = c.counted t; line = c.written t };
}

pub ahead-determined : (last : Bool) (window : List ℕ) (place : Place) (line : List ℕ)
    → Determined (λ (l : Left). Leaves (stretch_of last window place line) l.line l.stretch)
ahead-determined last window place line = record {
  value = stretch_of last window place line;
  only = λ l e t. record { stretch = e.stretch_is t; line = e.line_is t };
}
