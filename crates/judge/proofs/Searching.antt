-- A search that passes places in their order finds the least one at fault. Assumes nothing.
use mathlib.Core.Path.{◌≡◌}
use mathlib.Core.Bool.{Bool, true, false}
use Prim.Native.Nat.{ℕ, ◌≤◌, ◌<◌, zero-le}
use native.Mathlib.Omega.{arith}
use Rattle.std.specs.Prelude.{Option, None, Some, MatchOption}
use Rattle.request.specs.Refusal.{least}
use Rattle.request.proofs.Least.{least-none, found}
use Rattle.judge.specs.Places.{Finds}

pub finds : (n : ℕ) (bad : ℕ → Bool) (r : Option ℕ)
    → MatchOption r ((k : ℕ) → 0 ≤ k → k < n → bad k ≡ false) (λ i. (0 ≤ i) × (i < n) × (bad i ≡ true) × ((k : ℕ) → 0 ≤ k → k < i → bad k ≡ false))
    → Finds n (least n bad) r
finds n bad None d = least-none n bad (λ k l. d k zero-le l)
finds n bad (Some i) d = (found (record { inside = omega (arith, d.1); none = λ k l. d.3 k zero-le l }) d.1 d.2, d.1)
