-- `card::blossom` meets its contract, by the arguments that are left. Assumes nothing.
use Prim.Native.Nat.{ℕ, suc, ◌-◌}
use mathlib.Core.Path.{◌≡◌}
use native.Mathlib.Omega.{arith}
use Rattle.card.proofs.Steps.{none_left, one-taken}
use Rattle.card.proofs.+blossom.Goals as goal

one_fewer : (n : ℕ) → (n ≡ 0 → ⊥) → n ≡ suc (n - 1)
one_fewer n some = omega arith

pub returns-then-left-eq0 : goal.returns-then-left-eq0
returns-then-left-eq0 t c = rw c.if-left-eq0.true none_left

pub returns : goal.returns
returns t c = one-taken (one_fewer _ c.if-left-eq0.false) c.argument.ensures c.lower-next.ensures c.blossom.ensures
