-- `sums::steps::share` meets its contract: a share is at most 1024, so the product fits. Assumes nothing.
use mathlib.Core.Path.{ap, ◌∙◌}
use Prim.Native.Nat.{◌*◌}
use native.Mathlib.Nat.{mul-le-mul_right, lt_of_le_of_lt}
use lib.IntN.{nat_abs, ◌*ℤ◌}
use Rattle.sums.proofs.steps.share.Goals as goal

pub product-requires : goal.product-requires
product-requires c = rw c.plus.ensures (lt_of_le_of_lt (mul-le-mul_right _ c.requires.0) c.requires.1)

pub returns : goal.returns
returns c = (
  c.product.ensures.0 ∙ ap (λ n. n *ℤ c.args.a.0) c.plus.ensures,
  c.product.ensures.1 ∙ ap
      (λ n. nat_abs n * nat_abs c.args.a.0) c.plus.ensures,
)
