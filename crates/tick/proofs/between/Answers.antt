-- `tick::between` meets its contract: the shares of two carried values are small, and add up to the definition's. Assumes
-- nothing.
use mathlib.Core.Path.{◌≡◌}
use Prim.Native.Nat.{ℕ, ◌*◌, ◌≤◌}
use native.Mathlib.Omega.{arith}
use lib.IntN.{ℤ, pos, nat_abs}
use Rattle.tick.specs.Carried.{carried_most}
use Rattle.tick.proofs.Sizes.{share_most, made}
use Rattle.tick.proofs.between.Goals as goal

-- a share of 1024, of either value
shares : (x : ℕ) (w a b : ℤ) → w ≡ pos x → x ≤ 1024 → nat_abs a ≤ carried_most → nat_abs b ≤ carried_most
    → (nat_abs w * nat_abs a ≤ x * carried_most) × (nat_abs w * nat_abs b ≤ x * carried_most)
shares x w a b e m p q = (share_most x w a e m p, share_most x w b e m q)

pub product-near-requires : goal.product-near-requires
product-near-requires c =
    let near = shares _ _ c.args.a.0 c.args.b.0 c.plus.ensures (omega arith) c.requires.1 c.requires.2 in
    omega arith

pub product-far-requires : goal.product-far-requires
product-far-requires c =
    let far = shares _ _ c.args.a.0 c.args.b.0 c.plus-2.ensures c.requires.0 c.requires.1 c.requires.2 in
    omega arith

pub sum-requires : goal.sum-requires
sum-requires c =
    let near = shares _ _ c.args.a.0 c.args.b.0 c.plus.ensures (omega arith) c.requires.1 c.requires.2 in
    let far = shares _ _ c.args.a.0 c.args.b.0 c.plus-2.ensures c.requires.0 c.requires.1 c.requires.2 in
    let k = c.requires.0 in
    omega arith

pub rounded-requires : goal.rounded-requires
rounded-requires c =
    let near = shares _ _ c.args.a.0 c.args.b.0 c.plus.ensures (omega arith) c.requires.1 c.requires.2 in
    let far = shares _ _ c.args.a.0 c.args.b.0 c.plus-2.ensures c.requires.0 c.requires.1 c.requires.2 in
    let k = c.requires.0 in
    omega arith

pub returns : goal.returns
returns c =
    made
    (record {
      here = c.plus.ensures;
      there = c.plus-2.ensures;
      first = c.product-near.ensures.0;
      second = c.product-far.ensures.0;
      sum = c.sum.ensures.0;
      rounded = c.rounded.ensures;
    })
    c.requires.0
    c.requires.1
    c.requires.2
