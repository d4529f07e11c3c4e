-- `limbs::settle` meets its contract: both parts of the value are weighed into their limbs, and neither part is large. Assumes nothing.
use mathlib.Core.Path.{◌≡◌}
use Prim.Native.Nat.{◌+◌, ◌*◌, ◌^◌, ◌≤◌}
use native.Mathlib.Omega.{arith}
use lib.IntN.{pos, neg_ℤ, nat_abs, ◌+ℤ◌, ◌*ℤ◌}
use lib.ListN.{length-set}
use lib.Signed.{shr_z}
use Rattle.whole.proofs.Bits.{again-is}
use Rattle.limbs.proofs.Shifting.{shifted_down}
use Rattle.limbs.proofs.Gaining.{split, split-high, split-low, limb-room, still, gains}
use Rattle.limbs.proofs.settle.Goals as goal

pub add-requires : goal.add-requires
add-requires c =
    let a = c.args in
    let p = c.requires in
    let h : nat_abs (shr_z a.v.0 (2 ^ 32)) ≤ 2 ^ 32 = omega (arith, split-high a.v.0 p.1) in
    rw (shifted_down a.v.0 (omega arith)) (omega arith, omega (arith, p.2.room 0), omega (arith, limb-room a.sums.now (2 * a.s) a.w (shr_z a.v.0 (2 ^ 32)) h p.2))

pub add-requires-2 : goal.add-requires-2
add-requires-2 c =
    let a = c.args in
    let p = c.requires in
    let low : c.lower.result ≡ a.v.0 +ℤ shr_z a.v.0 (2 ^ 32) *ℤ neg_ℤ (pos (2 ^ 32)) = rw (shifted_down a.v.0 (omega arith), again-is a.v.0 (omega arith)) at c.lower.ensures in
    let h : nat_abs c.lower.result ≤ 2 ^ 32 = rw low (split-low a.v.0) in
    rw (again-is c.lower.result (omega arith), c.add.ensures, length-set, still a.sums.now a.s a.w _ (pos 0) p.0)
    (p.0, omega (arith, p.2.room 0), omega (arith, limb-room a.sums.now (2 * a.s + 1) a.w c.lower.result h p.2))

pub returns : goal.returns
returns c =
    let a = c.args in
    let p = c.requires in
    let low : c.lower.result ≡ a.v.0 +ℤ shr_z a.v.0 (2 ^ 32) *ℤ neg_ℤ (pos (2 ^ 32)) = rw (shifted_down a.v.0 (omega arith), again-is a.v.0 (omega arith)) at c.lower.ensures in
    rw (c.add-2.ensures, c.add.ensures, shifted_down a.v.0 (omega arith), again-is c.lower.result (omega arith))
    (gains a.sums.now a.s a.w (shr_z a.v.0 (2 ^ 32)) c.lower.result p.0 a.v.0
    (rw low (split a.v.0 (shr_z a.v.0 (2 ^ 32)))) (omega (arith, split-high a.v.0 p.1)) (rw low (split-low a.v.0)))
