-- `text::numbers::value_of` meets its contract: the difference from 0 is taken in 64 bits, where it fits. Assumes nothing.
use mathlib.Core.Path.{◌≡◌, ap, ◌∙◌}
use Prim.Native.Nat.{ℕ, zero, suc, ◌≤◌, ◌<◌}
use native.Mathlib.Omega.{arith}
use lib.IntN.{pos, neg_ℤ, ◌-ℤ◌, +ℤ_idl}
use lib.Signed.{mag}
use mir.Syntax.{w32, w64}
use mir.Val.{SFits, to_z}
use mir.Facts.{to_z_pos, to_z-of_z, sfits_widen}
use Rattle.text.specs.words.Words.{signed}
use Rattle.text.proofs.numbers.value_of.Goals as goal

near : (n : ℕ) → n ≤ 2147483648 → mag (neg_ℤ (pos n)) < 2147483648
near zero h = omega arith
near (suc n) h = omega arith

module _ (n : ℕ) (h : n ≤ 2147483648) where
  away : pos 0 -ℤ to_z w64 n ≡ neg_ℤ (pos n)
  away = ap (λ z. pos 0 -ℤ z) (to_z_pos w64 {n = n} (omega arith)) ∙ +ℤ_idl (neg_ℤ (pos n))

  fits : SFits w32 (neg_ℤ (pos n))
  fits = record { sfits = near n h }

pub returns-then-n : goal.returns-then-n
unfolding signed
returns-then-n c =
    let h : c.args.n.size ≤ 2147483648 = rw c.if-n.true at c.requires in
    let f = fits _ h in
    rw (away _ h, to_z-of_z (sfits_widen {w' = w64} tt f), to_z-of_z f, c.if-n.true)

pub returns-else-n : goal.returns-else-n
unfolding signed
returns-else-n c =
    let h : c.args.n.size ≤ 2147483647 = rw c.if-n.false at c.requires in
    rw c.if-n.false (to_z_pos w32 (omega arith))
