-- `patch::single` meets its contract: so small a number has no high word, and its sign is the high word's. Assumes nothing.
use mathlib.Core.Path.{◌≡◌, refl, sym, ap, ◌∙◌}
use Prim.Native.Nat.{ℕ, zero, suc, ◌+◌, ◌*◌, ◌^◌, ◌<◌}
use native.Mathlib.Omega.{arith}
use lib.IntN.{ℤ, pos, negsuc, neg_ℤ, nat_abs}
use Rattle.whole.specs.Round.{on_side_of}
use Rattle.two_words.specs.Words.{two_words}
use Rattle.two_words.proofs.Dividing.{side-above, side-below}
use Rattle.patch.proofs.single.Goals as goal

side-self : (n : ℤ) → on_side_of n (nat_abs n) ≡ n
unfolding on_side_of
side-self (pos a) = refl
side-self (negsuc a) = refl

low_part : (high low n : ℕ) → 2 ^ 64 * high + low ≡ n → n < 2 ^ 63 → low ≡ n
low_part zero low n e few = omega arith
low_part (suc high) low n e few = absurd (omega arith)

pub minus-requires : goal.minus-requires
minus-requires c =
    let low : c.size_of-size.result.low ≡ nat_abs (two_words c.args.n.high.0 c.args.n.low) = low_part _ _ _ c.size_of-size.ensures.0 c.requires in
    let few = c.requires in
    omega arith

pub returns-then-negative : goal.returns-then-negative
returns-then-negative c =
    let low : c.size_of-size.result.low ≡ nat_abs (two_words c.args.n.high.0 c.args.n.low) = low_part _ _ _ c.size_of-size.ensures.0 c.requires in
    c.minus.ensures ∙ ap (λ x. neg_ℤ (pos x)) low
    ∙ sym (side-below _ _ _ c.size_of-size.ensures.2 (sym c.negative.ensures ∙ c.if-negative.true)) ∙ side-self (two_words c.args.n.high.0 c.args.n.low)

pub plus-requires : goal.plus-requires
plus-requires c =
    let low : c.size_of-size.result.low ≡ nat_abs (two_words c.args.n.high.0 c.args.n.low) = low_part _ _ _ c.size_of-size.ensures.0 c.requires in
    let few = c.requires in
    omega arith

pub returns : goal.returns
returns c =
    let low : c.size_of-size.result.low ≡ nat_abs (two_words c.args.n.high.0 c.args.n.low) = low_part _ _ _ c.size_of-size.ensures.0 c.requires in
    c.plus.ensures ∙ ap pos low ∙ sym (side-above _ _ _ (sym c.negative.ensures ∙ c.if-negative.false)) ∙ side-self (two_words c.args.n.high.0 c.args.n.low)
