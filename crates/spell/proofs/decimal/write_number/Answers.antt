-- `spell::decimal::write_number` meets its contract: the minus, and then the digits of the size, for which there is room.
-- Assumes nothing.
use mathlib.Core.Path.{sym, ◌∙◌}
use lib.ListN.{length-set}
use native.Mathlib.Omega.{arith}
use Rattle.spell.proofs.Spelling.{decimal-below, decimal-above, nineteen}
use Rattle.spell.proofs.Writing.{written-first, written-within}
use Rattle.spell.proofs.decimal.write_number.Goals as goal

pub write_digits-requires : goal.write_digits-requires
write_digits-requires c =
    let few = nineteen _ c.args.n.0 c.size-size.ensures.0 c.size-size.ensures.1 in
    simp length-set (omega arith)

pub returns-then-negative : goal.returns-then-negative
returns-then-negative c =
    let few = nineteen _ c.args.n.0 c.size-size.ensures.0 c.size-size.ensures.1 in
    rw (decimal-below _ (sym c.negative.ensures ∙ c.if-negative.true), ← c.size-size.ensures.0)
    (written-within _ _ _ _ _ _ (written-first _ _ _ _ _ _ _ c.write_digits.ensures) 20 (omega arith))

pub write_digits-requires-2 : goal.write_digits-requires-2
write_digits-requires-2 c =
    let few = nineteen _ c.args.n.0 c.size-size.ensures.0 c.size-size.ensures.1 in
    omega arith

pub returns : goal.returns
returns c =
    let few = nineteen _ c.args.n.0 c.size-size.ensures.0 c.size-size.ensures.1 in
    rw (decimal-above _ (sym c.negative.ensures ∙ c.if-negative.false), ← c.size-size.ensures.0)
    (written-within _ _ _ _ _ _ c.write_digits-2.ensures 20 (omega arith))
