-- `spell::decimal::write_digits` meets its contract: the digits over the last one, and then the last. The number falls at
-- each call. Assumes nothing.
use mathlib.Core.Path.{refl, ap}
use native.Mathlib.Omega.{arith}
use lib.ListN.{length, length-set}
use Rattle.spell.proofs.Spelling.{digits-one, length_more, digits-stored}
use Rattle.spell.proofs.decimal.+write_digits.Goals as goal

pub bounds-out-at : goal.bounds-out-at
bounds-out-at t c = omega (arith, ap length (digits-one _ c.if-n-lt10.true))

pub overflow_add-result : goal.overflow_add-result
overflow_add-result t c = omega (arith, ap length (digits-one _ c.if-n-lt10.true))

pub returns-then-n-lt10 : goal.returns-then-n-lt10
returns-then-n-lt10 t c = rw (digits-one _ c.if-n-lt10.true) (record { ends = refl; holds = refl; small = omega arith })

pub write_digits-next-requires : goal.write_digits-next-requires
write_digits-next-requires t c = omega (arith, length_more _ c.if-n-lt10.false)

pub bounds-out-next : goal.bounds-out-next
bounds-out-next t c = omega (arith, length_more _ c.if-n-lt10.false)

pub overflow_add-result-2 : goal.overflow_add-result-2
overflow_add-result-2 t c = omega (arith, length_more _ c.if-n-lt10.false)

pub shape_of-out : goal.shape_of-out
shape_of-out t c = simp length-set c.write_digits-next.auto.out

pub returns : goal.returns
returns t c =
    let w = c.write_digits-next.ensures in
    let a = c.args in
    let l = length_more _ c.if-n-lt10.false in
    record {
      ends = omega arith;
      holds = rw (w.holds, w.ends) (digits-stored _ c.if-n-lt10.false a.out.now a.at);
      small = omega arith;
    }
