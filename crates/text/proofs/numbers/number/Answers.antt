-- `text::numbers::number` meets its contract: nothing from a refused cursor, else the next word's number. Assumes nothing.
use mathlib.Core.Path.{sym, ◌∙◌}
use native.Mathlib.Omega.{arith}
use Rattle.text.proofs.words.Cases.{length-between}
use Rattle.text.specs.numbers.Numbers.{taken, number}
use Rattle.text.proofs.numbers.Values.{either}
use Rattle.text.proofs.numbers.number.Goals as goal

pub returns-then-is_some : goal.returns-then-is_some
unfolding number
returns-then-is_some c =
    let word = c.next-word.ensures in
    record {
      is = rw (← word.is, sym c.is_some.ensures ∙ c.if-is_some.true);
      inside = word.inside;
      small = omega arith;
      size = omega arith;
    }

pub number_of-requires : goal.number_of-requires
number_of-requires c =
    let line = c.args.line.now in
    let some = c.next-word.ensures.some (sym c.is_some.ensures ∙ c.if-is_some.false) in (
      omega (arith, length-between line c.next-word.result.start c.next-word.result.end c.next-word.ensures.inside.end, some),
      omega arith,
      omega arith,
    )

pub returns-in-Ok : goal.returns-in-Ok
unfolding number taken
returns-in-Ok c =
    let word = c.next-word.ensures in
    let found = c.in-Ok.ensures in
    record {
      is = rw (← word.is, sym c.is_some.ensures ∙ c.if-is_some.false, ← found.is);
      inside = word.inside;
      small = found.small;
      size = either c.in-Ok.value.minus _ _ _ found.small;
    }

pub returns-in-Err : goal.returns-in-Err
unfolding number taken
returns-in-Err c =
    let word = c.next-word.ensures in
    let found = c.in-Err.ensures in
    record {
      is = rw (← word.is, sym c.is_some.ensures ∙ c.if-is_some.false, ← found.is, c.because.ensures);
      inside = rw c.because.ensures (record { order = word.inside.order; end = word.inside.end });
      small = omega arith;
      size = omega arith;
    }
