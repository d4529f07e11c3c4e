-- `text::read_age` meets its contract: no word is left, or the next one is the age or left over. Assumes nothing.
use mathlib.Core.Path.{sym, ◌∙◌}
use Rattle.text.specs.Line.{age_at, aged}
use Rattle.text.proofs.read_age.Goals as goal

pub returns-then-is_some : goal.returns-then-is_some
unfolding aged
returns-then-is_some c = record {
  is = rw (← c.next-word.ensures.is, sym c.is_some.ensures ∙ c.if-is_some.true);
  inside = c.requires;
}

pub returns-in-Ok : goal.returns-in-Ok
unfolding aged age_at
returns-in-Ok c =
    let word = c.next-word.ensures in
    record {
      is = rw (← word.is, sym c.is_some.ensures ∙ c.if-is_some.false, ← c.in-Ok.ensures.is);
      inside = word.inside;
    }

pub returns-in-Err : goal.returns-in-Err
unfolding aged age_at
returns-in-Err c =
    let word = c.next-word.ensures in
    record {
      is = rw (← word.is, sym c.is_some.ensures ∙ c.if-is_some.false, ← c.in-Err.ensures.is, c.because.ensures);
      inside = rw c.because.ensures (record { order = word.inside.order; end = word.inside.end });
    }
