-- `text::kinds::read_end` meets its contract: no word is left, or the next one is left over. Assumes nothing.
use mathlib.Core.Path.{sym, ◌∙◌}
use Rattle.text.specs.kinds.Kinds.{ended}
use Rattle.text.proofs.kinds.read_end.Goals as goal

pub returns-then-is_some : goal.returns-then-is_some
unfolding ended
returns-then-is_some c = record {
  is = rw (← c.next-word.ensures.is, sym c.is_some.ensures ∙ c.if-is_some.true);
  inside = c.requires;
}

pub returns-else-is_some : goal.returns-else-is_some
unfolding ended
returns-else-is_some c =
    let word = c.next-word.ensures in
    record {
      is = rw (← word.is, sym c.is_some.ensures ∙ c.if-is_some.false) c.left_over.ensures;
      inside = rw c.left_over.ensures (record { order = word.inside.order; end = word.inside.end });
    }
