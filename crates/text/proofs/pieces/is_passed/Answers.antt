-- `text::pieces::is_passed` meets its contract: a `#`, or blanks alone. Assumes nothing.
use mathlib.Core.Path.{sym, ◌∙◌}
use Rattle.std.proofs.Common.{rules}
use Rattle.std.proofs.lemmas.Iterator.{YieldsList-from_slice}
use Rattle.std.proofs.lemmas.Iterator.Search.{all_from_yields_List}
use Rattle.text.specs.words.Words.{is_blank}
use Rattle.text.specs.pieces.Kept.{is_passed}
use Rattle.text.proofs.words.Runs.{every_is}
use Rattle.text.proofs.words.Marks.{starts_hash}
use Rattle.text.proofs.pieces.is_passed.Goals as goal

pub returns-then-starts_with : goal.returns-then-starts_with
unfolding is_passed
returns-then-starts_with c = rw (sym (c.starts_with.ensures.value ∙ starts_hash c.args.line.now) ∙ c.if-starts_with.true) c.if-starts_with.true

pub returns-else-starts_with : goal.returns-else-starts_with
unfolding is_passed
returns-else-starts_with c =
    rw (sym (c.starts_with.ensures.value ∙ starts_hash c.args.line.now) ∙ c.if-starts_with.false)
    (all_from_yields_List is_blank _ _ c.all.result c.all.ensures.ran (YieldsList-from_slice _ c.iter.ensures.rest) (λ x b q k. search rules)
    ∙ sym (every_is is_blank c.args.line.now))
