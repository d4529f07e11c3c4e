-- `text::words::next` meets its contract: past the blanks, and past the word. Assumes nothing.
use mathlib.Core.Path.{sym, ◌∙◌}
use native.Mathlib.Omega.{arith}
use borrow.Author.Tests.{eq-eqb, ne_eqb}
use Rattle.std.proofs.Common.{rules}
use Rattle.text.specs.words.Words.{is_blank, is_solid, word_after, next}
use Rattle.text.proofs.words.Cases.{clash}
use Rattle.text.proofs.words.next.Goals as goal

pub returns-then-is_some : goal.returns-then-is_some
unfolding next
returns-then-is_some c =
    let wrong = sym c.is_some.ensures ∙ c.if-is_some.true in
    record { is = rw wrong; inside = c.requires; some = λ e. absurd (clash (sym e ∙ wrong)) }

pub skip-end-requires-clause-within : goal.skip-end-requires-clause-within
skip-end-requires-clause-within c = (c.skip-start.ensures.passed is_blank (λ b r h. h)).inside

pub returns-then-start-end : goal.returns-then-start-end
unfolding is_solid next word_after
returns-then-start-end c =
    let start = c.skip-start.ensures.passed is_blank (λ b r h. h) in
    let end = c.skip-end.ensures.passed is_solid (λ b r h. search rules) in
    record {
      is = rw (sym c.is_some.ensures ∙ c.if-is_some.false, ← start.is, ← end.is, eq-eqb _ _ c.if-start-end.true);
      inside = record { order = end.onward; end = end.inside };
      some = λ e. absurd (clash (sym e));
    }

pub returns-else-start-end : goal.returns-else-start-end
unfolding is_solid next word_after
returns-else-start-end c =
    let start = c.skip-start.ensures.passed is_blank (λ b r h. h) in
    let end = c.skip-end.ensures.passed is_solid (λ b r h. search rules) in
    record {
      is = rw (sym c.is_some.ensures ∙ c.if-is_some.false, ← start.is, ← end.is, ne_eqb _ _ c.if-start-end.false);
      inside = record { order = end.onward; end = end.inside };
      some = λ e. omega (arith, end.onward, c.if-start-end.false);
    }
