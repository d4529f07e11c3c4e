-- `text::words::number_of` meets its contract: a minus, or digits alone. Assumes nothing.
use mathlib.Core.Path.{sym, ap, ◌∙◌}
use mathlib.Core.Bool.{true, false}
use Rattle.std.proofs.lemmas.Result.{err_from_is_err_and}
use Rattle.text.specs.words.Words.{with_sign}
use Rattle.text.proofs.words.Cases.{reads_word, number-minus, number-plain}
use Rattle.text.proofs.words.Marks.{strips_minus}
use Rattle.text.proofs.words.number_of.Goals as goal

pub returns-in-Some : goal.returns-in-Some
returns-in-Some c =
    let minus = sym (strips_minus c.args.word.now) ∙ c.in-Some.ensures.cases.0 in
    reads_word _ _ _ _
    (ap (with_sign true) (sym c.in_ok-size.was ∙ c.bounded.ensures.is) ∙ rw c.in-Some.ensures.cases.1 (number-minus _ _ _ minus))

pub returns-in_err-size : goal.returns-in_err-size
returns-in_err-size c =
    let minus = sym (strips_minus c.args.word.now) ∙ c.in-Some.ensures.cases.0 in
    let p = err_from_is_err_and c.from_residual.result c.from_residual.ensures.1 in
    rw (p.1, p.2) (reads_word _ _ _ _
    (ap (with_sign true) (sym c.in_err-size.was ∙ c.bounded.ensures.is) ∙ rw c.in-Some.ensures.cases.1 (number-minus _ _ _ minus)))

pub returns-in_err-size-2 : goal.returns-in_err-size-2
returns-in_err-size-2 c =
    let plain = sym (strips_minus c.args.word.now) ∙ c.in_default.ensures.cases in
    let p = err_from_is_err_and c.from_residual-in_err-size-2.result c.from_residual-in_err-size-2.ensures.1 in
    rw (p.1, p.2) (reads_word _ _ _ _ (ap (with_sign false) (sym c.in_err-size-2.was ∙ c.bounded-2.ensures.is) ∙ number-plain _ _ _ plain))

pub returns : goal.returns
returns c =
    let plain = sym (strips_minus c.args.word.now) ∙ c.in_default.ensures.cases in
    reads_word _ _ _ _ (ap (with_sign false) (sym c.in_ok-size-2.was ∙ c.bounded-2.ensures.is) ∙ number-plain _ _ _ plain)
