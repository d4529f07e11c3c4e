-- `text::words::bounded` meets its contract: what is left to spell, after what is spelled, is the whole. Assumes nothing.
use mathlib.Core.Path.{sym, ◌∙◌}
use native.Mathlib.Omega.{arith}
use Rattle.text.specs.words.Words.{is_digit}
use Rattle.text.proofs.words.Cases.{digits-none, digits-odd, digits-large, digits-read}
use Rattle.text.proofs.words.Runs.{every_more, every-stop, every-end, spelled-more, spelled-end}
use Rattle.text.proofs.words.bounded.Goals as goal

pub returns-then-is_empty : goal.returns-then-is_empty
returns-then-is_empty c = record { is = digits-none _ _ (sym c.is_empty.ensures ∙ c.if-is_empty.true); small = tt }

pub returns-then-not-is_ascii_digit : goal.returns-then-not-is_ascii_digit
unfolding is_digit
returns-then-not-is_ascii_digit c =
    let some = sym c.is_empty.ensures ∙ c.if-is_empty.false in
    let odd = every-stop is_digit c.args.digits.now _ (omega arith)
    (sym c.is_ascii_digit.ensures.value ∙ c.if-not-is_ascii_digit.true) in
    record {
      is = digits-odd _ _ some (c.loop-b.invariant.1 ∙ odd);
      small = tt;
    }

pub loop-b-preserved : goal.loop-b-preserved
unfolding is_digit
loop-b-preserved c =
    let inv = c.loop-b.invariant in
    let s = c.args.digits.now in (
      omega arith,
      inv.1 ∙ every_more is_digit s _ (omega arith) (sym c.is_ascii_digit.ensures.value
          ∙ c.if-not-is_ascii_digit.false),
      rw (c.min-n.ensures, c.from.ensures) (inv.2 ∙ spelled-more s c.loop-b.n _ (omega arith)),
    )

pub returns-then-bound-n : goal.returns-then-bound-n
returns-then-bound-n c =
    let ds = c.args.digits.now in
    let some = sym c.is_empty.ensures ∙ c.if-is_empty.false in
    let all = c.loop-b.invariant.1 ∙ every-end is_digit ds c.loop-b.b-index (omega arith) in
    let n-is = c.loop-b.invariant.2 ∙ spelled-end ds c.loop-b.n c.loop-b.b-index (omega arith) (omega arith) in
    record {
      is = digits-large _ _ some all _ n-is (omega arith) c.if-bound-n.true;
      small = tt;
    }

pub returns : goal.returns
returns c =
    let ds = c.args.digits.now in
    let some = sym c.is_empty.ensures ∙ c.if-is_empty.false in
    let all = c.loop-b.invariant.1 ∙ every-end is_digit ds c.loop-b.b-index (omega arith) in
    let n-is = c.loop-b.invariant.2 ∙ spelled-end ds c.loop-b.n c.loop-b.b-index (omega arith) (omega arith) in
    record {
      is = digits-read _ _ some all _ n-is (omega arith) c.if-bound-n.false;
      small = c.if-bound-n.false;
    }
