-- `feed::next` meets its contract: nothing, a byte, or the pair that lies ahead. Assumes nothing.
use mathlib.Core.Path.{sym, ◌∙◌}
use native.Mathlib.Omega.{arith}
use lib.ListN.{length-take}
use borrow.Author.Rules.{rules}
use Rattle.feed.proofs.Holding.{turn-none, turn_byte, turn-pair, pair-copied}
use Rattle.feed.proofs.Reading.{lies-ahead}
use Rattle.feed.proofs.next.Goals as goal

pub returns-then-is_empty : goal.returns-then-is_empty
returns-then-is_empty c = record { leaves = turn-none _ _ _ _ (search rules); long = λ some. omega arith }

pub returns-then-n-eq0 : goal.returns-then-n-eq0
returns-then-n-eq0 c =
    let none = sym c.ahead-n.ensures ∙ c.if-n-eq0.true in
    record { leaves = turn_byte _ _ _ _ (search rules) none c.step.ensures; long = λ some. omega arith }

pub slice_bounds-copy_from_slice-end : goal.slice_bounds-copy_from_slice-end
slice_bounds-copy_from_slice-end c = omega (arith, (lies-ahead _ _ _ _ c.ahead-n.ensures (omega arith)).few)

pub slice_bounds-copy_from_slice-end-3 : goal.slice_bounds-copy_from_slice-end-3
slice_bounds-copy_from_slice-end-3 c =
    simp length-take (omega (arith, (lies-ahead _ _ _ _ c.ahead-n.ensures (omega arith)).alone.inside))

pub copy_from_slice-requires : goal.copy_from_slice-requires
copy_from_slice-requires c =
    let ahead = lies-ahead _ _ _ _ c.ahead-n.ensures (omega arith) in
    simp length-take (omega (arith, ahead.few, ahead.alone.inside))

pub returns : goal.returns
returns c =
    let is = c.ahead-n.ensures in
    record {
      leaves = turn-pair _ _ _ _ (search rules) (λ z. c.if-n-eq0.false (is ∙ z)) (pair-copied _ _ _ _ _ is c.copy_from_slice.ensures.after);
      long = λ some. omega arith;
    }
