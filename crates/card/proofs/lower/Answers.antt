-- `card::lower` meets its contract: each turn makes one place. Assumes nothing.
use Prim.Native.Nat.{ℕ, ◌<◌, ◌+◌}
use mathlib.Core.Path.{◌≡◌, sym, subst, ◌∙◌}
use native.Mathlib.Nat.{ne_of_lt, lt_of_lt_of_le}
use borrow.Author.Count.{below_none, below_more}
use lib.Seq.{get_or-set_same, get_or-set_other}
use lib.Ieee.{nan}
use borrow.Author.Rules.{rules}
use native.Mathlib.Omega.{arith}
use lib.ListN.{get_or, set, length-set}
use Rattle.floats.specs.Step.{mixed}
use Rattle.card.proofs.lower.Goals as goal

pub loop-i-init : goal.loop-i-init
loop-i-init c = (search rules, record { each = below_none _ })

pub loop-i-preserved : goal.loop-i-preserved
loop-i-preserved c =
    let l = c.loop-i in
    let net = c.args.net in
    let u = c.args.u in
    let v = c.step.result in (
      length-set l.out l.i v ∙ l.invariant.0,
      record {
        each = below_more (λ (k : ℕ). get_or (set l.out l.i v) k nan ≡ mixed (get_or net k nan) (get_or net (k + 1) nan) u) l.i
            (λ k h. get_or-set_other l.out l.i k v nan (ne_of_lt h) ∙ l.invariant.1.each k h)
            (get_or-set_same l.out l.i v nan (subst (λ (n : ℕ). l.i < n) (sym l.invariant.0) (omega arith)) ∙ c.step.ensures.is);
      },
    )

pub returns : goal.returns
returns c = record { each = λ k h. c.loop-i.invariant.1.each k (lt_of_lt_of_le h c.loop-i-test.false) }
