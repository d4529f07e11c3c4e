-- `patch::patch_sums::Place::next` meets its contract: in a row, and where it ends. Assumes nothing.
use mathlib.Core.Path.{ap}
use Prim.Native.Nat.{ℕ, ◌+◌}
use borrow.Author.Tests.{eq-eqb, ne_eqb}
use Rattle.patch_net.specs.Patch.{index, next_of}
use Rattle.patch.proofs.patch_sums.Place.next.Goals as goal

pub returns-then-self-eq0 : goal.returns-then-self-eq0
unfolding next_of
returns-then-self-eq0 c =
    let a = c.args.self in
    rw (eq-eqb a.k 0 c.if-self-eq0.true) (ap (λ (k : ℕ). index (a.i + 1) 0 k) c.saturating_sub.ensures)

pub returns : goal.returns
unfolding next_of
returns c = rw (ne_eqb c.args.self.k 0 c.if-self-eq0.false)
