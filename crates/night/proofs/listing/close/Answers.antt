-- `night::listing::close` meets its contract. Assumes nothing.
use mathlib.Core.Path.{refl}
use native.Mathlib.Omega.{arith}
use Rattle.night.proofs.listing.Telling.{paged, some-ending, closed_none, closed-failed, closed-line}
use Rattle.night.proofs.listing.close.Goals as goal

pub returns-then-wanted-ne0 : goal.returns-then-wanted-ne0
returns-then-wanted-ne0 c = closed_none _ _ _ _ _ _ (λ e. omega arith)

pub returns-then-failed : goal.returns-then-failed
returns-then-failed c = closed-failed _ _ _ _ _ _ (omega arith) c.if-failed.true

pub returns : goal.returns
returns c =
    closed-line _ _ _ _ _ _ _ (omega arith) c.if-failed.false
    (paged _ _ _ _ _ _ _ (some-ending _ _ _) refl (rw c.front.ensures at c.put_ending-n.ensures) c.front-2.ensures c.write.ensures)
