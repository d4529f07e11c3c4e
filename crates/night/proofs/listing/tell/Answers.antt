-- `night::listing::tell` meets its contract. Assumes nothing.
use native.Mathlib.Omega.{arith}
use Rattle.night.proofs.listing.Telling.{told-each, told-other, told-page}
use Rattle.night.proofs.listing.tell.Goals as goal

pub returns-then-wanted-eq0 : goal.returns-then-wanted-eq0
returns-then-wanted-eq0 c = told-each _ _ _ _ _ _ _ _ _ (omega arith) c.tell_entry.ensures

pub returns-then-wanted-pair : goal.returns-then-wanted-pair
returns-then-wanted-pair c = told-other _ _ _ _ _ _ _ _ (λ e. omega arith) (λ e. omega arith)

pub returns : goal.returns
returns c = told-page _ _ _ _ _ _ _ _ _ (λ e. omega arith) (omega arith) c.tell_page.ensures
