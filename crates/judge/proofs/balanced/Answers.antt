-- `judge::balanced` meets its contract, form by form. Assumes nothing.
use native.Mathlib.Omega.{arith}
use Rattle.std.proofs.Common.{rules}
use Rattle.request.specs.Head.{by_form}
use Rattle.request.proofs.Forms.{small}
use Rattle.judge.proofs.balanced.Goals as goal

pub returns-in_default : goal.returns-in_default
unfolding by_form
returns-in_default c = let s = (small _ c.requires).N_most in (search rules, omega arith)
