-- `judge::place_count` meets its contract: r and N are bounded, so L fits. Assumes nothing.
use native.Mathlib.Omega.{arith}
use Rattle.request.specs.Head.{longest}
use Rattle.request.proofs.Forms.{longest-most}
use Rattle.judge.proofs.place_count.Goals as goal

pub overflow_mul-result : goal.overflow_mul-result
unfolding longest
overflow_mul-result c = rw c.degree-r.ensures (record { fits = omega (arith, longest-most _ c.requires) })

pub overflow_add-result : goal.overflow_add-result
unfolding longest
overflow_add-result c = rw c.degree-r.ensures (record { fits = omega (arith, longest-most _ c.requires) })

pub returns : goal.returns
unfolding longest
returns c = rw c.degree-r.ensures
