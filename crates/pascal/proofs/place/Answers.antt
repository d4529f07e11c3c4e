-- `pascal::place` meets its contract: no row up to the last starts after it. Assumes nothing.
use native.Mathlib.Omega.{arith}
use Rattle.pascal.specs.Entry.{last_row}
use Rattle.pascal.proofs.Triangle.{row_within}
use Rattle.pascal.proofs.place.Goals as goal

pub overflow_mul-result : goal.overflow_mul-result
overflow_mul-result c = omega (arith, row_within last_row c.args.n (omega arith))

pub overflow_add-result-2 : goal.overflow_add-result-2
overflow_add-result-2 c = omega (arith, row_within last_row c.args.n (omega arith))
