-- `patch_judge::judge` meets its contract: where none of the first four tests holds, the tests of the numbers decide. Assumes nothing.
use mathlib.Core.Path.{sym, ◌∙◌}
use native.Mathlib.Nat.{mul-le-mul}
use native.Mathlib.Omega.{arith}
use Rattle.std.proofs.Common.{rules}
use Rattle.request.specs.Cascade.{accepting}
use Rattle.request.proofs.Cascade.{past}
use Rattle.patch_net.specs.Patch.{longest}
use Rattle.patch_net.specs.Refusal.{not_degree, not_surface, not_path, not_room, not_value, not_parameter, balance_place, not_balance, refusals, accepted, answer}
use Rattle.patch_net.proofs.Standing.{places-few}
use Rattle.patch.proofs.patch_judge.judge.Goals as goal

pub places-count-requires : goal.places-count-requires
places-count-requires c = mul-le-mul {n₂ = 3} {m₂ = 3} (omega arith) (omega arith)

pub overflow_mul-numbers : goal.overflow_mul-numbers
overflow_mul-numbers c = record { fits = omega (arith, places-few c.args.N (omega arith), c.places-of_domain.ensures) }

pub judge_numbers-requires : goal.judge_numbers-requires
judge_numbers-requires c = omega (arith, places-few c.args.N (omega arith), c.places-of_domain.ensures)

pub returns : goal.returns
unfolding answer refusals not_value not_parameter not_balance balance_place accepted accepting longest not_path not_room not_surface not_degree
returns c =
    rw (c.judge_numbers.ensures, c.accepted.ensures, c.places-of_domain.ensures, c.places-count.ensures)
    (sym (past _ _ _ (search rules) ∙ past _ _ _ (search rules) ∙ past _ _ _ (search rules) ∙ past _ _ _ (search rules)))
