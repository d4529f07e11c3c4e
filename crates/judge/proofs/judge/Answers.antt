-- `judge::judge` meets its contract: where none of the first six tests holds, the tests of the numbers decide. Assumes nothing.
use mathlib.Core.Path.{ap, ◌∙◌}
use Rattle.std.proofs.Common.{rules}
use Rattle.request.specs.Request.{request_of}
use Rattle.request.specs.Cascade.{first, decided}
use Rattle.request.specs.Refusal.{not_surface, not_path}
use Rattle.judge.specs.Places.{number_tests}
use Rattle.judge.proofs.Numbers.{numbers-last}
use Rattle.judge.proofs.judge.Goals as goal

pub returns : goal.returns
unfolding not_surface not_path
returns c =
    let rq = request_of c.args.head c.args.surface.now c.args.path.now in
    c.judge_numbers.ensures
    ∙ ap (λ a. decided (first (number_tests rq.surface rq.path c.balanced.result)) a) c.acceptance.ensures
    ∙ numbers-last rq c.args.age.0 c.args.rooms _ c.balanced.ensures.0 (search rules) (search rules) (search rules) (search rules) (search rules) (search rules)
