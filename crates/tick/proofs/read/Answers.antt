-- `tick::read` meets its contract: a refusal has the reading 0, and the curve's is that of its steps. Assumes nothing.
use mathlib.Core.Path.{◌≡◌, sym, ap, ◌∙◌}
use mir.Syntax.{w64}
use mir.Val.{to_z, of_z}
use Rattle.std.proofs.Common.{rules}
use Rattle.request.specs.declared.Answer.{Answer}
use Rattle.tick.proofs.Answered.{readable, read_at, refused-at}
use Rattle.tick.proofs.read.Goals as goal

pub returns-then-is_refused : goal.returns-then-is_refused
returns-then-is_refused c = refused-at _ _ c.judge-answer.result c.judge-answer.ensures (search rules)

pub curve-requires : goal.curve-requires
curve-requires c =
    let none : c.judge-answer.result.number ≡ 0 = search rules in
    let r = readable _ _ (ap (λ (a : Answer). a.number) (sym c.judge-answer.ensures) ∙ none) in
    let moment : c.from.result ≡ c.args.k.0 = search rules in
    (r.some, r.few, r.travels, rw moment r.early)

pub returns : goal.returns
returns c =
    let none : c.judge-answer.result.number ≡ 0 = search rules in
    let r = readable _ _ (ap (λ (a : Answer). a.number) (sym c.judge-answer.ensures) ∙ none) in
    let whole : to_z w64 (of_z w64 c.curve.result.0) ≡ c.curve.result.0 = search rules in
    let moment : c.from.result ≡ c.args.k.0 = search rules in
    rw (whole, c.curve.ensures, moment) (sym (read_at _ _ r))
