-- `compose::compose` meets its contract: a refusal leaves the three arrays; an acceptance writes the words of the numerators,
-- which are 01's (rule Composed net), and each of them rounded. Assumes nothing.
use mathlib.Core.Path.{◌≡◌, refl}
use Rattle.std.proofs.Common.{rules}
use Rattle.request.specs.Request.{Request, request_of}
use Rattle.net.specs.Sizes.{Composable}
use Rattle.compose.specs.Afterwards.{Arrays, arrays, rooms_of}
use Rattle.compose.proofs.Entry.{refused-result, grants, composable, Granted, granted, points-at, accepted-result}
use Rattle.compose.proofs.compose.Goals as goal

pub returns-then-is_refused : goal.returns-then-is_refused
returns-then-is_refused c =
    let rq : Request = request_of c.args.head c.args.surface.now c.args.path.now in
    let lent : Arrays = arrays c.args.high.now c.args.low.now c.args.points.now in
    rw c.refused.ensures (refused-result rq _ lent _ c.judged-answer.ensures (search rules))

pub numerators-formed-requires : goal.numerators-formed-requires
numerators-formed-requires c =
    let rq : Request = request_of c.args.head c.args.surface.now c.args.path.now in
    let rooms = rooms_of (arrays c.args.high.now c.args.low.now c.args.points.now) in
    let no : c.judged-answer.result.number ≡ 0 = search rules in
    (composable rq c.args.age.0 rooms (grants rq c.args.age.0 rooms c.judged-answer.result c.judged-answer.ensures no), refl)

pub write_all-requires : goal.write_all-requires
write_all-requires c =
    let rq : Request = request_of c.args.head c.args.surface.now c.args.path.now in
    let lent : Arrays = arrays c.args.high.now c.args.low.now c.args.points.now in
    let no : c.judged-answer.result.number ≡ 0 = search rules in
    let g : Granted rq lent c.judged-answer.result.count = granted rq c.args.age.0 lent c.judged-answer.result c.judged-answer.ensures no in
    let fits : Composable rq = composable rq c.args.age.0 (rooms_of lent) (grants rq c.args.age.0 (rooms_of lent) c.judged-answer.result c.judged-answer.ensures no) in
    (points-at rq _ _ _ fits c.numerators-formed.ensures.0 c.degree-r.ensures g.is g.most, g.enough)

pub returns : goal.returns
returns c =
    let rq : Request = request_of c.args.head c.args.surface.now c.args.path.now in
    let lent : Arrays = arrays c.args.high.now c.args.low.now c.args.points.now in
    let is_accepted : c.judged-answer.result.number ≡ 0 = search rules in
    let g : Granted rq lent c.judged-answer.result.count = granted rq c.args.age.0 lent c.judged-answer.result c.judged-answer.ensures is_accepted in
    let fits : Composable rq =
    composable rq c.args.age.0 (rooms_of lent) (grants rq c.args.age.0 (rooms_of lent) c.judged-answer.result c.judged-answer.ensures is_accepted) in
    accepted-result rq _ _ _ fits c.numerators-formed.ensures.0 c.degree-r.ensures g.is _ lent _ _ c.judged-answer.ensures is_accepted refl
    c.reported-entries.ensures _ c.write_all.ensures
