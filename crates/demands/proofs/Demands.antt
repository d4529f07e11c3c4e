-- Port and starboard mirror (`Mirror` of specs/Demands.antt), and what stays beyond L. Assumes nothing.
use Rattle.std.specs.Prelude.{◌≡◌, ℕ, ◌+◌, List, neg_ℤ}
use Rattle.std.proofs.Common.{sym, ◌∙◌, arith}
use Rattle.std.proofs.Math.Path.{ap}
use Rattle.std.proofs.Math.IntN.{one}
use Rattle.request.specs.declared.Answer.{Answer}
use Rattle.request.specs.Request.{Request}
use Rattle.request.specs.Head.{longest}
use Rattle.request.specs.Refusal.{answer, accepted}
use Rattle.request.proofs.Accepted.{accepts}
use Rattle.net.specs.Composed.{denominator, point}
use Rattle.net.specs.Mirror.{mirrored}
use Rattle.net.proofs.Mirror.{answer-mirrored, numerator-mirrored, point-mirrored}
use Rattle.compose.specs.Afterwards.{afterwards, Arrays, rooms_of}
use Rattle.lists.proofs.Written.{afterwards-past}
use Rattle.demands.specs.Demands.{Result, Allowed, Stays, Mirror, demand2}

pub mirror : (rq : Request) (age : ℕ) (lent : Arrays) (r s : Result) → Allowed rq age lent r → Allowed (mirrored rq) age lent s → Mirror rq r s
unfolding mirrored point denominator
mirror rq age lent r s here there =
    let same : s.answer ≡ r.answer = there.answered ∙ answer-mirrored rq age (rooms_of lent) ∙ sym here.answered in
    let number : r.answer.number ≡ 0 → s.answer.number ≡ 0 = λ e. ap (λ (a : Answer). a.number) same ∙ e in
    let one = demand2 rq age lent r here in
    let other = demand2 (mirrored rq) age lent s there in
    record {
      answer = same;
      numerators = λ e R m. (other.numerators (number e) R m).worth ∙ numerator-mirrored rq R ∙ ap neg_ℤ (sym (one.numerators e R m).worth);
      rounded = λ e R m. other.rounded (number e) R m ∙ point-mirrored rq R ∙ ap neg_ℤ (sym (one.rounded e R m));
    }

-- an acceptance leaves every place beyond L, of any array that it writes, as it was lent
pub rest : (rq : Request) (age : ℕ) (lent : Arrays) (r : Result) → Allowed rq age lent r → {A : Type 0} (other : A) (f : ℕ → A) (l : List A)
    → r.answer.number ≡ 0 → Stays other rq l (afterwards (answer rq age (rooms_of lent)).count f l)
unfolding accepted
rest rq age lent r allowed other f l e R m =
    let n = (answer rq age (rooms_of lent)).count in
    let zero_is = ap (λ (a : Answer). a.number) (sym allowed.answered) ∙ e in
    let c : n ≡ longest rq.head + 1 = ap (λ (a : Answer). a.count) (accepts rq age (rooms_of lent) zero_is).answered in
    afterwards-past n f l R other (omega arith)
