-- What judging a record gives, and what its parts ask of one another. Assumes nothing.
use Rattle.std.specs.Prelude.{◌≡◌, false, List, ℕ, ℤ, length}
use Rattle.request.specs.declared.Answer.{Answer}
use Rattle.request.specs.declared.Head.{Head}
use Rattle.request.specs.Refusal.{not_degree}
use Rattle.net.specs.Composed.{point}
use Rattle.compose.specs.Afterwards.{afterwards}
use Rattle.judgement.specs.Record.{body_end, request_in}
use Rattle.judgement.specs.Opening.{Read}

-- a record whose degrees and length are right, with the byte at which its numbers begin, its head and its age
pub record Readable (request : List ℕ) (from : ℕ) (head : Head) (age : ℕ) : Type 0 where
  pub read : Read request head age from
  pub small : not_degree head ≡ false
  pub long : length request ≡ body_end from head

-- an answer, and the points of a request in the places that were lent
pub record Given (request : List ℕ) (is : Answer) (points : List ℤ) (a : Answer) (points' : List ℤ) : Type 0 where
  pub answered : a ≡ is
  pub points_is : points' ≡ afterwards is.count (point (request_in request)) points
