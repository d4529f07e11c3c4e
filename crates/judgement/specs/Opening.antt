-- What opening a record gives: an equation for each part of it. Assumes nothing.
use Rattle.std.specs.Prelude.{◌≡◌, List, ℕ}
use Rattle.request.specs.declared.Head.{Head}
use Rattle.judgement.specs.Record.{head_in, start_in, age_in}
use Rattle.judgement.specs.Judgement.{tested}
use Rattle.judgement.specs.declared.Opened.{Opened}

-- a record's head, its age and the byte at which its numbers begin
pub record Read (request : List ℕ) (head : Head) (age from : ℕ) : Type 0 where
  pub head_is : head ≡ head_in request
  pub age_is : age ≡ age_in request
  pub from_is : from ≡ start_in request

pub record Opens (request : List ℕ) (r : Opened) : Type 0 where
  pub read : Read request r.head r.age.0 r.from
  pub refusal_is : r.refusal ≡ tested request
