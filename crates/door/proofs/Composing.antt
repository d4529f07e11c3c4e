-- From the composer's promise to the door's: the arrays that were read hold the request of the record. Assumes nothing.
use mathlib.Core.Path.{◌≡◌, sym, ◌∙◌}
use mathlib.Core.List.{List}
use Prim.Native.Nat.{ℕ, ◌+◌, ◌*◌}
use lib.IntN.{ℤ}
use lib.ListN.{take}
use lib.Seq.{take_at}
use borrow.Author.Tests.{eqb-true, not-false}
use Rattle.request.specs.declared.Answer.{Answer}
use Rattle.request.specs.declared.Head.{Head}
use Rattle.request.specs.Head.{surface_count, path_count}
use Rattle.request.specs.Request.{Request}
use Rattle.compose.specs.declared.Composition.{Composition}
use Rattle.compose.specs.Afterwards.{list_below, afterwards, Arrays, rooms_of, points_after}
use Rattle.compose.specs.Contract.{Composed}
use Rattle.lists.proofs.Written.{below_length, afterwards-none}
use Rattle.wire.specs.Words.{number_at}
use Rattle.judgement.specs.Record.{age_in, path_start, request_in}
use Rattle.judgement.specs.Judgement.{not_body, tested, most_rooms, composed, judged}
use Rattle.judgement.specs.Opening.{Read}
use Rattle.judgement.proofs.Order.{passed, table-last, table_none}
use Rattle.door.specs.Given.{Readable, Given}

-- the first places of an array are what was written to them
pub first-places : {A : Type 0} (count : ℕ) (f : ℕ → A) (lent : List A)
    → take count (afterwards count f lent) ≡ list_below count f
unfolding afterwards
first-places count f lent = take_at (list_below count f) _ count (below_length count f)

-- the composer is given the request of the record
pub request-read : (request : List ℕ) (from age : ℕ) (head : Head) (s p : ℕ) (surface path surface' path' : List ℤ)
    → Read request head age from → s ≡ surface_count head → p ≡ path_count head
    → surface' ≡ afterwards s (number_at request from) surface
    → path' ≡ afterwards p (number_at request (from + 2 * s)) path
    → record { head = head; surface = take s surface'; path = take p path' } ≡ request_in request
unfolding request_in path_start
request-read request from age head s p surface path surface' path' r es ep f g =
    rw (f, g, first-places s _ surface, first-places p _ path, es, ep, r.from_is, r.head_is)

-- what it answers and leaves in the points is what the door answers and sends
pub composed-given : (request : List ℕ) (rq : Request) (age : ℕ) (lent left : Arrays) (c : Composition)
    → rq ≡ request_in request → age ≡ age_in request → rooms_of lent ≡ most_rooms
    → Composed rq age lent c left → Given request (composed request) lent.points c.answer left.points
unfolding points_after
composed-given request rq age lent left c e o l k = record {
  answered = rw (← e, ← o) (rw l at k.answered);
  points_is = rw (← e, ← o) (rw l at k.points_is);
}

-- a refusal by the door's own table leaves the points
pub refused-given : (request : List ℕ) (points : List ℤ) (a : Answer) → a ≡ tested request → (a.number ≡ 0 → ⊥)
    → Given request (judged request) points a points
refused-given request points a e no_zero =
    let other : (tested request).number ≡ 0 → ⊥ = rw e at no_zero in
    let last : judged request ≡ tested request = table-last request other in
    record {
      answered = e ∙ sym last;
      points_is = rw (last, table_none request other) (sym (afterwards-none _ points));
    }

-- where the door's own table leaves number 0, the degrees and the length of a record are right
pub readable : (request : List ℕ) (head : Head) (age from : ℕ) → Read request head age from → (tested request).number ≡ 0
    → Readable request from head age
unfolding not_body
readable request head age from r zero_is =
    let ok = passed request zero_is in
    record {
      read = r;
      small = rw r.head_is ok.degrees;
      long = rw (r.from_is, r.head_is) (eqb-true _ _ (not-false _ ok.body));
    }
