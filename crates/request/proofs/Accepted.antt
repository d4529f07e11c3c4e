-- What the number 0 says of a request: every test of the nine refusals came out false. Assumes nothing.
use mathlib.Core.Path.{◌≡◌, refl}
use mathlib.Core.Bool.{false}
use Prim.Native.Nat.{ℕ}
use Rattle.request.specs.units.Bounds.{stale}
use Rattle.request.specs.declared.Rooms.{Rooms}
use Rattle.request.specs.Request.{Request}
use Rattle.request.specs.Refusal.{not_kind, not_degree, not_surface, not_path, not_room, not_value, not_parameter, not_balance, accepted, refusals, answer}
use Rattle.request.proofs.Cascade.{Each, numbered, none-holds, last_word, refused_none}

pub record Accepted (rq : Request) (age : ℕ) (rooms : Rooms) : Type 0 where
  pub kind : not_kind rq.head ≡ false
  pub degrees : not_degree rq.head ≡ false
  pub fresh : stale age ≡ false
  pub surface : not_surface rq ≡ false
  pub path : not_path rq ≡ false
  pub room : not_room rq.head rooms ≡ false
  pub value : not_value rq ≡ false
  pub parameter : not_parameter rq ≡ false
  pub balance : not_balance rq ≡ false
  pub answered : answer rq age rooms ≡ accepted rq.head

module _ (rq : Request) (age : ℕ) (rooms : Rooms) where
  pub accepts : (answer rq age rooms).number ≡ 0 → Accepted rq age rooms
  unfolding answer refusals Each numbered
  accepts zero_is =
      let n = none-holds (refusals rq age rooms) (accepted rq.head) tt zero_is in
      record {
        kind = n.0;
        degrees = n.1.0;
        fresh = n.1.1.0;
        surface = n.1.1.1.0;
        path = n.1.1.1.1.0;
        room = n.1.1.1.1.1.0;
        value = n.1.1.1.1.1.1.0;
        parameter = n.1.1.1.1.1.1.1.0;
        balance = n.1.1.1.1.1.1.1.1.0;
        answered = last_word (refusals rq age rooms) (accepted rq.head) n;
      }

  pub refusal-empty : ((answer rq age rooms).number ≡ 0 → ⊥) → (answer rq age rooms).count ≡ 0
  unfolding answer accepted
  refusal-empty refusal = refused_none (refusals rq age rooms) (accepted rq.head) refl refusal
