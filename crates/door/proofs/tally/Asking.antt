-- Laws of a comparison with today's reply. Assumes nothing.
use mathlib.Core.Path.{◌≡◌, refl, sym}
use mathlib.Core.Bool.{Bool, true, false, false≢true}
use mathlib.Core.List.{List, ◌++◌}
use Prim.Native.Nat.{ℕ, ◌≤◌}
use native.Mathlib.Omega.{arith}
use lib.ListN.{length, take, drop, length-append}
use lib.Seq.{take-append_seam}
use borrow.Author.Tests.{le-ltb}
use Rattle.replies.specs.Reply.{room, over}
use Rattle.door.specs.Contract.{reply_of, count_answered, reply_after, Answered}
use Rattle.wire.specs.Start.{record_in, behind}
use Rattle.pairs.specs.Cut.{pair_in}
use Rattle.pairs.proofs.Cutting.{refuted}
use Rattle.fives.specs.Replay.{same_bytes, agrees}
use Rattle.fives.proofs.Numbers.{same_bytes_lem, bytes_same}

-- the door's reply stands at the front of the lent bytes
pub record Replied (request : List ℕ) (n : ℕ) (after : List ℕ) : Type 0 where
  pub inside : n ≤ length after
  pub front : take n after ≡ reply_of request

pub replied : {request reply : List ℕ} {n : ℕ} {after : List ℕ} → Answered request reply n after → length reply ≡ room
    → Replied request n after
unfolding count_answered reply_after over
replied {request} {reply} {n} {after} a enough =
    let t = le-ltb (length reply) room (omega arith) in
    let count : n ≡ length (reply_of request) = rw t at a.counted in
    let written : after ≡ reply_of request ++ drop (length (reply_of request)) reply = rw t at a.written in
    record {
      inside = rw (count, written, length-append) (omega arith);
      front = rw (count, written) (take-append_seam (reply_of request) (drop (length (reply_of request)) reply));
    }

decides : (r : Bool) (s t : List ℕ) → (r ≡ true → s ≡ t) → (s ≡ t → r ≡ true) → r ≡ same_bytes s t
decides true s t to from = rw (← to refl) (sym (bytes_same s))
decides false s t to from = sym (refuted (λ e. false≢true (from (same_bytes_lem s t e))))

pub compared : (request reply after : List ℕ) (n : ℕ) (r : Bool) → Replied request n after
    → (r ≡ true → take n after ≡ reply) × (take n after ≡ reply → r ≡ true) → r ≡ same_bytes (reply_of request) reply
compared request reply after n r a w = rw (← a.front) (decides r _ _ w.0 w.1)

-- of a pair
pub agreed : (bytes request reply : List ℕ) (r : Bool) → request ≡ record_in bytes → reply ≡ record_in (behind bytes)
    → r ≡ same_bytes (reply_of request) reply → r ≡ agrees reply_of (pair_in bytes)
unfolding agrees pair_in
agreed bytes request reply r q p e = rw (← q, ← p) e

pub comparison : (bytes request reply after : List ℕ) (n : ℕ) (r : Bool) → request ≡ record_in bytes
    → reply ≡ record_in (behind bytes) → Replied request n after
    → (r ≡ true → take n after ≡ reply) × (take n after ≡ reply → r ≡ true) → r ≡ agrees reply_of (pair_in bytes)
comparison bytes request reply after n r q p a w = agreed bytes request reply r q p (compared request reply after n r a w)
