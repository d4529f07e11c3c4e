-- Form 3, accepted: the three numbers of the path's place add up to the scale, so that the surface is read at a place of
-- the triangle. Demand 3 does not need it; it says that what demand 3 reads is F(G(k/q)). Assumes nothing.
use mathlib.Core.Path.{◌≡◌, sym, ◌∙◌, ap}
use mathlib.Core.Bool.{false, not}
use Prim.Native.Nat.{ℕ, ◌+◌, ◌≤◌}
use native.Mathlib.Nat.{add-zero}
use native.Mathlib.Omega.{arith}
use borrow.Author.Tests.{ltb-false, eqb-true, not-false}
use lib.IntN.{ℤ, pos, negsuc, ◌+ℤ◌}
use Rattle.request.specs.declared.Rooms.{Rooms}
use Rattle.request.specs.Head.{numbers}
use Rattle.request.specs.Request.{Request}
use Rattle.request.specs.Refusal.{answer, not_balance, balance_place, uneven, is_number}
use Rattle.request.proofs.Forms.{at-triangle}
use Rattle.request.proofs.Least.{least-before}
use Rattle.request.proofs.Accepted.{accepts}
use Rattle.net.specs.Net.{number_at, path_number}
use Rattle.net.specs.Reading.{coordinate, scale}
use Rattle.net.proofs.Moment.{place-balanced}

is-number : (z : ℤ) (n : ℕ) → not (is_number z n) ≡ false → z ≡ pos n
unfolding is_number
is-number (pos m) n h = ap pos (eqb-true m n (not-false _ h))
is-number (negsuc m) n h = let never : ◌≡◌ {A = ℕ} 0 1 = cc in absurd (omega arith)

each-point : (rq : Request) → rq.head.form ≡ 3 → not_balance rq ≡ false
    → (c : ℕ) → c ≤ rq.head.N → path_number rq c 0 +ℤ path_number rq c 1 +ℤ path_number rq c 2 ≡ pos 1024
unfolding not_balance balance_place uneven path_number number_at numbers
each-point rq form even c h =
    let all : rq.head.N + 1 ≤ balance_place rq.path rq.head.N = ltb-false _ _ (sym (at-triangle rq.head _ _ _ (omega arith) (omega arith)) ∙ even) in
    rw (at-triangle {A = ℕ} rq.head 1 2 3 (omega arith) (omega arith), add-zero)
    (is-number _ 1024 (least-before (rq.head.N + 1) (uneven rq.path) c (omega arith)))

pub place-adds-up : (rq : Request) (age : ℕ) (rooms : Rooms) → (answer rq age rooms).number ≡ 0 → rq.head.form ≡ 3
    → (k q : ℕ) → coordinate rq 0 k q +ℤ coordinate rq 1 k q +ℤ coordinate rq 2 k q ≡ scale rq q
place-adds-up rq age rooms zero_is form k q = place-balanced rq k q (each-point rq form (accepts rq age rooms zero_is).balance)
