-- The tests of the numbers are the last three of a ride's table: forms 1 and 2 have no point to balance. Assumes nothing.
use mathlib.Core.Path.{◌≡◌, sym, ap, ◌∙◌}
use mathlib.Core.Bool.{Bool, false, cond}
use mathlib.Core.List.{[], ◌∷◌}
use mathlib.Core.Option.{Option, some}
use Prim.Native.Nat.{ℕ, ◌+◌}
use native.Mathlib.Decide.{ℕ_discrete}
use Rattle.request.specs.units.Bounds.{stale}
use Rattle.request.specs.declared.Answer.{Answer}
use Rattle.request.specs.declared.Rooms.{Rooms}
use Rattle.request.specs.Head.{by_form}
use Rattle.request.specs.Request.{Request}
use Rattle.request.specs.Cascade.{Test, test, first, decided}
use Rattle.request.specs.Refusal.{least, uneven, balance_place, not_kind, not_degree, not_surface, not_path, not_room, not_value, not_parameter, not_balance, accepted, refusals, answer}
use Rattle.request.proofs.Forms.{at-curve, at-tensor, at-triangle}
use Rattle.request.proofs.Cascade.{past}
use Rattle.judge.specs.Places.{number_tests}
use lib.Dec.{ltb}

-- two tables that differ in their last test decide alike where the last tests do
last-differs : (a b c d : Test) (last : Answer) → first (c ∷ []) ≡ first (d ∷ [])
    → decided (first (a ∷ b ∷ c ∷ [])) last ≡ decided (first (a ∷ b ∷ d ∷ [])) last
unfolding first
last-differs a b c d last e = ap (λ (o : Option Test). decided (cond a.holds (some a) (cond b.holds (some b) o)) last) e

module _ (rq : Request) where
  abbrev N : ℕ
  N = rq.head.N

  balance-last : (points : ℕ) → points ≡ by_form rq.head 0 0 (N + 1)
      → first (test 8 (ltb (least points (uneven rq.path)) points) (least points (uneven rq.path)) ∷ [])
      ≡ first (test 8 (not_balance rq) (balance_place rq.path N) ∷ [])
  unfolding first not_balance balance_place least
  balance-last points e = go (ℕ_discrete rq.head.form 1) (ℕ_discrete rq.head.form 2)
    where
      go : Dec (rq.head.form ≡ 1) → Dec (rq.head.form ≡ 2)
          → first (test 8 (ltb (least points (uneven rq.path)) points) (least points (uneven rq.path)) ∷ [])
          ≡ first (test 8 (not_balance rq) (balance_place rq.path N) ∷ [])
      go (yes f) b = rw (e ∙ at-curve rq.head _ _ _ f, at-curve {A = Bool} rq.head _ _ _ f)
      go (no a) (yes f) = rw (e ∙ at-tensor rq.head _ _ _ f, at-tensor {A = Bool} rq.head _ _ _ f)
      go (no a) (no b) = rw (e ∙ at-triangle rq.head _ _ _ a b, at-triangle {A = Bool} rq.head _ _ _ a b)

  -- where none of the six tests before them holds, they decide
  pub numbers-last : (age : ℕ) (rooms : Rooms) (points : ℕ) → points ≡ by_form rq.head 0 0 (N + 1) → not_kind rq.head ≡ false
      → not_degree rq.head ≡ false → stale age ≡ false → not_surface rq ≡ false → not_path rq ≡ false → not_room rq.head rooms ≡ false
      → decided (first (number_tests rq.surface rq.path points)) (accepted rq.head) ≡ answer rq age rooms
  unfolding answer refusals not_value not_parameter
  numbers-last age rooms points e kind degrees old surface path room =
      last-differs _ _ _ _ _ (balance-last points e)
      ∙ sym (past _ _ _ kind ∙ past _ _ _ degrees ∙ past _ _ _ old ∙ past _ _ _ surface ∙ past _ _ _ path ∙ past _ _ _ room)
