-- How large a request's counts are where DEGREE lets it pass: what the door's own arrays hold. Assumes nothing.
use mathlib.Core.Path.{◌≡◌}
use mathlib.Core.Bool.{Bool, true, false, cond}
use mathlib.Core.List.{List}
use Prim.Native.Nat.{ℕ, zero, suc, ◌+◌, ◌*◌, ◌/◌, ◌≤◌}
use native.Mathlib.Nat.{mul-le-mul}
use native.Mathlib.Omega.{arith}
use lib.Dec.{eqb, lit≤}
use Rattle.request.specs.declared.Head.{Head}
use Rattle.request.specs.Head.{most_n, most_path_numbers, by_form, surface_count, path_count, numbers}
use Rattle.request.specs.Refusal.{not_degree}
use Rattle.request.proofs.Forms.{small}
use Rattle.wire.specs.Start.{start}
use Rattle.judgement.specs.Record.{aged_start, is_aged, start_in}

tensor-most : (l m : ℕ) → l + m ≤ 4 → (l + 1) * (m + 1) ≤ 15
tensor-most zero m h = omega arith
tensor-most (suc zero) m h = omega arith
tensor-most (suc (suc zero)) m h = omega arith
tensor-most (suc (suc (suc zero))) m h = omega arith
tensor-most (suc (suc (suc (suc zero)))) m h = omega arith
tensor-most (suc (suc (suc (suc (suc l))))) m h = absurd (omega arith)

triangle-most : (n : ℕ) → n ≤ 4 → (n + 1) * (n + 2) / 2 ≤ 15
triangle-most zero h = lit≤ tt
triangle-most (suc zero) h = lit≤ tt
triangle-most (suc (suc zero)) h = lit≤ tt
triangle-most (suc (suc (suc zero))) h = lit≤ tt
triangle-most (suc (suc (suc (suc zero)))) h = lit≤ tt
triangle-most (suc (suc (suc (suc (suc n))))) h = absurd (omega arith)

-- what holds of each form's choice holds of the choice
each-form : (h : Head) (x y z most : ℕ) → x ≤ most → y ≤ most → z ≤ most → by_form h x y z ≤ most
unfolding by_form
each-form h x y z most p q r = go (eqb h.form 1) (eqb h.form 2)
  where
    go : (a b : Bool) → cond a x (cond b y z) ≤ most
    go true b = p
    go false true = q
    go false false = r

-- an age or none before the numbers
pub start-most : (request : List ℕ) → start_in request ≤ aged_start
unfolding start_in
start-most request = go (is_aged request)
  where
    go : (b : Bool) → cond b aged_start start ≤ aged_start
    go true = omega arith
    go false = omega arith

module _ (h : Head) (d : not_degree h ≡ false) where
  pub surface-most : surface_count h ≤ 15
  unfolding surface_count
  surface-most =
      let s = small h d in
      each-form h _ _ _ 15 (omega arith) (tensor-most h.first h.second s.r_most) (triangle-most h.first (omega arith))

  pub path-most : path_count h ≤ most_path_numbers
  unfolding path_count numbers
  path-most = let s = small h d in mul-le-mul {n₂ = 3} {m₂ = most_n + 1} (each-form h 1 2 3 3 (omega arith) (omega arith) (omega arith)) (omega arith)
