-- Two groups of arguments: where the first is used up the run begins anew. Assumes nothing.
use mathlib.Core.Path.{◌≡◌, sym, ◌∙◌}
use mathlib.Core.Bool.{Bool, true, false, cond}
use mathlib.Core.List.{List}
use Prim.Native.Nat.{ℕ, suc, ◌-◌, ◌≤◌, ◌<◌}
use native.Mathlib.Decide.{ℕ_discrete, dec_lt}
use native.Mathlib.Omega.{arith}
use lib.IntN.{ℤ, pos, ◌*ℤ◌}
use lib.Dec.{eqb}
use lib.ListN.{drop}
use borrow.Author.Tests.{lt-ltb, le-ltb, eq-eqb, ne_eqb}
use Rattle.limbs.specs.Limbs.{Room}
use Rattle.net.specs.Net.{Net}
use Rattle.net.specs.runs.Walk.{walk}
use Rattle.net.specs.runs.Ride.{leaf}
use Rattle.net.specs.runs.Budget.{budget}
use Rattle.sums.specs.gather.Table.{terms_of}
use Rattle.sums.specs.gather.Owed.{owed, due, Able, group_at, of_group, read_at, rest_at, owing, duty}
use Rattle.net.proofs.runs.Reach.{Reads, leaf-reads, walk-reads}
use Rattle.sums.proofs.gather.Turn.{owed-zero, due-zero}
use Rattle.sums.proofs.gather.Turn as Turn

-- ---- which group it is
module _ (t : List ℕ) (count outer second left : ℕ) where
  module _ (h : second < left) where
    pub first_group : group_at outer second left ≡ outer
    unfolding group_at
    first_group = rw (lt-ltb second left h)

    pub first-of : of_group second left ≡ left - second
    unfolding of_group
    first-of = rw (lt-ltb second left h)

    pub first_read : read_at t count second left ≡ (λ R. walk (terms_of t count 3) second second (leaf R))
    unfolding read_at
    first_read = rw (lt-ltb second left h)

    pub first_rest : rest_at t count second left ≡ budget (terms_of t count 3) second second 1
    unfolding rest_at
    first_rest = rw (lt-ltb second left h)

  module _ (h : left ≤ second) where
    pub later-group : group_at outer second left ≡ 3
    unfolding group_at
    later-group = rw (le-ltb second left h)

    pub later_of : of_group second left ≡ left
    unfolding of_group
    later_of = rw (le-ltb second left h)

    pub later-read : read_at t count second left ≡ leaf
    unfolding read_at
    later-read = rw (le-ltb second left h)

    pub later-rest : rest_at t count second left ≡ 1
    unfolding rest_at
    later-rest = rw (le-ltb second left h)

  pub of-most : of_group second left ≤ left
  of-most = go (dec_lt second left)
    where
      go : Dec (second < left) → of_group second left ≤ left
      go (yes h) = rw (first-of h) (omega arith)
      go (no n) = rw (later_of (omega arith)) (omega arith)

  pub of_some : 0 < left → 0 < of_group second left
  of_some o = go (dec_lt second left)
    where
      go : Dec (second < left) → 0 < of_group second left
      go (yes h) = rw (first-of h) (omega arith)
      go (no n) = rw (later_of (omega arith)) o

  -- what is read once the group is used up reads as far as the other arguments reach
  pub read-reads : Reads (read_at t count second left) (left - of_group second left)
  read-reads = go (dec_lt second left)
    where
      walked : Reads (λ R. walk (terms_of t count 3) second second (leaf R)) second
      walked = record { reads = λ R s p q e. walk-reads leaf 0 leaf-reads (terms_of t count 3) second second R s p q (λ i j m. e i j (omega arith)) }

      go : Dec (second < left) → Reads (read_at t count second left) (left - of_group second left)
      go (yes h) = let d : left - (left - second) ≡ second = omega arith in rw (first_read h, first-of h, d) walked
      go (no n) = let h : left ≤ second = omega arith in let d : left - left ≡ 0 = omega arith in rw (later-read h, later_of h, d) leaf-reads

-- ---- one argument fewer
module _ (t : List ℕ) (count outer second l : ℕ) where
  -- within a group nothing changes
  module _ (other : l ≡ second → ⊥) where
    same-group : group_at outer second l ≡ group_at outer second (suc l)
    same-group = go (dec_lt second l)
      where
        go : Dec (second < l) → group_at outer second l ≡ group_at outer second (suc l)
        go (yes h) = first_group t count outer second l h ∙ sym (first_group t count outer second (suc l) (omega arith))
        go (no n) = later-group t count outer second l (omega arith) ∙ sym (later-group t count outer second (suc l) (omega arith))

    same_of : of_group second l ≡ of_group second (suc l) - 1
    same_of = go (dec_lt second l)
      where
        go : Dec (second < l) → of_group second l ≡ of_group second (suc l) - 1
        go (yes h) = rw (first-of t count outer second l h, first-of t count outer second (suc l) (omega arith)) (omega arith)
        go (no n) = rw (later_of t count outer second l (omega arith), later_of t count outer second (suc l) (omega arith)) (omega arith)

    same_read : read_at t count second l ≡ read_at t count second (suc l)
    same_read = go (dec_lt second l)
      where
        go : Dec (second < l) → read_at t count second l ≡ read_at t count second (suc l)
        go (yes h) = first_read t count outer second l h ∙ sym (first_read t count outer second (suc l) (omega arith))
        go (no n) = later-read t count outer second l (omega arith) ∙ sym (later-read t count outer second (suc l) (omega arith))

    same_rest : rest_at t count second l ≡ rest_at t count second (suc l)
    same_rest = go (dec_lt second l)
      where
        go : Dec (second < l) → rest_at t count second l ≡ rest_at t count second (suc l)
        go (yes h) = first_rest t count outer second l h ∙ sym (first_rest t count outer second (suc l) (omega arith))
        go (no n) = later-rest t count outer second l (omega arith) ∙ sym (later-rest t count outer second (suc l) (omega arith))

  -- what the next argument owes, with the run begun anew or not, is what the walk owes after this one
  pub bridge : (turn : Bool) → turn ≡ eqb l second → (c b s w : ℕ) (p : Net) (R : ℕ)
      → owing t count outer second l (cond turn 0 c) (cond turn second b) s w p R
      ≡ owed (read_at t count second (suc l)) (drop c (terms_of t count (group_at outer second (suc l)))) w (of_group second (suc l) - 1) b s p R
  bridge turn e c b s w p R = go (ℕ_discrete l second)
    where
      anew : (w s : ℕ)
          → owed leaf (terms_of t count 3) w second second s p R ≡ owed (λ R. walk (terms_of t count 3) second second (leaf R))
          (drop c (terms_of t count outer)) w 0 b s p R
      anew w s = owed-is w s ∙ sym (owed-zero (λ R. walk (terms_of t count 3) second second (leaf R)) (drop c (terms_of t count outer)) w b s p R)
        where
          owed-is : (w s : ℕ) → owed leaf (terms_of t count 3) w second second s p R ≡ pos w *ℤ walk (terms_of t count 3) second second (leaf R) s p
          owed-is w s = Turn.owed-walk leaf (terms_of t count 3) w second second s p R

      go : Dec (l ≡ second) → owing t count outer second l (cond turn 0 c) (cond turn second b) s w p R
          ≡ owed (read_at t count second (suc l)) (drop c (terms_of t count (group_at outer second (suc l)))) w (of_group second (suc l) - 1) b s p R
      go (yes i) =
          let m : l ≤ second = omega arith in
          let n : second < suc l = omega arith in
          let d : suc l - second - 1 ≡ 0 = omega arith in
          rw (
            e,
            eq-eqb l second i,
            later-read t count outer second l m,
            later-group t count outer second l m,
            later_of t count outer second l m,
            first_read t count outer second (suc l) n,
            first_group t count outer second (suc l) n,
            first-of t count outer second (suc l) n,
            d,
            i,
          )
          (anew w s)
      go (no n) = rw (e, ne_eqb l second n, same_read n, same-group n, same_of n)

  pub bridge-due : (turn : Bool) → turn ≡ eqb l second → (c b w : ℕ)
      → duty t count outer second l (cond turn 0 c) (cond turn second b) w
      ≡ due (rest_at t count second (suc l)) (drop c (terms_of t count (group_at outer second (suc l)))) w (of_group second (suc l) - 1) b
  bridge-due turn e c b w = go (ℕ_discrete l second)
    where
      go : Dec (l ≡ second) → duty t count outer second l (cond turn 0 c) (cond turn second b) w
          ≡ due (rest_at t count second (suc l)) (drop c (terms_of t count (group_at outer second (suc l)))) w (of_group second (suc l) - 1) b
      go (yes i) =
          let m : l ≤ second = omega arith in
          let n : second < suc l = omega arith in
          let d : suc l - second - 1 ≡ 0 = omega arith in
          rw (
            e,
            eq-eqb l second i,
            later-rest t count outer second l m,
            later-group t count outer second l m,
            later_of t count outer second l m,
            first_rest t count outer second (suc l) n,
            first_group t count outer second (suc l) n,
            first-of t count outer second (suc l) n,
            d,
            i,
          )
          (Turn.due-budget 1 (terms_of t count 3) w second second ∙ sym (due-zero (budget (terms_of t count 3) second second 1)
          (drop c (terms_of t count outer)) w b))
      go (no n) = rw (e, ne_eqb l second n, same_rest n, same-group n, same_of n)

  pub next-able : (turn : Bool) → turn ≡ eqb l second → second ≤ 4 → (most c b w : ℕ) (now : List ℤ)
      → Able t count most (group_at outer second (suc l)) (rest_at t count second (suc l)) (of_group second (suc l) - 1) c b w now
      → Able t count most (group_at outer second l) (rest_at t count second l) (of_group second l) (cond turn 0 c) (cond turn second b) w now
  next-able turn e few most c b w now able = go (ℕ_discrete l second)
    where
      room : Room now (duty t count outer second l (cond turn 0 c) (cond turn second b) w)
      room = rw (bridge-due turn e c b w) able.room

      go : Dec (l ≡ second) → Able t count most (group_at outer second l) (rest_at t count second l) (of_group second l) (cond turn 0 c) (cond turn second b) w now
      go (yes i) =
          let m : l ≤ second = omega arith in
          let x : turn ≡ true = e ∙ eq-eqb l second i in record {
            good = able.good;
            here = rw x (let h = able.here in omega arith);
            few = rw x few;
            open_few = rw (x, later_of t count outer second l m) m;
            some = rw (later-rest t count outer second l m) (omega arith);
            room = room;
          }
      go (no n) =
          let x : turn ≡ false = e ∙ ne_eqb l second n in record {
            good = able.good;
            here = rw x able.here;
            few = rw x able.few;
            open_few = rw (x, same_of n) able.open_few;
            some = rw (same_rest n) able.some;
            room = room;
          }
