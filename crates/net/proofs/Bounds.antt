-- How large a blossom value, a numerator and a rounded point can be: "every blossom value is at most 2^52 in size and every
-- numerator at most 2704156·2^52", each numerator at most its denominator times the greatest travel, so that no point is above the
-- greatest travel, and 0 past L. Assumes nothing.
use mathlib.Core.Path.{◌≡◌, refl, sym, ap, ◌∙◌, subst}
use mathlib.Core.Bool.{cond}
use mathlib.Core.List.{List, [], ◌∷◌, ◌++◌, map}
use Prim.Native.Nat.{ℕ, zero, suc, ◌+◌, ◌*◌, ◌-◌, ◌^◌, ◌≤◌, ◌<◌}
use native.Mathlib.Nat.{mul-le-mul, mul_assoc, mul_comm, le_trans, pow-suc, mul-pos, one-le-pow, suc-mul, add_comm, add-zero}
use native.Mathlib.Decide.{ℕ_discrete}
use native.Mathlib.Omega.{arith}
use lib.IntN.{ℤ, pos, nat_abs}
use lib.Dec.{eqb, lit≤}
use lib.ListN.{length, take, drop, length-append, length-map, take-append-drop}
use borrow.Author.Tests.{eq-eqb, ne_eqb, eqb-true, not-false}
use Rattle.whole.specs.Sum.{sum_over}
use Rattle.whole.specs.Choose.{choose, choose_from}
use Rattle.whole.proofs.Ring.{◌⊗◌, pos-mul}
use Rattle.whole.proofs.Sums.{sum_to-is}
use Rattle.whole.proofs.Bound.{◌⊑◌, ⊑-of, ⊑-le, ⊑-scale}
use Rattle.whole.proofs.Binomial.{weighed, weighed-scale, vandermonde-from, choose_from-zero, choose-zero}
use Rattle.whole.proofs.Rounding.{nearest-size}
use Rattle.pascal.specs.Entry.{largest}
use Rattle.pascal.proofs.Entries.{choose-most}
use Rattle.request.proofs.units.Within.{IsPath}
use Rattle.request.specs.Head.{degree, longest, numbers}
use Rattle.request.specs.Request.{Request}
use Rattle.request.proofs.Forms.{degree-most, longest-most, at-curve, at-tensor, at-triangle}
use Rattle.request.proofs.Bounds.{path-numbers, travels, even-points, uneven-is}
use Rattle.net.specs.declared.Shares.{Shares}
use Rattle.net.specs.Net.{Net, net_of, number_at, path_number}
use Rattle.net.specs.Blossom.{Argument, along_u, along_v, within, step, blossom}
use Rattle.net.specs.Composed.{arguments, numerator, denominator, point}
use Rattle.net.specs.Weighing.{mixed, Weighs}
use Rattle.net.specs.Sizes.{GoodPath, Composable, blossom_most, numerator_most}
use Rattle.net.proofs.Every.{Every, none, more, every_append, every_take, every_drop, every_map}
use Rattle.net.proofs.Size.{mixed-most}
use Rattle.net.proofs.Weigh.{weighs-u, weighs-v, weighs-within}
use Rattle.net.proofs.Literal.{sum_at, sum-none, sum_more, numerator-is}
use Rattle.net.proofs.Rounded.{choose-some, ⊑-sum-on}

-- ---- a blossom value
-- an argument that shares can be given for
abbrev pub Shared : Argument → Type 0
Shared a = (w : Shares) × Weighs w a

-- it multiplies the bound by 1024
step-size : (a : Argument) → Shared a → (p : Net) (B : ℕ) → ((i j : ℕ) → nat_abs (p i j) ≤ B) → (i j : ℕ) → nat_abs (step a p i j) ≤ 1024 * B
unfolding mixed
step-size a (w, weighs) p B most i j =
    rw (weighs.same p i j)
    (mixed-most w.x w.y w.z (p (suc i) j) (p i (suc j)) (p i j) B weighs.one (most (suc i) j) (most i (suc j)) (most i j))

pub blossom-size : (l : List Argument) → Every Shared l → (p : Net) (B : ℕ) → ((i j : ℕ) → nat_abs (p i j) ≤ B) → nat_abs (blossom l p) ≤ 1024 ^ length l * B
unfolding blossom
blossom-size [] none p B most = let b = most 0 0 in omega arith
blossom-size (a ∷ l) (more s e) p B most =
    rw (pow-suc 1024 (length l), mul_assoc (1024 ^ length l) 1024 B) (blossom-size l e (step a p) (1024 * B) (step-size a s p B most))

module _ (rq : Request) (good : GoodPath rq.head rq.path) where
  number : (c t : ℕ) → IsPath (path_number rq c t)
  unfolding path_number number_at
  number c t = path-numbers rq.path good.numbers (numbers rq.head * c + t)

  u-shared : (c t : ℕ) → Shared (along_u (path_number rq c t))
  u-shared c t = subst (λ z. Shared (along_u z)) (sym (number c t).size) (_, weighs-u (nat_abs (path_number rq c t)) (number c t).most)

  v-shared : (c t : ℕ) → Shared (along_v (path_number rq c t))
  v-shared c t = subst (λ z. Shared (along_v z)) (sym (number c t).size) (_, weighs-v (nat_abs (path_number rq c t)) (number c t).most)

  module _ (no1 : rq.head.form ≡ 1 → ⊥) (no2 : rq.head.form ≡ 2 → ⊥) (c : ℕ) (h : c ≤ rq.head.N) where
    adds-up : nat_abs (path_number rq c 0) + nat_abs (path_number rq c 1) + nat_abs (path_number rq c 2) ≡ 1024
    unfolding path_number number_at numbers
    adds-up =
        let even = even-points rq.path rq.head.N (good.even no1 no2) c h in
        rw (at-triangle {A = ℕ} rq.head 1 2 3 no1 no2, add-zero) (eqb-true _ _ (not-false _ (sym (uneven-is rq.path c good.numbers) ∙ even)))

    xyz-shared : Shared (within (path_number rq c 0) (path_number rq c 1) (path_number rq c 2))
    xyz-shared =
        rw ((number c 0).size, (number c 1).size, (number c 2).size) (_, weighs-within _ _ _ adds-up)

  -- every argument of a choice of path points has its shares
  arguments-shared : (choice : List ℕ) → Every (λ c. c ≤ rq.head.N) choice → Every Shared (arguments rq choice)
  unfolding arguments
  arguments-shared choice every = go (ℕ_discrete rq.head.form 1) (ℕ_discrete rq.head.form 2)
    where
      go : Dec (rq.head.form ≡ 1) → Dec (rq.head.form ≡ 2) → Every Shared (arguments rq choice)
      go (yes f) b = subst (Every Shared) (sym (at-curve rq.head _ _ _ f)) (every_map _ (λ c h. u-shared c 0) choice every)
      go (no n) (yes f) =
          subst (Every Shared) (sym (at-tensor rq.head _ _ _ f))
          (every_append _ _ (every_map _ (λ c h. u-shared c 0) _ (every_take rq.head.first choice every))
          (every_map _ (λ c h. v-shared c 1) _ (every_drop rq.head.first choice every)))
      go (no n) (no m) = subst (Every Shared) (sym (at-triangle rq.head _ _ _ n m)) (every_map _ (λ c h. xyz-shared n m c h) choice every)

-- a choice has as many arguments as points
length-arguments : (rq : Request) (choice : List ℕ) → length (arguments rq choice) ≡ length choice
unfolding arguments
length-arguments rq choice = go (ℕ_discrete rq.head.form 1) (ℕ_discrete rq.head.form 2)
  where
    two : {A B : Type 0} (l : ℕ) (u v : A → B) (c : List A) → length (map u (take l c) ++ map v (drop l c)) ≡ length c
    two l u v c =
        length-append (map u (take l c)) (map v (drop l c)) ∙ rw (length-map (take l c) u, length-map (drop l c) v)
        (sym (length-append (take l c) (drop l c)) ∙ ap length (take-append-drop l c))

    go : Dec (rq.head.form ≡ 1) → Dec (rq.head.form ≡ 2) → length (arguments rq choice) ≡ length choice
    go (yes f) b = ap length (at-curve rq.head _ _ _ f) ∙ length-map choice _
    go (no n) (yes f) = ap length (at-tensor rq.head _ _ _ f) ∙ two rq.head.first _ _ choice
    go (no n) (no m) = ap length (at-triangle rq.head _ _ _ n m) ∙ length-map choice _

power-most : (r : ℕ) → r ≤ 4 → 1024 ^ r * 4096 ≤ blossom_most
power-most zero h = lit≤ tt
power-most (suc zero) h = lit≤ tt
power-most (suc (suc zero)) h = lit≤ tt
power-most (suc (suc (suc zero))) h = lit≤ tt
power-most (suc (suc (suc (suc zero)))) h = lit≤ tt
power-most (suc (suc (suc (suc (suc r))))) h = absurd (omega arith)

module _ (rq : Request) (fine : Composable rq) where
  of-degree : (choice : List ℕ) → length choice ≡ degree rq.head → Every (λ c. c ≤ rq.head.N) choice
      → nat_abs (blossom (arguments rq choice) (net_of rq)) ≤ 1024 ^ degree rq.head * 4096
  unfolding net_of
  of-degree choice long every =
      rw (← long, ← (length-arguments rq choice))
      (blossom-size (arguments rq choice) (arguments-shared rq fine.good choice every) (net_of rq) 4096 (λ i j. travels rq.surface fine.travels _))

  -- "every blossom value is at most 2^52 in size"
  pub blossom-most : (choice : List ℕ) → length choice ≡ degree rq.head → Every (λ c. c ≤ rq.head.N) choice
      → nat_abs (blossom (arguments rq choice) (net_of rq)) ≤ blossom_most
  blossom-most choice long every = le_trans (of-degree choice long every) (power-most (degree rq.head) (degree-most rq.head fine.small))

-- ---- a sum over all choices: as often as the weights at R say, by Vandermonde's identity
pub choose_from-self : (n s : ℕ) → choose_from n s s ≡ 1
unfolding choose_from
choose_from-self n zero = choose-zero n
choose_from-self n (suc s) = choose_from-self n s

spread : (N r s R K : ℕ) → sum_over N (λ c k. pos (choose N c) ⊗ (pos K ⊗ pos (choose_from (r * N) (s + c) R))) ≡ pos (K * choose_from (suc r * N) s R)
unfolding weighed
spread N r s R K =
    let e : N + r * N ≡ suc r * N = add_comm N (r * N) ∙ sym (suc-mul r N) in
    weighed-scale N (pos K) _ ∙ ap (λ x. pos K ⊗ x) (vandermonde-from N (r * N) s R ∙ ap (λ n. pos (choose_from n s R)) e) ∙ sym (pos-mul K _)

pub sum-size : (N r s R K : ℕ) (f : List ℕ → ℤ) → ((choice : List ℕ) → length choice ≡ r → Every (λ c. c ≤ N) choice → nat_abs (f choice) ≤ K)
    → nat_abs (sum_at N r s R f) ≤ K * choose_from (r * N) s R
sum-size N zero s R K f most = rw (sum-none N s R f) (go (ℕ_discrete s R))
  where
    go : Dec (s ≡ R) → nat_abs (cond (eqb s R) (f []) (pos 0)) ≤ K * choose_from (0 * N) s R
    go (yes e) =
        let one : choose_from (0 * N) s R ≡ 1 = ap (choose_from (0 * N) s) (sym e) ∙ choose_from-self (0 * N) s in
        rw (eq-eqb s R e, one) (let b = most [] refl none in omega arith)
    go (no n) = rw (ne_eqb s R n) (omega arith)
sum-size N (suc r) s R K f most =
    let part : ℕ → ℕ → ℤ = λ c k. pos (choose N c) ⊗ sum_at N r (s + c) R (λ rest. f (c ∷ rest)) in
    let bound : ℕ → ℕ → ℤ = λ c k. pos (choose N c) ⊗ (pos K ⊗ pos (choose_from (r * N) (s + c) R)) in
    let all : sum_over N part ⊑ sum_over N bound =
    ⊑-sum-on N (λ c k h. ⊑-scale (choose N c) (weighty _ _ (sum-size N r (s + c) R K (λ rest. f (c ∷ rest))
    (λ rest l e. most (c ∷ rest) (ap suc l) (more (omega arith) e))))) in
    rw (sum_more N r s R f, sum_to-is) (⊑-le (subst (λ y. sum_over N part ⊑ y) (spread N r s R K) all))
  where
    weighty : (x : ℤ) (n : ℕ) → nat_abs x ≤ K * n → x ⊑ pos K ⊗ pos n
    weighty x n h = rw (← (pos-mul K n)) (⊑-of h)

module _ (rq : Request) (fine : Composable rq) where
  at_most : (R : ℕ) → nat_abs (numerator rq R) ≤ 1024 ^ degree rq.head * 4096 * choose (longest rq.head) R
  unfolding longest
  at_most R =
      rw (numerator-is rq R, ← (choose_from-zero (degree rq.head * rq.head.N) R))
      (sum-size rq.head.N (degree rq.head) 0 R (1024 ^ degree rq.head * 4096) _ (of-degree rq fine))

  pub numerator-size : (R : ℕ) → nat_abs (numerator rq R) ≤ denominator rq R * 4096
  unfolding denominator
  numerator-size R =
      rw (mul_assoc (choose (longest rq.head) R) (1024 ^ degree rq.head) 4096, mul_comm (choose (longest rq.head) R)) (at_most R)

  -- "every numerator at most 2704156·2^52"
  pub numerator-most : (R : ℕ) → nat_abs (numerator rq R) ≤ numerator_most
  numerator-most R =
      le_trans (at_most R)
      (rw (mul_comm largest blossom_most)
      (mul-le-mul (power-most (degree rq.head) (degree-most rq.head fine.small))
      (choose-most (longest rq.head) R (longest-most rq.head fine.small))))

  -- a denominator is not 0 where there is a point
  pub denominator-some : (R : ℕ) → R ≤ longest rq.head → 0 < denominator rq R
  unfolding denominator
  denominator-some R m =
      let e : R + (longest rq.head - R) ≡ longest rq.head = omega arith in
      mul-pos (rw e at (choose-some R (longest rq.head - R))) (one-le-pow (degree rq.head) 1024 (omega arith))

  pub point-size : (R : ℕ) → R ≤ longest rq.head → nat_abs (point rq R) ≤ 4096
  unfolding point
  point-size R m = nearest-size (numerator rq R) (denominator rq R) 4096 (denominator-some R m) (numerator-size R)
