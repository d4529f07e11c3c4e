-- One turn of a loop over terms, over any reading. Assumes nothing.
use mathlib.Core.Path.{◌≡◌, refl, sym, ◌∙◌, ap}
use mathlib.Core.Bool.{cond}
use mathlib.Core.List.{List, ◌∷◌}
use Prim.Native.Nat.{ℕ, zero, suc, ◌+◌, ◌*◌, ◌≤◌, ◌<◌}
use native.Mathlib.Nat.{mul-le-mul_left, mul-le-mul_right, mul-one, le_of_suc-le-suc}
use native.Mathlib.Decide.{ℕ_discrete}
use native.Mathlib.Omega.{arith}
use lib.IntN.{ℤ, pos, ◌*ℤ◌, *ℤ-zero}
use lib.Dec.{eqb}
use lib.ListN.{length, get_or, drop}
use lib.Seq.{drop-cons}
use borrow.Author.Tests.{eq-eqb, ne_eqb}
use Rattle.whole.specs.Choose.{choose}
use Rattle.whole.proofs.Ring.{◌⊕◌, ◌⊗◌}
use Rattle.whole.proofs.Binomial.{choose-self}
use Rattle.limbs.specs.Limbs.{only, Room, Gained}
use Rattle.limbs.proofs.Gaining.{only_same, only-other, room-less}
use Rattle.net.specs.Net.{Net}
use Rattle.net.specs.Blossom.{step}
use Rattle.net.specs.runs.Terms.{Term, Reading, no_term, term_at}
use Rattle.net.specs.runs.Walk.{walk}
use Rattle.net.specs.runs.Ride.{leaf, below}
use Rattle.net.specs.runs.Budget.{budget}
use Rattle.net.proofs.runs.Walk.{walk-zero}
use Rattle.net.proofs.runs.Loop.{walk_end, weighed-turn}
use Rattle.net.proofs.runs.Budget.{budget-turn, budget-cons, budget-zero}
use Rattle.net.proofs.runs.Reach.{Agree, Reads, walk-reads}
use Rattle.sums.specs.gather.Table.{key_at, weight_at, term_of, terms_of}
use Rattle.sums.specs.gather.Owed.{owed, due}
use Rattle.limbs.proofs.Toward.{Toward, toward-start, toward-turn, toward-room, toward-end, gained-as}

-- ---- the table
length-below : {A : Type 0} (n : ℕ) (f : ℕ → A) → length (below n f) ≡ n
unfolding below
length-below zero f = refl
length-below (suc n) f = ap suc (length-below n (λ c. f (suc c)))

below_at : {A : Type 0} (n : ℕ) (f : ℕ → A) (d : A) (c : ℕ) → c < n → get_or (below n f) c d ≡ f c
unfolding below
below_at zero f d c h = absurd (omega arith)
below_at (suc n) f d zero h = refl
below_at (suc n) f d (suc c) h = below_at n (λ c. f (suc c)) d c (le_of_suc-le-suc h)

pub length-terms : (t : List ℕ) (count g : ℕ) → length (terms_of t count g) ≡ count
unfolding terms_of
length-terms t count g = length-below count (term_of t g)

pub term-at : (t : List ℕ) (count g c : ℕ) → c < count → term_at (terms_of t count g) c ≡ term_of t g c
unfolding terms_of
term-at t count g c h = below_at count (term_of t g) no_term c h

pub term-weight : (t : List ℕ) (g c : ℕ) → (term_of t g c).weight ≡ weight_at t c
unfolding term_of
term-weight t g c = refl

pub term-key : (t : List ℕ) (g c : ℕ) → (term_of t g c).key ≡ key_at t c
unfolding term_of
term-key t g c = refl

-- ---- what is owed
module _ (F : ℕ → Reading) where
  pub owed-reads : (k : ℕ) → Reads F k → (T : List Term) (w left begun s : ℕ) (p q : Net) → Agree (left + k) p q → (R : ℕ)
      → owed F T w left begun s p R ≡ owed F T w left begun s q R
  unfolding owed
  owed-reads k r T w left begun s p q e R = ap (λ x. pos w *ℤ x) (walk-reads F k r T left begun R s p q e)

  pub owed-turn : (T : List Term) (l s : ℕ) (p : Net) (c b w : ℕ) → c < length T → (R : ℕ)
      → owed F (drop c T) w (suc l) b s p R
      ≡ owed F (drop c T) (w * (term_at T c).weight) l b (s + (term_at T c).key) (step (term_at T c).argument p) R ⊕ owed F (drop (suc c) T)
      (w * choose b (suc l)) (suc l) (suc l) s p R
  unfolding owed ◌⊗◌
  owed-turn T l s p c b w h R = weighed-turn T l (F R) s p c b w h

  pub owed-end : (T : List Term) (l s : ℕ) (p : Net) (c b w : ℕ) → length T ≤ c → (R : ℕ) → owed F (drop c T) w (suc l) b s p R ≡ pos 0
  unfolding owed
  owed-end T l s p c b w h R = ap (λ x. pos w *ℤ x) (walk_end T l (F R) s p c b h) ∙ *ℤ-zero (pos w)

  pub owed-walk : (T : List Term) (w left b s : ℕ) (p : Net) (R : ℕ) → owed F T w left b s p R ≡ pos w *ℤ walk T left b (F R) s p
  unfolding owed
  owed-walk T w left b s p R = refl

  pub owed-zero : (T : List Term) (w b s : ℕ) (p : Net) (R : ℕ) → owed F T w 0 b s p R ≡ pos w *ℤ F R s p
  unfolding owed
  owed-zero T w b s p R = ap (λ x. pos w *ℤ x) (walk-zero T b (F R) s p)

-- ---- by how much weight
module _ (rest : ℕ) where
  pub due-turn : (T : List Term) (l c b w : ℕ) → c < length T
      → due rest (drop c T) w (suc l) b ≡ due rest (drop c T) (w * (term_at T c).weight) l b + due rest (drop (suc c) T) (w * choose b (suc l)) (suc l) (suc l)
  unfolding due
  due-turn T l c b w h = budget-turn T l rest c b w h

  pub due-budget : (T : List Term) (w left b : ℕ) → due rest T w left b ≡ w * budget T left b rest
  unfolding due
  due-budget T w left b = refl

  pub due-zero : (T : List Term) (w b : ℕ) → due rest T w 0 b ≡ w * rest
  unfolding due
  due-zero T w b = ap (λ x. w * x) (budget-zero T b rest)

  budget-some : (t : Term) (T : List Term) (left b : ℕ) → 0 < t.weight → 0 < rest → 1 ≤ budget (t ∷ T) left b rest
  budget-some t T zero b h o = rw (budget-zero (t ∷ T) b rest) (omega arith)
  budget-some t T (suc left) b h o =
      let m = mul-le-mul_right (budget (t ∷ T) left b rest) h in
      rw (budget-cons t T left b rest) (omega (arith, budget-some t T left b h o))

  -- some weight is due, where a term is
  pub due-some : (T : List Term) (left c b w : ℕ) → c < length T → 0 < (term_at T c).weight → 0 < rest → w ≤ due rest (drop c T) w left b
  unfolding due
  due-some T left c b w h some o =
      let k : 1 ≤ budget (drop c T) left b rest = rw (drop-cons T c no_term h) (budget-some (term_at T c) (drop (suc c) T) left b some o) in
      omega (arith, mul-le-mul_left w k)

-- ---- no argument is left
pub only-leaf : (s w R : ℕ) (p : Net) → only s (pos w *ℤ p 0 0) R ≡ pos w *ℤ leaf R s p
unfolding leaf
only-leaf s w R p = go (ℕ_discrete R s)
  where
    go : Dec (R ≡ s) → only s (pos w *ℤ p 0 0) R ≡ pos w *ℤ cond (eqb s R) (p 0 0) (pos 0)
    go (yes e) = rw (e, only_same s (pos w *ℤ p 0 0), eq-eqb s s refl)
    go (no n) = rw (only-other s R (pos w *ℤ p 0 0) n, ne_eqb s R (λ e. n (sym e))) (sym (*ℤ-zero (pos w)))

pub settled : (T : List Term) (w b s : ℕ) (p : Net) (v : ℤ) (out after : List ℤ) → v ≡ p 0 0 → Gained out after (only s (pos w *ℤ v)) w
    → Gained out after (owed leaf T w 0 b s p) (due 1 T w 0 b)
settled T w b s p v out after e = gained-as (λ R. ap (λ v. only s (pos w *ℤ v) R) e ∙ only-leaf s w R p ∙ sym (owed-zero leaf T w b s p R))
    (sym (due-zero 1 T w b ∙ mul-one w))

-- ---- the loop: `l` arguments are left after this one
pub record Sofar (F : ℕ → Reading) (rest : ℕ) (T : List Term) (left from begun weight s : ℕ) (p : Net) (out : List ℤ) (closed c b w : ℕ)
    (now : List ℤ) : Type 0 where
  pub toward : Toward out (owed F (drop from T) weight left begun s p) (due rest (drop from T) weight left begun) now (owed F (drop c T) w left b s p)
      (due rest (drop c T) w left b)
  pub closes : w * choose b left ≡ closed
  pub few : b ≤ 4
  pub open_few : left ≤ b

module _ (F : ℕ → Reading) (rest : ℕ) (T : List Term) (left from begun weight s : ℕ) (p : Net) (out : List ℤ) where
  pub start : (closed : ℕ) → closed ≡ weight * choose begun left → begun ≤ 4 → left ≤ begun
      → Sofar F rest T left from begun weight s p out closed from begun weight out
  start closed e few opened = record { toward = toward-start _ _ _; closes = sym e; few = few; open_few = opened }

  module _ (closed c b w : ℕ) (now : List ℤ) (f : Sofar F rest T left from begun weight s p out closed c b w now) (l : ℕ) (e : left ≡ suc l) where
    pub all_done : length T ≤ c → Gained out now (owed F (drop from T) weight left begun s p) (due rest (drop from T) weight left begun)
    all_done h = toward-end f.toward (λ R. rw e (owed-end F T l s p c b w h R))

    module _ (h : c < length T) where
      -- what is due now is what the turn spends and what is left
      spent : due rest (drop c T) w left b ≡ due rest (drop c T) (w * (term_at T c).weight) l b + due rest (drop (suc c) T) closed left left
      spent = rw (← f.closes, e) (due-turn rest T l c b w h)

      pub next-room : Room out (due rest (drop from T) weight left begun) → Room now (due rest (drop c T) (w * (term_at T c).weight) l b)
      next-room r = room-less now _ _ (omega (arith, spent)) (toward-room f.toward r)

      pub one_more : (next : List ℤ)
          → Gained now next (owed F (drop c T) (w * (term_at T c).weight) l b (s + (term_at T c).key) (step (term_at T c).argument p))
          (due rest (drop c T) (w * (term_at T c).weight) l b)
          → Sofar F rest T left from begun weight s p out closed (suc c) left closed next
      one_more next gained = record {
        toward = toward-turn f.toward _ _ _ _ (λ R. rw (← f.closes, e) (owed-turn F T l s p c b w h R)) spent next gained;
        closes = rw (choose-self left) (mul-one closed);
        few = let a = f.few in let o = f.open_few in omega arith;
        open_few = omega arith;
      }
