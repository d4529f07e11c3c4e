-- Forms 1 and 2: what is owed depends on the numbers of the rectangle alone, and the rectangle that a step of the code makes owes
-- what the argument's step owes. Assumes nothing.
use mathlib.Core.Path.{◌≡◌, refl, sym, ◌∙◌, ap}
use mathlib.Core.Bool.{cond}
use mathlib.Core.List.{List, [], ◌∷◌}
use Prim.Native.Nat.{ℕ, zero, suc, ◌+◌, ◌*◌, ◌-◌, ◌≤◌, ◌<◌}
use native.Mathlib.Nat.{suc-mul, mul-le-mul_right}
use native.Mathlib.Decide.{dec_lt}
use native.Mathlib.Omega.{arith}
use lib.IntN.{ℤ, pos, ◌*ℤ◌}
use lib.Dec.{eqb, lit≤}
use lib.ListN.{drop}
use borrow.Author.Tests.{lt-ltb, le-ltb, ne_eqb}
use Rattle.net.specs.Net.{Net}
use Rattle.net.specs.Blossom.{along_u, along_v, step}
use Rattle.net.proofs.Every.{Every, none, more, every_drop}
use Rattle.net.specs.runs.Terms.{Term}
use Rattle.net.specs.runs.Walk.{walk}
use Rattle.net.specs.runs.Ride.{leaf, below}
use Rattle.net.proofs.runs.Reach.{Keeps, walk-reach, leaf-same}
use Rattle.sums.specs.steps.Layout.{boxed}
use Rattle.sums.specs.steps.Stepped.{between, Slid}
use Rattle.sums.proofs.steps.Fronts.{front}
use Rattle.sums.proofs.steps.Slides.{front-slid, slid-u, slid-v}
use Rattle.sums.specs.gather.Table.{share_at, argument_of, term_of, terms_of, Inside}
use Rattle.sums.specs.gather.Owed.{group_at, of_group, gap_at, owing}
use Rattle.sums.proofs.gather.Turn.{owed-walk}
use Rattle.sums.proofs.gather.Grouped.{first_group, first-of, first_read, later-group, later_of, later-read}

-- nets that agree on a rectangle
abbrev pub Box : ℕ → ℕ → Net → Net → Type 0
Box a b p q = (i j : ℕ) → i ≤ a → j ≤ b → p i j ≡ q i j

-- as far as the arguments that are left read, the last `second` of them along v
abbrev pub Boxed : ℕ → ℕ → Net → Net → Type 0
Boxed second left p q = (i j : ℕ) → i ≤ left - second → j ≤ second → j ≤ left → p i j ≡ q i j

-- ---- an argument keeps it
step-u : (u : ℤ) (k m : ℕ) (p q : Net) → Box (suc k) m p q → Box k m (step (along_u u) p) (step (along_u u) q)
unfolding step
step-u u k m p q e i j h l = rw (e i j (omega arith) l, e (suc i) j (omega arith) l)

step-v : (v : ℤ) (k : ℕ) (p q : Net) → Box 0 (suc k) p q → Box 0 k (step (along_v v) p) (step (along_v v) q)
unfolding step
step-v v k p q e i j h l = rw (e i j h (omega arith), e i (suc j) h (omega arith))

argument-u : (t : List ℕ) (c : ℕ) → (term_of t 2 c).argument ≡ along_u (pos (share_at t c 2))
unfolding term_of argument_of
argument-u t c = refl

argument-v : (t : List ℕ) (c : ℕ) → (term_of t 3 c).argument ≡ along_v (pos (share_at t c 3))
unfolding term_of argument_of
argument-v t c = refl

every-below : (P : Term → Type 0) (n : ℕ) (f : ℕ → Term) → ((c : ℕ) → P (f c)) → Every P (below n f)
unfolding below
every-below P zero f h = none
every-below P (suc n) f h = more (h 0) (every-below P n (λ c. f (suc c)) (λ c. h (suc c)))

keeps-u : (t : List ℕ) (count m : ℕ) → Every (Keeps (λ k p q. Box k m p q)) (terms_of t count 2)
unfolding terms_of
keeps-u t count m =
    every-below (Keeps (λ k p q. Box k m p q)) count (term_of t 2)
    (λ c k p q h. rw (argument-u t c) (step-u (pos (share_at t c 2)) k m p q h))

keeps-v : (t : List ℕ) (count : ℕ) → Every (Keeps (λ k p q. Box 0 k p q)) (terms_of t count 3)
unfolding terms_of
keeps-v t count =
    every-below (Keeps (λ k p q. Box 0 k p q)) count (term_of t 3)
    (λ c k p q h. rw (argument-v t c) (step-v (pos (share_at t c 3)) k p q h))

-- ---- what is owed
walk-v : (t : List ℕ) (count from left begun R s : ℕ) (p q : Net) → Box 0 left p q
    → walk (drop from (terms_of t count 3)) left begun (leaf R) s p ≡ walk (drop from (terms_of t count 3)) left begun (leaf R) s q
walk-v t count from left begun R s p q h =
    walk-reach (λ k p q. Box 0 k p q) (leaf R) (λ s p q e. leaf-same R s p q (e 0 0 (omega arith) (omega arith)))
    (drop from (terms_of t count 3)) (every_drop from (terms_of t count 3) (keeps-v t count)) left begun s p q h

walk-u : (t : List ℕ) (count m from left begun R s : ℕ) (p q : Net) → Box left m p q
    → walk (drop from (terms_of t count 2)) left begun (λ s p. walk (terms_of t count 3) m m (leaf R) s p) s p
    ≡ walk (drop from (terms_of t count 2)) left begun (λ s p. walk (terms_of t count 3) m m (leaf R) s p) s q
walk-u t count m from left begun R s p q h =
    walk-reach (λ k p q. Box k m p q) (λ s p. walk (terms_of t count 3) m m (leaf R) s p) (λ s p q e. walk-v t count 0 m m R s p q e)
    (drop from (terms_of t count 2)) (every_drop from (terms_of t count 2) (keeps-u t count m)) left begun s p q h

pub box-reads : (t : List ℕ) (count second left from begun s weight : ℕ) (p q : Net) → Boxed second left p q
    → (R : ℕ) → owing t count 2 second left from begun s weight p R ≡ owing t count 2 second left from begun s weight q R
box-reads t count second left from begun s weight p q h R = go (dec_lt second left)
  where
    go : Dec (second < left) → owing t count 2 second left from begun s weight p R ≡ owing t count 2 second left from begun s weight q R
    go (yes m) =
        rw (first_read t count 2 second left m, first_group t count 2 second left m, first-of t count 2 second left m)
        (owed-walk (λ R. walk (terms_of t count 3) second second (leaf R)) (drop from (terms_of t count 2)) weight (left - second) begun s p R
        ∙ ap (λ x. pos weight *ℤ x) (walk-u t count second from (left - second) begun R s p q (λ i j a b. h i j a b (omega arith)))
        ∙ sym (owed-walk (λ R. walk (terms_of t count 3) second second (leaf R)) (drop from (terms_of t count 2)) weight (left - second) begun s q R))
    go (no m) =
        let l : left ≤ second = omega arith in
        rw (later-read t count 2 second left l, later-group t count 2 second left l, later_of t count 2 second left l)
        (owed-walk leaf (drop from (terms_of t count 3)) weight left begun s p R
        ∙ ap (λ x. pos weight *ℤ x) (walk-v t count from left begun R s p q (λ i j a b. h i j (omega arith) (omega arith) b))
        ∙ sym (owed-walk leaf (drop from (terms_of t count 3)) weight left begun s q R))

-- ---- how far apart neighbours are
pub gap-first : (second left : ℕ) → second < left → gap_at second left ≡ second + 1
unfolding gap_at
gap-first second left h = rw (lt-ltb second left h)

pub gap-later : (second left : ℕ) → left ≤ second → gap_at second left ≡ 1
unfolding gap_at
gap-later second left h = rw (le-ltb second left h)

-- how many numbers the next rectangle has, where so many arguments are left
pub gap-one : (second : ℕ) → 1 ≡ gap_at second 1
unfolding gap_at
gap-one zero = refl
gap-one (suc n) = rw (le-ltb (suc n) 1 (omega arith))

pub size-one : (second : ℕ) → of_group second 1 * gap_at second 1 ≤ 1
unfolding of_group gap_at
size-one zero = lit≤ tt
size-one (suc n) = rw (le-ltb (suc n) 1 (omega arith)) (lit≤ tt)

pub gap-two : (second : ℕ) → cond (eqb 1 second) 2 1 ≡ gap_at second 2
unfolding gap_at
gap-two zero = refl
gap-two (suc zero) = refl
gap-two (suc (suc n)) = rw (le-ltb (suc (suc n)) 2 (omega arith), ne_eqb 1 (suc (suc n)) (omega arith))

pub size-two : (second : ℕ) → of_group second 2 * gap_at second 2 ≤ 2
unfolding of_group gap_at
size-two zero = lit≤ tt
size-two (suc zero) = lit≤ tt
size-two (suc (suc n)) = rw (le-ltb (suc (suc n)) 2 (omega arith)) (lit≤ tt)

pub size-three : (second : ℕ) → of_group second 3 * gap_at second 3 ≤ cond (eqb second 1) 4 3
unfolding of_group gap_at
size-three zero = lit≤ tt
size-three (suc zero) = lit≤ tt
size-three (suc (suc zero)) = lit≤ tt
size-three (suc (suc (suc n))) = rw (le-ltb (suc (suc (suc n))) 3 (omega arith), ne_eqb (suc (suc (suc n))) 1 (omega arith)) (lit≤ tt)

pub size-four : (second : ℕ) → of_group second 4 * gap_at second 4 ≤ 6
unfolding of_group gap_at
size-four zero = lit≤ tt
size-four (suc zero) = lit≤ tt
size-four (suc (suc zero)) = lit≤ tt
size-four (suc (suc (suc zero))) = lit≤ tt
size-four (suc (suc (suc (suc n)))) = rw (le-ltb (suc (suc (suc (suc n)))) 4 (omega arith)) (lit≤ tt)

-- where four are left, and how many numbers there are then
pub size-most : (second left here apart : ℕ) → left ≡ 4 → here ≡ of_group second left → apart ≡ gap_at second left → here * apart ≤ 6
size-most second left here apart e he ae = rw (he, ae, e) (size-four second)

pub size-all : (second left l here apart : ℕ) → left ≡ suc l → here ≡ of_group second left → apart ≡ gap_at second left
    → of_group second (suc l) * gap_at second (suc l) ≤ here * apart
size-all second left l here apart e he ae = rw (he, ae, e) (omega arith)

-- the number that an argument reads is within its bounds
pub inside-here : (t : List ℕ) (count second left c g u : ℕ) → Inside t count → c < count → g ≡ group_at 2 second left → u ≡ share_at t c g → u ≤ 1024
inside-here t count second left c g u inside h ge ue = go (dec_lt second left)
  where
    go : Dec (second < left) → u ≤ 1024
    go (yes m) = rw (ue, ge, first_group t count 2 second left m) (inside.first c h)
    go (no m) = rw (ue, ge, later-group t count 2 second left (omega arith)) (inside.second c h)

-- ---- the code's step
module _ (t : List ℕ) (count second l c : ℕ) (p q : List ℤ) (g u gap n : ℕ) (gg : g ≡ group_at 2 second (suc l)) (ue : u ≡ share_at t c g)
    (ge : gap ≡ gap_at second (suc l)) (all : of_group second (suc l) * gap_at second (suc l) ≤ n) (slid : Slid p u gap n q) where
  agrees : Boxed second l (boxed (second + 1) q) (step (term_of t (group_at 2 second (suc l)) c).argument (boxed (second + 1) p))
  agrees i j a b d = go (dec_lt second (suc l))
    where
      go : Dec (second < suc l) → boxed (second + 1) q i j ≡ step (term_of t (group_at 2 second (suc l)) c).argument (boxed (second + 1) p) i j
      go (yes m) =
          let k : group_at 2 second (suc l) ≡ 2 = first_group t count 2 second (suc l) m in
          let w : gap ≡ second + 1 = ge ∙ gap-first second (suc l) m in
          let v : u ≡ share_at t c 2 = ue ∙ ap (share_at t c) (gg ∙ k) in
          let o : suc l - second ≡ suc (l - second) = omega arith in
          let x : suc (l - second) * (second + 1) ≤ n = rw (first-of t count 2 second (suc l) m, gap-first second (suc l) m, o) at all in
          let inside : i * (second + 1) + j < n = omega (arith, suc-mul (l - second) (second + 1), mul-le-mul_right (second + 1) a) in
          rw (k, argument-u t c) (slid-u p q (share_at t c 2) (second + 1) n (rw (v, w) at slid) i j inside)
      go (no m) =
          let k : suc l ≤ second = omega arith in
          let h : group_at 2 second (suc l) ≡ 3 = later-group t count 2 second (suc l) k in
          let w : gap ≡ 1 = ge ∙ gap-later second (suc l) k in
          let v : u ≡ share_at t c 3 = ue ∙ ap (share_at t c) (gg ∙ h) in
          let x : suc l * 1 ≤ n = rw (later_of t count 2 second (suc l) k, gap-later second (suc l) k) at all in
          let z : i ≡ 0 = omega arith in
          rw (h, argument-v t c, z) (slid-v p q (share_at t c 3) (second + 1) n (rw (v, w) at slid) j (omega arith))

  pub box-same : (start began s w R : ℕ) → owing t count 2 second l start began s w (boxed (second + 1) q) R
      ≡ owing t count 2 second l start began s w (step (term_of t (group_at 2 second (suc l)) c).argument (boxed (second + 1) p)) R
  box-same start began s w R = box-reads t count second l start began s w _ _ agrees R

-- ---- the last argument leaves one number
pub box-corner : (gap : ℕ) (v : ℤ) → v ≡ boxed gap (v ∷ []) 0 0
unfolding boxed
box-corner gap v = let z : 0 * gap + 0 ≡ 0 = omega arith in rw z

pub last-same : (t : List ℕ) (count second c : ℕ) (a b v : ℤ) (g u : ℕ) → g ≡ group_at 2 second 1 → u ≡ share_at t c g → u ≤ 1024 → v ≡ between u a b
    → (start began s w R : ℕ) → owing t count 2 second 0 start began s w (boxed (second + 1) (v ∷ [])) R
    ≡ owing t count 2 second 0 start began s w (step (term_of t (group_at 2 second 1) c).argument (boxed (second + 1) (a ∷ b ∷ []))) R
unfolding front
last-same t count second c a b v g u ge ue few e =
    box-same t count second 0 c (a ∷ b ∷ []) (v ∷ []) g u 1 1 ge ue (gap-one second) (size-one second)
    (rw e (front-slid (a ∷ b ∷ []) u 1 1 1 0 few (omega arith)))
