-- Form 3: the triangle that a step of the code makes owes what the argument's step owes. Assumes nothing.
use mathlib.Core.Path.{◌≡◌, refl}
use mathlib.Core.List.{List, [], ◌∷◌}
use Prim.Native.Nat.{ℕ, suc, ◌+◌, ◌-◌, ◌≤◌, ◌<◌}
use native.Mathlib.Omega.{arith}
use lib.IntN.{ℤ, pos}
use lib.ListN.{drop}
use Rattle.net.specs.Net.{Net}
use Rattle.net.specs.Blossom.{within, step}
use Rattle.net.proofs.runs.Reach.{Agree}
use Rattle.sums.specs.steps.Layout.{before, spot, held, diagonal, further}
use Rattle.sums.specs.steps.Stepped.{among, Lowered}
use Rattle.sums.proofs.steps.Fronts.{front}
use Rattle.sums.proofs.steps.Triangles.{front-lowered, tri-step}
use Rattle.sums.specs.gather.Table.{share_at, argument_of, term_of, terms_of}
use Rattle.sums.specs.gather.Owed.{group_at, of_group, read_at, owing}
use Rattle.sums.proofs.gather.Turn.{owed-reads}
use Rattle.sums.proofs.gather.Grouped.{first_group, first-of, of-most, read-reads}

argument-xyz : (t : List ℕ) (c : ℕ) → (term_of t 0 c).argument ≡ within (pos (share_at t c 2)) (pos (share_at t c 3)) (pos (1024 - share_at t c 2 - share_at t c 3))
unfolding term_of argument_of
argument-xyz t c = refl

-- all arguments are of one group
pub all_of : (t : List ℕ) (count left : ℕ) → 0 < left → left ≡ of_group 0 left
all_of t count left h = rw (first-of t count 0 0 left h) (omega arith)

-- what is owed depends on as much of the net as the arguments read
pub triangle-reads : (t : List ℕ) (count left from begun s weight : ℕ) (p q : Net) → Agree left p q
    → (R : ℕ) → owing t count 0 0 left from begun s weight p R ≡ owing t count 0 0 left from begun s weight q R
triangle-reads t count left from begun s weight p q h =
    owed-reads (read_at t count 0 left) (left - of_group 0 left) (read-reads t count 0 0 left) (drop from (terms_of t count (group_at 0 0 left))) weight
    (of_group 0 left) begun s p q
    (λ i j m. h i j (omega (arith, of-most t count 0 0 left)))

module _ (t : List ℕ) (count l c : ℕ) (p q : List ℤ) (x y : ℕ) (few : l ≤ 3) (xe : x ≡ share_at t c 2) (ye : y ≡ share_at t c 3)
    (low : Lowered p x y (suc l) q) where
  agrees : Agree l (held q) (step (term_of t (group_at 0 0 (suc l)) c).argument (held p))
  agrees i j m =
      rw (first_group t count 0 0 (suc l) (omega arith), argument-xyz t c)
      (tri-step p q (share_at t c 2) (share_at t c 3) (suc l) (omega arith) (rw (xe, ye) at low) i j (omega arith))

  pub triangle-same : (start began s w R : ℕ) → owing t count 0 0 l start began s w (held q) R
      ≡ owing t count 0 0 l start began s w (step (term_of t (group_at 0 0 (suc l)) c).argument (held p)) R
  triangle-same start began s w R = triangle-reads t count l start began s w _ _ agrees R

-- ---- the last argument leaves one number
pub triangle-corner : (v : ℤ) → v ≡ held (v ∷ []) 0 0
unfolding held spot before
triangle-corner v = refl

pub last-same : (t : List ℕ) (count c : ℕ) (a b d v : ℤ) (x y : ℕ) → x ≡ share_at t c 2 → y ≡ share_at t c 3 → x + y ≤ 1024 → v ≡ among x y a b d
    → (start began s w R : ℕ) → owing t count 0 0 0 start began s w (held (v ∷ [])) R
    ≡ owing t count 0 0 0 start began s w (step (term_of t (group_at 0 0 1) c).argument (held (a ∷ b ∷ d ∷ []))) R
unfolding front before further diagonal
last-same t count c a b d v x y xe ye few e =
    triangle-same t count 0 c (a ∷ b ∷ d ∷ []) (v ∷ []) x y (omega arith) xe ye (rw e (front-lowered (a ∷ b ∷ d ∷ []) x y 1 0 few))
