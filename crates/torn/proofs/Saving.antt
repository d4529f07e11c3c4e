-- The salvage as a relation, which has one way only; what is kept is whole pairs that pass the test; and a file of such pairs is
-- kept whole. Assumes nothing.
use mathlib.Core.Path.{◌≡◌, refl, ap, ◌∙◌}
use mathlib.Core.Bool.{Bool, true, false}
use mathlib.Core.List.{List, [], ◌∷◌, map}
use Prim.Native.Nat.{ℕ, zero, suc, ◌≤◌}
use native.Mathlib.Omega.{arith}
use lib.ListN.{length}
use Rattle.wire.specs.Start.{behind}
use Rattle.pairs.specs.Cut.{Pair, starts_pair, pair_in}
use Rattle.pairs.proofs.Cutting.{both, not-both-ways, nothing, shorter, Cuts, end, next}
use Rattle.torn.specs.Salvage.{answered, good, Mark, keeps, skips, salvage_in, salvage, kept_pairs, every}
use Rattle.torn.proofs.Joining.{AllWhole, none, more, pair-whole}

module _ (most : ℕ) (door : List ℕ → List ℕ) where
  pub good-both : (w : List ℕ) → good most door w ≡ true → (starts_pair most w ≡ true) × (answered door (pair_in w) ≡ true)
  unfolding good
  good-both w e = both (starts_pair most w) (answered door (pair_in w)) e

  pub good-is : (w : List ℕ) → starts_pair most w ≡ true → good most door w ≡ answered door (pair_in w)
  unfolding good
  good-is w e = rw e

  pub good_none : (w : List ℕ) → starts_pair most w ≡ false → good most door w ≡ false
  unfolding good
  good_none w e = rw e

-- ---- one way only

pub data Saves (most : ℕ) (door : List ℕ → List ℕ) : List ℕ → List Mark → Type 0 where
  over : Saves most door [] []
  keep : {w : List ℕ} {marks : List Mark} → good most door w ≡ true → Saves most door (behind (behind w)) marks
      → Saves most door w (keeps (pair_in w) ∷ marks)
  skip : {b : ℕ} {s : List ℕ} {marks : List Mark} → good most door (b ∷ s) ≡ false → Saves most door s marks
      → Saves most door (b ∷ s) (skips b ∷ marks)

module _ (most : ℕ) (door : List ℕ → List ℕ) where
  saves-in : (turns : ℕ) (w : List ℕ) → length w ≤ turns → Saves most door w (salvage_in most door turns w)
  unfolding salvage_in
  saves-in zero [] l = over
  saves-in zero (b ∷ s) l = absurd (omega arith)
  saves-in (suc turns) [] l = over
  saves-in (suc turns) (b ∷ s) l =
      by (good most door (b ∷ s)) refl (saves-in turns (behind (behind (b ∷ s)))) (saves-in turns s (omega arith))
    where
      by : (t : Bool) → good most door (b ∷ s) ≡ t → (length (behind (behind (b ∷ s))) ≤ turns
          → Saves most door (behind (behind (b ∷ s))) (salvage_in most door turns (behind (behind (b ∷ s)))))
          → Saves most door s (salvage_in most door turns s) → Saves most door (b ∷ s) (salvage_in most door (suc turns) (b ∷ s))
      by true e f g = rw e (keep e (f (omega (arith, shorter most (b ∷ s) (good-both most door (b ∷ s) e).0))))
      by false e f g = rw e (skip e g)

  pub saves : (w : List ℕ) → Saves most door w (salvage most door w)
  unfolding salvage
  saves w = saves-in (length w) w (omega arith)

  good-nothing : good most door [] ≡ false
  good-nothing = good_none most door [] (nothing most)

  pub same-saves : {w : List ℕ} {m n : List Mark} → Saves most door w m → Saves most door w n → m ≡ n
  same-saves over over = refl
  same-saves over (keep e s) = absurd (not-both-ways e good-nothing)
  same-saves (keep e s) over = absurd (not-both-ways e good-nothing)
  same-saves {w = w} (keep e s) (keep f t) = ap (λ (l : List Mark). keeps (pair_in w) ∷ l) (same-saves s t)
  same-saves (keep e s) (skip f t) = absurd (not-both-ways e f)
  same-saves (skip e s) (keep f t) = absurd (not-both-ways f e)
  same-saves (skip {b = b} e s) (skip f t) = ap (λ (l : List Mark). skips b ∷ l) (same-saves s t)

  pub saved-as : {w : List ℕ} {m : List Mark} → Saves most door w m → salvage most door w ≡ m
  saved-as {w} s = same-saves (saves w) s

-- ---- what is kept

module _ {most : ℕ} {door : List ℕ → List ℕ} where
  pub kept_whole : {w : List ℕ} {m : List Mark} → Saves most door w m → AllWhole most (kept_pairs m)
  unfolding kept_pairs
  kept_whole over = none
  kept_whole {w} (keep e s) = more (pair-whole most w (good-both most door w e).0) (kept_whole s)
  kept_whole (skip e s) = kept_whole s

  pub kept-answered : {w : List ℕ} {m : List Mark} → Saves most door w m → every (answered door) (kept_pairs m) ≡ true
  unfolding kept_pairs every
  kept-answered over = refl
  kept-answered {w} (keep e s) = rw ((good-both most door w e).1, kept-answered s)
  kept-answered (skip e s) = kept-answered s

  -- a file of whole pairs that all pass
  pub all-kept : {w : List ℕ} {pairs : List Pair} {left : List ℕ} → Cuts most w pairs left → left ≡ []
      → every (answered door) pairs ≡ true → Saves most door w (map keeps pairs)
  unfolding every
  all-kept {w} (end e) z q = rw z over
  all-kept {w} (next {pairs = pairs} e c) z q =
      let v = both (answered door (pair_in w)) (every (answered door) pairs) q in
      keep (good-is most door w e ∙ v.0) (all-kept c z v.1)

pub keeps-only : (pairs : List Pair) → kept_pairs (map keeps pairs) ≡ pairs
unfolding kept_pairs
keeps-only [] = refl
keeps-only (pair ∷ pairs) = ap (λ (l : List Pair). pair ∷ l) (keeps-only pairs)
