-- The entries of the tree are those of document 001's formula 8 (rule Counting). Assumes nothing.
use mathlib.Core.Path.{◌≡◌, refl, sym, ap₂}
use mathlib.Core.List.{List, [], ◌∷◌}
use lib.ListN.{length}
use Prim.Native.Nat.{ℕ, zero, suc, ◌+◌, ◌-◌}
use native.Mathlib.Nat.{add-zero, zero-add}
use native.Mathlib.Omega.{arith}
use Rattle.whole.specs.Choose.{choose}
use Rattle.whole.proofs.Binomial.{choose-zero, choose-pascal, choose-sym}
use Rattle.net.specs.runs.Tree.{tree, size, entries, formed}

pub entries-are : (K r c g : ℕ) → entries K (tree r c g) + choose (r + K) r ≡ choose (r + g + K) r
unfolding tree entries size
entries-are K zero c g = rw (choose-zero (0 + K), choose-zero (0 + g + K))
entries-are K (suc r) c zero = rw (add-zero (suc r), zero-add)
entries-are K (suc r) c (suc g) =
    let further = entries-are K r c (suc g) in
    let others = entries-are K (suc r) (suc c) g in
    let same : choose (r + K) K ≡ choose (r + K) r = sym (choose-sym (r + K) r K refl) in
    let a : r + suc g + K ≡ suc r + g + K = omega arith in
    let b : suc r + suc g + K ≡ suc (suc r + g + K) = omega arith in
    rw (b, choose-pascal (suc r + g + K) r, same) (omega (arith, rw a at further, others))

pub entries-count : (K r c g : ℕ) → entries K (tree r c g) ≡ choose (r + g + K) r - choose (r + K) r
entries-count K r c g = omega (arith, entries-are K r c g)

pub worked : (entries 1 (tree 3 0 3) ≡ 31) × (entries 2 (tree 4 0 4) ≡ 195) × ((K g : ℕ) → entries K (tree 0 0 g) ≡ 0)
unfolding tree entries size choose
worked = (refl, refl, λ K g. refl)

-- the walk forms the tree's nets and no others
pub formed-entries : {A : Type 0} (K : ℕ) (T : List A) (left c : ℕ) → formed K T left ≡ entries K (tree left c (length T))
unfolding formed tree entries
formed-entries K T zero c = refl
formed-entries K [] (suc left) c = refl
formed-entries K (t ∷ T) (suc left) c = ap₂ (λ x y. size K left + x + y) (formed-entries K (t ∷ T) left c) (formed-entries K T (suc left) (suc c))
