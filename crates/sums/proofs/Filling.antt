-- A table of terms under way: a term that is stored is its path point, and the terms before it stay. Assumes nothing.
use mathlib.Core.Path.{◌≡◌, refl, sym, ap, ◌∙◌}
use mathlib.Core.Bool.{Bool, true, false, cond}
use mathlib.Core.List.{List, [], ◌∷◌}
use Prim.Native.Nat.{ℕ, zero, suc, ◌+◌, ◌*◌, ◌≤◌, ◌<◌}
use native.Mathlib.Nat.{add-zero, add-suc, suc-add}
use native.Mathlib.Decide.{ℕ_discrete}
use native.Mathlib.Omega.{arith}
use lib.IntN.{ℤ, pos, nat_abs}
use lib.Dec.{ltb}
use lib.ListN.{length, get_or, set, length-set}
use lib.Seq.{sets, length-sets, get_or-set_same, get_or-set_other}
use borrow.Author.Tests.{le-ltb}
use Rattle.whole.specs.Choose.{choose}
use Rattle.request.specs.declared.Head.{Head}
use Rattle.request.specs.Head.{numbers}
use Rattle.request.specs.Refusal.{parameter_place}
use Rattle.request.proofs.Forms.{at-curve, at-tensor, at-triangle}
use Rattle.request.proofs.Bounds.{path-numbers}
use Rattle.net.specs.Net.{number_at}
use Rattle.sums.specs.Filled.{term_numbers, PointAt}

-- ---- a run of stores
pub sets-before : (v l : List ℕ) (i k : ℕ) → k < i → get_or (sets l i v) k 0 ≡ get_or l k 0
sets-before [] l i k h = refl
sets-before (a ∷ v) l i k h = sets-before v (set l i a) (suc i) k (omega arith) ∙ get_or-set_other l i k a 0 (λ e. omega arith)

pub sets-at : (v l : List ℕ) (i j : ℕ) → i + length v ≤ length l → j < length v → get_or (sets l i v) (i + j) 0 ≡ get_or v j 0
sets-at [] l i j h m = absurd (omega arith)
sets-at (a ∷ v) l i zero h m = rw (add-zero i) (sets-before v (set l i a) (suc i) i (omega arith) ∙ get_or-set_same l i a 0 (omega arith))
sets-at (a ∷ v) l i (suc j) h m = rw (add-suc i j, ← (suc-add i j)) (sets-at v (set l i a) (suc i) j (rw length-set (omega arith)) (omega arith))

-- as the code numbers the places
pub four-stores : (l : List ℕ) (k a b c d : ℕ) → set (set (set (set l k a) (k + 1) b) (k + 2) c) (k + 3) d ≡ sets l k (a ∷ b ∷ c ∷ d ∷ [])
four-stores l k a b c d =
    let one : k + 1 ≡ suc k = omega arith in
    let two : k + 2 ≡ suc (suc k) = omega arith in
    let three : k + 3 ≡ suc (suc (suc k)) = omega arith in
    rw (one, two, three)

-- how many numbers a point has, by its form
pub curve-numbers : (h : Head) → h.form ≡ 1 → 1 ≡ numbers h
unfolding numbers
curve-numbers h f = sym (at-curve h 1 2 3 f)

pub tensor-numbers : (h : Head) → h.form ≡ 2 → 2 ≡ numbers h
unfolding numbers
tensor-numbers h f = sym (at-tensor h 1 2 3 f)

pub triangle-numbers : (h : Head) → (h.form ≡ 1 → ⊥) → (h.form ≡ 2 → ⊥) → 3 ≡ numbers h
unfolding numbers
triangle-numbers h no1 no2 = sym (at-triangle h 1 2 3 no1 no2)

two-numbers : (h : Head) → (h.form ≡ 1 → ⊥) → 2 ≤ numbers h
two-numbers h no1 = go (ℕ_discrete h.form 2)
  where
    go : Dec (h.form ≡ 2) → 2 ≤ numbers h
    go (yes f) = omega (arith, tensor-numbers h f)
    go (no n) = omega (arith, triangle-numbers h no1 n)

module _ (h : Head) (path : List ℤ) (good : parameter_place path ≡ length path) (c per : ℕ) (pe : per ≡ numbers h) where
  -- the sizes that the code reads are the point's numbers
  first-is : (a : ℕ) → a ≡ nat_abs (get_or path (per * c) (pos 0)) → pos a ≡ number_at h path c 0
  unfolding number_at
  first-is a e =
      let k : per * c ≡ numbers h * c + 0 = rw pe (omega arith) in
      ap pos e ∙ sym (path-numbers path good (per * c)).size ∙ ap (λ n. get_or path n (pos 0)) k

  second_is : (b : ℕ) → b ≡ cond (ltb per 2) 0 (nat_abs (get_or path (per * c + 1) (pos 0))) → (h.form ≡ 1 → ⊥) → pos b ≡ number_at h path c 1
  unfolding number_at
  second_is b e no1 =
      let w : 2 ≤ per = rw pe (two-numbers h no1) in
      let f : b ≡ nat_abs (get_or path (per * c + 1) (pos 0)) = e ∙ rw (le-ltb per 2 w) in
      let k : per * c + 1 ≡ numbers h * c + 1 = rw pe in
      ap pos f ∙ sym (path-numbers path good (per * c + 1)).size ∙ ap (λ n. get_or path n (pos 0)) k

pub path-most : (path : List ℤ) → parameter_place path ≡ length path → (k a : ℕ) → a ≡ nat_abs (get_or path k (pos 0)) → a ≤ 1024
path-most path good k a e = rw e (path-numbers path good k).most

pub beside-most : (path : List ℤ) → parameter_place path ≡ length path → (per k b : ℕ) → b ≡ cond (ltb per 2) 0 (nat_abs (get_or path k (pos 0))) → b ≤ 1024
beside-most path good per k b e = rw e (go (ltb per 2))
  where
    go : (t : Bool) → cond t 0 (nat_abs (get_or path k (pos 0))) ≤ 1024
    go true = omega arith
    go false = (path-numbers path good k).most

module _ (h : Head) (path : List ℤ) (t : List ℕ) (c : ℕ) (few : c < 10) (long : length t ≡ 40) (weight a b : ℕ) where
  abbrev after : List ℕ
  after = sets t (4 * c) (term_numbers c weight a b)

  stored : (j k : ℕ) → j < 4 → k ≡ 4 * c + j → get_or after k 0 ≡ get_or (term_numbers c weight a b) j 0
  stored j k m e = ap (λ k. get_or after k 0) e ∙ sets-at (term_numbers c weight a b) t (4 * c) j (omega arith) m

  -- the term that is stored
  pub here : weight ≡ choose h.N c → parameter_place path ≡ length path → (per : ℕ) → per ≡ numbers h → a ≡ nat_abs (get_or path (per * c) (pos 0))
      → b ≡ cond (ltb per 2) 0 (nat_abs (get_or path (per * c + 1) (pos 0))) → PointAt h path after c
  here we good per pe ae be =
      let x = stored 2 (4 * c + 2) (omega arith) refl in
      let y = stored 3 (4 * c + 3) (omega arith) refl in record {
        key = stored 0 (4 * c) (omega arith) (omega arith);
        weight = stored 1 (4 * c + 1) (omega arith) refl ∙ we;
        first = ap pos x ∙ first-is h path good c per pe a ae;
        second = λ no1. ap pos y ∙ second_is h path good c per pe b be no1;
        first_most = rw x (path-most path good (per * c) a ae);
        second_most = rw y (beside-most path good per (per * c + 1) b be);
      }

  -- and those before it
  pub still : (d : ℕ) → d < c → PointAt h path t d → PointAt h path after d
  still d m p = record {
    key = same (4 * d) (omega arith) ∙ p.key;
    weight = same (4 * d + 1) (omega arith) ∙ p.weight;
    first = ap pos (same (4 * d + 2) (omega arith)) ∙ p.first;
    second = λ no1. ap pos (same (4 * d + 3) (omega arith)) ∙ p.second no1;
    first_most = rw (same (4 * d + 2) (omega arith)) p.first_most;
    second_most = rw (same (4 * d + 3) (omega arith)) p.second_most;
  }
    where
      same : (k : ℕ) → k < 4 * c → get_or after k 0 ≡ get_or t k 0
      same k m = sets-before (term_numbers c weight a b) t (4 * c) k m

  pub still-long : length after ≡ 40
  still-long = length-sets t (4 * c) (term_numbers c weight a b) ∙ long
