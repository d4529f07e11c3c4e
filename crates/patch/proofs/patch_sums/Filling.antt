-- A table of a patch's terms under way: a term that is stored is its domain point, and the terms before it stay. Assumes nothing.
use mathlib.Core.Path.{◌≡◌, refl, ◌∙◌, ap}
use mathlib.Core.List.{List}
use Prim.Native.Nat.{ℕ, zero, suc, ◌+◌, ◌*◌, ◌^◌, ◌≤◌, ◌<◌}
use native.Mathlib.Nat.{le_trans, one-le-pow, pow-suc, pow-le-pow_right}
use native.Mathlib.Omega.{arith}
use lib.IntN.{ℤ, pos, nat_abs}
use lib.ListN.{length, get_or}
use lib.Seq.{sets, length-sets}
use Rattle.whole.specs.Choose.{choose}
use Rattle.whole.proofs.Binomial.{choose-zero, choose-none, choose-pascal}
use Rattle.sums.specs.Filled.{term_numbers}
use Rattle.sums.proofs.Filling.{sets-before, sets-at}
use Rattle.patch_net.specs.Patch.{index_at}
use Rattle.patch_net.specs.Composed.{multinomial}
use Rattle.patch_walk.specs.PatchTerms.{key_of}
use Rattle.patch.specs.patch_sums.Contract.{PointAt}

-- a binomial of a row up to the ninth
choose-power : (n k : ℕ) → choose n k ≤ 2 ^ n
choose-power n zero = rw (choose-zero n) (one-le-pow n 2 (omega arith))
choose-power zero (suc k) = rw (choose-none k) (omega arith)
choose-power (suc n) (suc k) = rw (choose-pascal n k, pow-suc 2 n) (omega (arith, choose-power n k, choose-power n (suc k)))

pub choose-few : (n k : ℕ) → n ≤ 9 → choose n k ≤ 2 ^ 9
choose-few n k h = le_trans (choose-power n k) (pow-le-pow_right {n = 2} (omega arith) h)

module _ (N : ℕ) (path : List ℤ) (t : List ℕ) (c : ℕ) (few : c < 10) (long : length t ≡ 40) (key weight a b : ℕ) where
  abbrev after : List ℕ
  after = sets t (4 * c) (term_numbers key weight a b)

  stored : (j k : ℕ) → j < 4 → k ≡ 4 * c + j → get_or after k 0 ≡ get_or (term_numbers key weight a b) j 0
  stored j k m e = ap (λ k. get_or after k 0) e ∙ sets-at (term_numbers key weight a b) t (4 * c) j (omega arith) m

  pub here : key ≡ key_of (index_at N c) → weight ≡ multinomial (index_at N c) → a ≡ nat_abs (get_or path (3 * c) (pos 0))
      → b ≡ nat_abs (get_or path (3 * c + 1) (pos 0)) → PointAt N path after c
  here ke we ae be = record {
    key = stored 0 (4 * c) (omega arith) (omega arith) ∙ ke;
    weight = stored 1 (4 * c + 1) (omega arith) refl ∙ we;
    first = stored 2 (4 * c + 2) (omega arith) refl ∙ ae;
    second = stored 3 (4 * c + 3) (omega arith) refl ∙ be;
  }

  pub still : (d : ℕ) → d < c → PointAt N path t d → PointAt N path after d
  still d m p = record {
    key = same (4 * d) (omega arith) ∙ p.key;
    weight = same (4 * d + 1) (omega arith) ∙ p.weight;
    first = same (4 * d + 2) (omega arith) ∙ p.first;
    second = same (4 * d + 3) (omega arith) ∙ p.second;
  }
    where
      same : (k : ℕ) → k < 4 * c → get_or after k 0 ≡ get_or t k 0
      same k m = sets-before (term_numbers key weight a b) t (4 * c) k m

  pub still-long : length after ≡ 40
  still-long = length-sets t (4 * c) (term_numbers key weight a b) ∙ long
