-- The numerators at R, each times a^R·b^(L − R), add up to the blossom at the summed path points: a choice with sum R has
-- its factor a^R·b^(L − R) from its points, a^c·b^(N − c) from each. Assumes nothing.
use mathlib.Core.Path.{◌≡◌, refl, sym, ◌∙◌, ap}
use mathlib.Core.Bool.{Bool, true, false, cond}
use mathlib.Core.List.{List, [], ◌∷◌, map}
use Prim.Native.Nat.{ℕ, zero, suc, ◌+◌, ◌*◌, ◌-◌}
use native.Mathlib.Nat.{suc-mul}
use native.Mathlib.Omega.{arith}
use lib.Dec.{eqb, eqb-zero-suc, eqb-suc-zero, eqb-suc-suc}
use lib.IntN.{ℤ, pos, ◌*ℤ◌, pow}
use Rattle.whole.specs.Sum.{sum_over, sum_to}
use Rattle.whole.specs.Choose.{choose}
use Rattle.whole.proofs.Ring.{◌⊕◌, ◌⊗◌, mul-ac, one-⊗, ⊗-zero, zero-⊕, ⊕-zero, pos-mul, pow-zero, pow-add}
use Rattle.whole.proofs.Sums.{sum-zero, sum-suc, sum-cong, sum-cong-on, sum-add, sum-scale, sum-none}
use Rattle.net.specs.Net.{Net}
use Rattle.net.specs.Blossom.{Argument, blossom}
use Rattle.net.specs.Composed.{over_choices, total, weight}
use Rattle.net.proofs.Steps.{Weights, weights_of, taken, blossom-taken}
use Rattle.net.proofs.Evaluation.{Linear, all, all-linear, product, through, Evaluates}

-- of a sum in which one term alone counts, that term is left
pub sum-pick : (n t s : ℕ) (H : ℕ → ℕ → ℤ) → t + s ≡ n → sum_over n (λ R S. cond (eqb t R) (H R S) (pos 0)) ≡ H t s
sum-pick zero zero zero H e = sum-zero (λ R S. cond (eqb 0 R) (H R S) (pos 0))
sum-pick zero zero (suc s) H e = absurd (omega arith)
sum-pick zero (suc t) s H e = absurd (omega arith)
sum-pick (suc n) zero s H e =
    let whole : s ≡ suc n = omega arith in
    sum-suc n (λ R S. cond (eqb 0 R) (H R S) (pos 0))
    ∙ ap (λ x. H 0 (suc n) ⊕ x) (sum-cong n _ _ (λ R S. ap (λ c. cond c (H (suc R) S) (pos 0)) (eqb-zero-suc R)) ∙ sum-none n)
    ∙ ⊕-zero _ ∙ ap (H 0) (sym whole)
sum-pick (suc n) (suc t) s H e =
    sum-suc n (λ R S. cond (eqb (suc t) R) (H R S) (pos 0))
    ∙ ap (λ c. cond c (H 0 (suc n)) (pos 0) ⊕ sum_over n (λ R S. cond (eqb (suc t) (suc R)) (H (suc R) S) (pos 0))) (eqb-suc-zero t)
    ∙ zero-⊕ _ ∙ sum-cong n _ _ (λ R S. ap (λ c. cond c (H (suc R) S) (pos 0)) (eqb-suc-suc t R))
    ∙ sum-pick n t s (λ R S. H (suc R) S) (omega arith)

pub scale-cond : (x v : ℤ) (c : Bool) → x ⊗ cond c v (pos 0) ≡ cond c (x ⊗ v) (pos 0)
scale-cond x v true = refl
scale-cond x v false = ⊗-zero x

pub sum_to-linear : (N : ℕ) → Linear (sum_to N)
unfolding sum_to
sum_to-linear N = record { add = λ f g. sum-add N (λ i k. f i) (λ i k. g i); scale = λ c f. sum-scale N c (λ i k. f i) }

pub choices-all : (r N : ℕ) (F : List ℕ → ℤ) → over_choices r N F ≡ all (sum_to N) r F
unfolding over_choices all
choices-all zero N F = refl
choices-all (suc r) N F = λ t. sum_to N (λ c. choices-all r N (λ rest. F (c ∷ rest)) t)

-- what the chosen numbers leave of N, summed
left : ℕ → List ℕ → ℕ
left N [] = 0
left N (c ∷ rest) = (N - c) + left N rest

-- of the choices only this counts: the numbers and what they leave add up to r·N
choices-on : (r N : ℕ) (F G : List ℕ → ℤ) → ((c : List ℕ) → total c + left N c ≡ r * N → F c ≡ G c) → all (sum_to N) r F ≡ all (sum_to N) r G
unfolding all sum_to total left
choices-on zero N F G e = e [] (omega arith)
choices-on (suc r) N F G e =
    sum-cong-on N _ _ (λ c d h. choices-on r N (λ rest. F (c ∷ rest)) (λ rest. G (c ∷ rest)) (λ rest k. e (c ∷ rest) (omega (arith, suc-mul r N))))

-- the factor of point c: its binomial and its powers
unfoldable pub factor : ℕ → ℤ → ℤ → ℕ → ℤ
factor N a b c = pos (choose N c) ⊗ (pow a c ⊗ pow b (N - c))

product_is : (N : ℕ) (a b : ℤ) (c : List ℕ) → product (factor N a b) c ≡ pos (weight N c) ⊗ (pow a (total c) ⊗ pow b (left N c))
unfolding product factor weight total left
product_is N a b [] = rw (pow-zero a, pow-zero b, one-⊗, one-⊗)
product_is N a b (c ∷ rest) = rw (
  product_is N a b rest,
  pos-mul (choose N c) (weight N rest),
  pow-add a c (total rest),
  pow-add b (N - c)
      (left N rest),
) (simp mul-ac)

-- one choice stands in one numerator alone
picked : (N : ℕ) (a b : ℤ) (n : ℕ) (c : List ℕ) (v : ℤ) → total c + left N c ≡ n
    → sum_over n (λ R S. pow a R ⊗ pow b S ⊗ cond (eqb (total c) R) (pos (weight N c) ⊗ v) (pos 0)) ≡ product (factor N a b) c ⊗ v
picked N a b n c v h =
    sum-cong n _ _ (λ R S. scale-cond (pow a R ⊗ pow b S) (pos (weight N c) ⊗ v) (eqb (total c) R))
    ∙ sum-pick n (total c) (left N c) (λ R S. pow a R ⊗ pow b S ⊗ (pos (weight N c) ⊗ v)) h
    ∙ rw product_is (simp mul-ac)

-- the statement: the numerators of r arguments, read so off a choice, each times a^R·b^(L − R), add up to `read`
abbrev pub Reads : ℕ → ℤ → ℤ → Net → ℕ → (List ℕ → List Argument) → ℤ → Type 0
Reads N a b p r arguments read =
    sum_over (r * N) (λ R S. pow a R ⊗ pow b S ⊗ over_choices r N (λ c. cond (eqb (total c) R) (pos (weight N c) *ℤ blossom (arguments c) p) (pos 0))) ≡ read

pub numerators : (N : ℕ) (a b : ℤ) (p : Net) (r : ℕ) (arguments : List ℕ → List Argument) (ws : List Weights)
    → Evaluates (sum_to N) (factor N a b) r (λ c. map weights_of (arguments c)) ws → Reads N a b p r arguments (taken ws p)
unfolding ◌⊗◌
numerators N a b p r arguments ws evaluates =
    let line = all-linear (sum_to N) (sum_to-linear N) r in
    let value : List ℕ → ℤ = λ c. pos (weight N c) ⊗ blossom (arguments c) p in
    sum-cong (r * N) _ _ (λ R S. ap (λ x. pow a R ⊗ pow b S ⊗ x) (choices-all r N _) ∙ sym (line.scale (pow a R ⊗ pow b S) _))
    ∙ through (all (sum_to N) r) line (r * N) (λ R S c. pow a R ⊗ pow b S ⊗ cond (eqb (total c) R) (value c) (pos 0))
    ∙ choices-on r N _ _ (λ c h. picked N a b (r * N) c _ h ∙ ap (λ x. product (factor N a b) c ⊗ x) (blossom-taken (arguments c) p))
    ∙ evaluates p
