-- Demand 3 over the definitions: at every moment k/q the curve drawn with the rounded points is within half a unit of the
-- surface at the path's place, one statement for all three forms. It needs nothing of acceptance and holds of every
-- request. Assumes nothing.
use mathlib.Core.Path.{◌≡◌, sym, ◌∙◌, subst}
use mathlib.Core.Bool.{Bool, true, false, cond}
use mathlib.Core.List.{List}
use Prim.Native.Nat.{ℕ, ◌+◌, ◌*◌, ◌^◌, ◌≤◌, ◌<◌}
use native.Mathlib.Nat.{mul-pos, one-le-pow}
use native.Mathlib.Omega.{arith}
use lib.Dec.{eqb}
use lib.IntN.{ℤ, pos, nat_abs, pow, ◌+ℤ◌, ◌*ℤ◌, ◌-ℤ◌}
use lib.ListN.{get_or}
use Rattle.whole.specs.Sum.{sum_over}
use Rattle.whole.specs.Choose.{choose}
use Rattle.whole.proofs.Ring.{◌⊕◌, ◌⊖◌, ◌⊗◌, pos-mul, pow_pos}
use Rattle.whole.proofs.Rounding.{nearest-error}
use Rattle.request.specs.declared.Head.{Head}
use Rattle.request.specs.Head.{by_form, degree, longest}
use Rattle.request.specs.Request.{Request}
use Rattle.net.specs.Net.{net_of, path_number}
use Rattle.net.specs.Blossom.{Argument}
use Rattle.net.specs.Composed.{arguments, numerator, denominator, point}
use Rattle.net.specs.Reading.{bernstein, drawn, coordinate, scale, surface_read}
use Rattle.net.proofs.Bernstein.{bernstein-cong-on}
use Rattle.net.proofs.Powers.{Reads}
use Rattle.net.proofs.PathPlace.{curve, tensor, triangle, balanced}
use Rattle.net.proofs.Rounded.{choose-some, parts-of, within_half}

-- what is so of all three forms is so of the form that a request has
of-form : (h : Head) (P : ℕ → (List ℕ → List Argument) → ℤ → Type 0) {r s t : ℕ} {f g k : List ℕ → List Argument} {x y z : ℤ}
    → P r f x → P s g y → P t k z → P (by_form h r s t) (λ c. by_form h (f c) (g c) (k c)) (by_form h x y z)
unfolding by_form
of-form h P {r} {s} {t} {f} {g} {k} {x} {y} {z} one two three = go (eqb h.form 1) (eqb h.form 2)
  where
    go : (a b : Bool) → P (cond a r (cond b s t)) (λ c. cond a (f c) (cond b (g c) (k c))) (cond a x (cond b y z))
    go true b = one
    go false true = two
    go false false = three

scale-is : (rq : Request) (k q : ℕ) → pos 1024 ⊗ pow (pos k ⊕ (pos q ⊖ pos k)) rq.head.N ≡ scale rq q
unfolding scale
scale-is rq k q = rw (parts-of k q, pow_pos q rq.head.N) (sym (pos-mul 1024 (q ^ rq.head.N)))

-- the numerators, each times k^R·(q − k)^(L − R), add up to the surface at the path's place
pub numerators-read : (rq : Request) (k q : ℕ)
    → sum_over (longest rq.head) (λ R S. pow (pos k) R ⊗ pow (pos q -ℤ pos k) S ⊗ numerator rq R) ≡ surface_read rq k q
unfolding longest degree numerator arguments surface_read coordinate ◌⊖◌
numerators-read rq k q =
    let one = scale-is rq k q in
    of-form rq.head (Reads rq.head.N (pos k) (pos q -ℤ pos k) (net_of rq))
    (curve _ _ _ _ (path_number rq) _ one rq.head.first)
    (tensor _ _ _ _ (path_number rq) _ one rq.head.first rq.head.second)
    (triangle _ _ _ _ (path_number rq) _ one rq.head.first)

denominator-some : (rq : Request) (R S : ℕ) → R + S ≡ longest rq.head → 0 < denominator rq R
unfolding denominator
denominator-some rq R S h = mul-pos (subst (λ L. 0 < choose L R) h (choose-some R S)) (one-le-pow (degree rq.head) 1024 (omega arith))

pub moment : (rq : Request) (k q : ℕ) → k ≤ q
    → nat_abs (pos 2 *ℤ (pos (1024 ^ degree rq.head) *ℤ bernstein (longest rq.head) (pos k) (pos q -ℤ pos k) (point rq) -ℤ surface_read rq k q))
    ≤ 1024 ^ degree rq.head * q ^ longest rq.head
unfolding point denominator
moment rq k q h =
    rw (numerators-read rq k q) at (within_half (longest rq.head) (1024 ^ degree rq.head) k q (point rq) (numerator rq) h
    (λ R S e. nearest-error (numerator rq R) (denominator rq R) (denominator-some rq R S e)))

-- the curve drawn with an array is the curve of its first L + 1 places
pub drawn-is : (L : ℕ) (points : List ℤ) (k q : ℕ) (P : ℕ → ℤ) → ((R : ℕ) → R ≤ L → get_or points R (pos 0) ≡ P R)
    → drawn L points k q ≡ bernstein L (pos k) (pos q -ℤ pos k) P
unfolding drawn
drawn-is L points k q P e = bernstein-cong-on L (pos k) (pos q -ℤ pos k) _ P e

-- form 3: where the numbers of every point add up to 1024, those of the path's place add up to the scale
pub place-balanced : (rq : Request) (k q : ℕ)
    → ((c : ℕ) → c ≤ rq.head.N → path_number rq c 0 +ℤ path_number rq c 1 +ℤ path_number rq c 2 ≡ pos 1024)
    → coordinate rq 0 k q +ℤ coordinate rq 1 k q +ℤ coordinate rq 2 k q ≡ scale rq q
unfolding coordinate ◌⊕◌ ◌⊖◌
place-balanced rq k q each = balanced rq.head.N (pos k) (pos q -ℤ pos k) (path_number rq) each ∙ scale-is rq k q
