-- What VALUE leaves of a surface and of its mirror image, and what PARAMETER and BALANCE leave of a path: each number is a
-- natural number, at most 1024. Assumes nothing.
use mathlib.Core.Path.{◌≡◌, sym, ◌∙◌, ap, subst}
use mathlib.Core.List.{List, map}
use mathlib.Core.Bool.{false, not}
use Prim.Native.Nat.{ℕ, ◌+◌, ◌*◌, ◌≤◌, ◌<◌}
use native.Mathlib.Decide.{dec_lt}
use native.Mathlib.Omega.{arith}
use lib.IntN.{ℤ, pos, neg_ℤ, nat_abs, ◌+ℤ◌}
use lib.Dec.{eqb}
use lib.ListN.{length, get_or, length-map, get_or-map, get_or-eq_default}
use Rattle.request.specs.units.Bounds.{beyond_travel, beyond_path, path_one, most}
use Rattle.request.proofs.units.Within.{IsPath, path-within, zero-within, travel-within, within-travel, beyond-neg}
use Rattle.request.specs.Refusal.{least, value_place, parameter_place, balance_place, uneven, is_number}
use Rattle.request.proofs.Least.{least-none, least-before, least-le}

-- whatever holds of 0 and of each number of a list holds of what is read anywhere
read-anywhere : (P : ℤ → Type 0) (l : List ℤ) → P (pos 0) → ((k : ℕ) → k < length l → P (get_or l k (pos 0))) → (k : ℕ) → P (get_or l k (pos 0))
read-anywhere P l none each k = go (dec_lt k (length l))
  where
    go : Dec (k < length l) → P (get_or l k (pos 0))
    go (yes m) = each k m
    go (no m) = subst P (sym (get_or-eq_default l (pos 0) (omega arith))) none

pub parameter-most : (path : List ℤ) → parameter_place path ≤ length path
unfolding parameter_place
parameter-most path = least-le (length path) (λ k. beyond_path (get_or path k (pos 0)))

pub path-numbers : (path : List ℤ) → parameter_place path ≡ length path → (k : ℕ) → IsPath (get_or path k (pos 0))
unfolding parameter_place
path-numbers path e =
    let within = least-before (length path) (λ k. beyond_path (get_or path k (pos 0))) in
    read-anywhere IsPath path zero-within (λ k m. path-within _ (within k (rw e m)))

pub travels : (surface : List ℤ) → value_place surface ≡ length surface → (k : ℕ) → nat_abs (get_or surface k (pos 0)) ≤ most
unfolding value_place
travels surface e =
    let within = least-before (length surface) (λ k. beyond_travel (get_or surface k (pos 0))) in
    read-anywhere (λ z. nat_abs z ≤ most) surface (omega arith) (λ k m. travel-within _ (within k (rw e m)))

-- the sizes of a point's numbers add up as the numbers do
pub uneven-is : (path : List ℤ) (c : ℕ) → parameter_place path ≡ length path
    → uneven path c ≡ not (eqb (nat_abs (get_or path (3 * c) (pos 0)) + nat_abs (get_or path (3 * c + 1) (pos 0)) + nat_abs (get_or path (3 * c + 2) (pos 0))) path_one)
unfolding uneven is_number
uneven-is path c e = ap not (sums _ _ _ (path-numbers path e (3 * c)) (path-numbers path e (3 * c + 1)) (path-numbers path e (3 * c + 2)))
  where
    sums : (x y z : ℤ) → IsPath x → IsPath y → IsPath z → is_number (x +ℤ y +ℤ z) path_one ≡ eqb (nat_abs x + nat_abs y + nat_abs z) path_one
    sums x y z p q r = rw (p.size, q.size, r.size)

-- where no point is uneven, each of them is even
pub even-points : (path : List ℤ) (N : ℕ) → balance_place path N ≡ N + 1 → (c : ℕ) → c ≤ N → uneven path c ≡ false
unfolding balance_place
even-points path N e c m = least-before (N + 1) (uneven path) c (rw e (omega arith))

pub value-most : (surface : List ℤ) → value_place surface ≤ length surface
unfolding value_place
value-most surface = least-le (length surface) (λ k. beyond_travel (get_or surface k (pos 0)))

-- and back: where every number is a travel there is no such place
pub all-travels : (surface : List ℤ) → ((k : ℕ) → k < length surface → nat_abs (get_or surface k (pos 0)) ≤ most) → value_place surface ≡ length surface
unfolding value_place
all-travels surface each = least-none (length surface) (λ k. beyond_travel (get_or surface k (pos 0))) (λ k m. within-travel _ (each k m))

-- a mirrored surface has the same place
pub value-mirrored : (surface : List ℤ) → value_place (map neg_ℤ surface) ≡ value_place surface
unfolding value_place
value-mirrored surface =
    ap (λ n. least n (λ k. beyond_travel (get_or (map neg_ℤ surface) k (pos 0)))) (length-map surface neg_ℤ)
    ∙ (λ t. least (length surface) (λ k. (ap beyond_travel (get_or-map neg_ℤ surface k (pos 0)) ∙ beyond-neg (get_or surface k (pos 0))) t))

pub balance-most : (path : List ℤ) (N : ℕ) → balance_place path N ≤ N + 1
unfolding balance_place
balance-most path N = least-le (N + 1) (uneven path)
