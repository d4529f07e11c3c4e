-- Multinomials: Pascal's rule for three, and Vandermonde's identity, by which the size of a sum over all choices is found. Assumes
-- nothing.
use mathlib.Core.Path.{◌≡◌, refl, sym, ◌∙◌, ap, ap₂}
use Prim.Native.Nat.{ℕ, zero, suc, ◌+◌, ◌*◌, ◌-◌, ◌<◌}
use native.Mathlib.Nat.{zero-add, add-zero, suc-add, add-suc, zero-mul, add-mul, mul-add}
use native.Mathlib.Decide.{dec_lt}
use native.Mathlib.Omega.{arith}
use lib.IntN.{ℤ, pos}
use Rattle.whole.specs.Sum.{sum_over}
use Rattle.whole.specs.Choose.{choose, choose_from}
use Rattle.whole.proofs.Ring.{◌⊕◌, ◌⊗◌, ⊗-assoc, pos-add, pos-mul}
use Rattle.whole.proofs.Sums.{sum-cong-on, sum-scale}
use Rattle.whole.proofs.Binomial.{choose-above, choose_from-zero, choose_from-pascal, weighed, weighed-zero, weighed-suc, weighed-cong, weighed-add}
use Rattle.patch_net.specs.Patch.{Index}
use Rattle.patch_net.specs.Composed.{multinomial, over_indices}
use Rattle.patch_net.proofs.Indices.{degree}

-- past both ends there is no way
none_before : (n s R : ℕ) → R < s → choose_from n s R ≡ 0
unfolding choose_from
none_before n zero R h = absurd (omega arith)
none_before n (suc s) zero h = refl
none_before n (suc s) (suc R) h = none_before n s R (omega arith)

none-past : (n s R : ℕ) → n < R - s → choose_from n s R ≡ 0
unfolding choose_from
none-past n zero R h = choose-above n R (omega arith)
none-past n (suc s) zero h = refl
none-past n (suc s) (suc R) h = none-past n s R (omega arith)

-- in how many ways n steps, each of i, j or k one more, lead from (i, j) to (I, J)
unfoldable pub ways : ℕ → ℕ → ℕ → ℕ → ℕ → ℕ
ways n i j I J = choose_from n i I * choose_from (n - (I - i)) j J

pub ways-pascal : (n i j I J : ℕ) → ways (suc n) i j I J ≡ ways n (suc i) j I J + (ways n i (suc j) I J + ways n i j I J)
unfolding ways
ways-pascal n i j I J =
    ap (λ x. x * choose_from (suc n - (I - i)) j J) (choose_from-pascal n i I) ∙ add-mul (choose_from n (suc i) I) (choose_from n i I) _
    ∙ ap₂ ◌+◌ (up (dec_lt i I)) (across (dec_lt n (I - i)))
  where
    up : Dec (i < I) → choose_from n (suc i) I * choose_from (suc n - (I - i)) j J ≡ choose_from n (suc i) I * choose_from (n - (I - suc i)) j J
    up (yes h) = let e : suc n - (I - i) ≡ n - (I - suc i) = omega arith in ap (λ m. choose_from n (suc i) I * choose_from m j J) e
    up (no h) = rw (none_before n (suc i) I (omega arith), zero-mul (choose_from (suc n - (I - i)) j J), zero-mul (choose_from (n - (I - suc i)) j J))

    across : Dec (n < I - i)
        → choose_from n i I * choose_from (suc n - (I - i)) j J
        ≡ choose_from n i I * choose_from (n - (I - i)) (suc j) J + choose_from n i I * choose_from (n - (I - i)) j J
    across (yes h) =
        rw (none-past n i I h)
        (zero-mul (choose_from (suc n - (I - i)) j J)
        ∙ sym (ap₂ ◌+◌ (zero-mul (choose_from (n - (I - i)) (suc j) J)) (zero-mul (choose_from (n - (I - i)) j J))))
    across (no h) =
        let e : suc n - (I - i) ≡ suc (n - (I - i)) = omega arith in
        ap (λ m. choose_from n i I * choose_from m j J) e ∙ ap (λ x. choose_from n i I * x) (choose_from-pascal (n - (I - i)) j J)
        ∙ mul-add (choose_from n i I) _ _

-- from the start they are the multinomial
pub ways-all : (n : ℕ) (t : Index) → degree t ≡ n → ways n 0 0 t.i t.j ≡ multinomial t
unfolding ways multinomial
ways-all n t h =
    let e : t.i + t.j + t.k ≡ n = omega arith in
    let f : t.j + t.k ≡ n - t.i = omega arith in
    let z : t.i - 0 ≡ t.i = omega arith in
    rw (e, f, z, choose_from-zero n t.i, choose_from-zero (n - t.i) t.j)

-- a sum weighed by multinomials is one weighed by binomials twice
pub twice-weighed : (N : ℕ) (H : ℕ → ℕ → ℤ)
    → over_indices N (λ t. pos (multinomial t) ⊗ H t.i t.j) ≡ weighed N (λ i rest. weighed rest (λ j k. H i j))
unfolding over_indices multinomial weighed
twice-weighed N H = sum-cong-on N _ _ line
  where
    one : (i rest j k : ℕ) → i + rest ≡ N → j + k ≡ rest
        → pos (choose (i + j + k) i * choose (j + k) j) ⊗ H i j ≡ pos (choose N i) ⊗ (pos (choose rest j) ⊗ H i j)
    one i rest j k h m =
        let e : i + j + k ≡ N = omega arith in
        rw (e, m, pos-mul (choose N i) (choose rest j)) (⊗-assoc (pos (choose N i)) (pos (choose rest j)) (H i j))

    line : (i rest : ℕ) → i + rest ≡ N
        → sum_over rest (λ j k. pos (choose (i + j + k) i * choose (j + k) j) ⊗ H i j) ≡ pos (choose N i) ⊗ sum_over rest (λ j k. pos (choose rest j) ⊗ H i j)
    line i rest h = sum-cong-on rest _ _ (λ j k m. one i rest j k h m) ∙ sum-scale rest (pos (choose N i)) _

-- Vandermonde's identity: N steps and then n
steps-join : (N n i j I J : ℕ) → weighed N (λ a rest. weighed rest (λ b k. pos (ways n (i + a) (j + b) I J))) ≡ pos (ways (N + n) i j I J)
steps-join zero n i j I J =
    weighed-zero (λ a rest. weighed rest (λ b k. pos (ways n (i + a) (j + b) I J))) ∙ weighed-zero (λ b k. pos (ways n (i + 0) (j + b) I J))
    ∙ rw (add-zero i, add-zero j, zero-add n)
steps-join (suc N) n i j I J =
    weighed-suc N (λ a rest. weighed rest (λ b k. pos (ways n (i + a) (j + b) I J)))
    ∙ ap₂ ◌⊕◌
    (weighed-cong N _ _ (λ a rest. weighed-cong rest _ _ (λ b k. ap (λ (x : ℕ). pos (ways n x (j + b) I J)) (add-suc i a ∙ sym (suc-add i a))))
    ∙ steps-join N n (suc i) j I J)
    (weighed-cong N _ _ (λ a rest. weighed-suc rest (λ b k. pos (ways n (i + a) (j + b) I J))) ∙ weighed-add N _ _
    ∙ ap₂ ◌⊕◌
    (weighed-cong N _ _ (λ a rest. weighed-cong rest _ _ (λ b k. ap (λ (x : ℕ). pos (ways n (i + a) x I J)) (add-suc j b ∙ sym (suc-add j b))))
    ∙ steps-join N n i (suc j) I J)
    (steps-join N n i j I J))
    ∙ rw (suc-add N n, ways-pascal (N + n) i j I J, pos-add (ways (N + n) (suc i) j I J), pos-add (ways (N + n) i (suc j) I J))

pub ways-join : (N n i j I J : ℕ) → over_indices N (λ t. pos (multinomial t) ⊗ pos (ways n (i + t.i) (j + t.j) I J)) ≡ pos (ways (N + n) i j I J)
ways-join N n i j I J = twice-weighed N (λ a b. pos (ways n (i + a) (j + b) I J)) ∙ steps-join N n i j I J
