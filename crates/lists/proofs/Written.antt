-- "The first L+1 places of each are written": what stands afterwards at a place below the count. Assumes nothing.
use mathlib.Core.Path.{◌≡◌, refl, ap, ◌∙◌}
use mathlib.Core.List.{List, [], ◌∷◌, ◌++◌, append_assoc}
use Prim.Native.Nat.{ℕ, zero, suc, ◌+◌, ◌-◌, ◌≤◌, ◌<◌, suc-le-suc}
use native.Mathlib.Nat.{le_of_suc-le-suc, not-suc-le-zero}
use native.Mathlib.Numerals.{add-one}
use native.Mathlib.Omega.{arith}
use lib.ListN.{length, get_or, drop, set, length-append, length-drop}
use lib.Seq.{drop-cons, set_at, get_or-append-add, get_or-drop}
use Rattle.lists.specs.Lists.{list_below, afterwards}

pub below_at {ℓ} : {A : Type ℓ} (n : ℕ) (f : ℕ → A) (tail : List A) (i : ℕ) (d : A) → i < n → get_or (list_below n f ++ tail) i d ≡ f i
unfolding list_below
below_at zero f tail i d h = absurd (not-suc-le-zero h)
below_at (suc n) f tail zero d h = refl
below_at (suc n) f tail (suc i) d h = below_at n (λ k. f (suc k)) tail i d (le_of_suc-le-suc h)

pub afterwards-at {ℓ} : {A : Type ℓ} (count : ℕ) (f : ℕ → A) (lent : List A) (i : ℕ) (d : A) → i < count → get_or (afterwards count f lent) i d ≡ f i
unfolding afterwards
afterwards-at count f lent i d h = below_at count f _ i d h

-- the places below a number, one more at the end
below_last {ℓ} : {A : Type ℓ} (n : ℕ) (f : ℕ → A) → list_below (suc n) f ≡ list_below n f ++ (f n ∷ [])
unfolding list_below
below_last zero f = refl
below_last (suc n) f = ap (λ l. f 0 ∷ l) (below_last n (λ k. f (suc k)))

pub below_length {ℓ} : {A : Type ℓ} (n : ℕ) (f : ℕ → A) → length (list_below n f) ≡ n
unfolding list_below
below_length zero f = refl
below_length (suc n) f = ap suc (below_length n (λ k. f (suc k)))

-- nothing is written yet
pub afterwards-none {ℓ} : {A : Type ℓ} (f : ℕ → A) (lent : List A) → afterwards 0 f lent ≡ lent
unfolding afterwards list_below
afterwards-none f lent = refl

-- one more place is written
pub afterwards-more : {A : Type 0} (k : ℕ) (f : ℕ → A) (lent : List A) (v : A) → k < length lent → v ≡ f k
    → set (afterwards k f lent) k v ≡ afterwards (k + 1) f lent
unfolding afterwards
afterwards-more k f lent v m e =
    rw (add-one k, e, drop-cons lent k v m, below_last k f, append_assoc)
    (set_at (list_below k f) (get_or lent k v) (drop (suc k) lent) (f k) k (below_length k f))

pub afterwards-length {ℓ} : {A : Type ℓ} (k : ℕ) (f : ℕ → A) (lent : List A) → k ≤ length lent → length (afterwards k f lent) ≡ length lent
unfolding afterwards
afterwards-length k f lent m = rw (length-append, below_length k f, length-drop) (omega arith)

-- what is written is all that counts
below-same {ℓ} : {A : Type ℓ} (n : ℕ) (f g : ℕ → A) → ((i : ℕ) → i < n → f i ≡ g i) → list_below n f ≡ list_below n g
unfolding list_below
below-same zero f g e = refl
below-same (suc n) f g e = rw (e 0 (omega arith)) (ap (λ l. g 0 ∷ l) (below-same n (λ k. f (suc k)) (λ k. g (suc k)) (λ i m. e (suc i) (suc-le-suc m))))

pub afterwards-same {ℓ} : {A : Type ℓ} (k : ℕ) (f g : ℕ → A) (lent : List A) → ((i : ℕ) → i < k → f i ≡ g i) → afterwards k f lent ≡ afterwards k g lent
unfolding afterwards
afterwards-same k f g lent e = ap (λ l. l ++ drop k lent) (below-same k f g e)

-- a place past what is written stays
pub afterwards-past {ℓ} : {A : Type ℓ} (k : ℕ) (f : ℕ → A) (lent : List A) (i : ℕ) (d : A) → k ≤ i → get_or (afterwards k f lent) i d ≡ get_or lent i d
unfolding afterwards
afterwards-past k f lent i d m =
    let e : i ≡ length (list_below k f) + (i - k) = omega (arith, below_length k f) in
    let g : k + (i - k) ≡ i = omega arith in
    ap (λ n. get_or (list_below k f ++ drop k lent) n d) e ∙ get_or-append-add (list_below k f) (drop k lent) (i - k) d ∙ get_or-drop k lent (i - k) d ∙ ap
    (λ n. get_or lent n d) g
