-- Sums, differences and products of f64 that are whole numbers are exact. An f64 that is a whole number is known by its sign and
-- its size (`HasValue x s n 1`): the operations see no more of it. A sum of two zeros of which both are negative is minus zero,
-- which is no whole number turned into f64: `Fine` rules that out. Over any format. Assumes nothing.
use Rattle.std.proofs.Common.{◌≡◌, ℕ, zero, suc, ◌+◌, ◌-◌, ◌*◌, ◌^◌, ◌<◌, ◌≤◌, Bool, true, false, cond, not, ◌&&◌, T, ltb, ℤ, pos, negsuc, ◌+ℤ◌, ◌-ℤ◌, ◌*ℤ◌, neg_ℤ, nat_abs, sym, refl, ap, ◌∙◌, subst, true≢false, le_trans, lt_irrefl, mul-le-mul_right, zero-lt-suc, mul_assoc, mul_comm, add-mul, mul-le-mul_left, mul-lt-mul_of_pos_right, mul-pos, lt_of_not-le, mul-one, not-le_of_lt, arith, ltb→lt, lt→ltb, nltb→le}
use mathlib.Core.Bool.{beq}
use native.Mathlib.Nat.{mul-sub}
use native.Mathlib.Nat.{mul-mul-mul_comm}
use lib.IntN.{sub_ℕ, neg_ℤ-+ℤ}
use lib.Ieee.{Float, nan, inf, fin, Format, prec, up, down, unlike, round, sum, add, sub, neg, mul, of_int}
use lib.Ieee.Fits.{down_pos}
use lib.Ieee.Exact.{HasValue}
use lib.Ieee.Back.{round_whole}
use lib.Ieee.Scale.{round_same}

-- ---- `sum`, `add` and `mul` see only the values
same_test : (x y : Bool) → (T x → T y) → (T y → T x) → x ≡ y
same_test true true f g = refl
same_test true false f g = absurd (f tt)
same_test false true f g = absurd (g tt)
same_test false false f g = refl

ltb-scale : (a b c : ℕ) → 0 < c → ltb (a * c) (b * c) ≡ ltb a b
ltb-scale a b c some =
    same_test (ltb (a * c) (b * c)) (ltb a b)
    (λ t. lt→ltb a b (lt_of_not-le (λ (h : b ≤ a). not-le_of_lt (ltb→lt (a * c) (b * c) t) (mul-le-mul_right c h))))
    (λ t. lt→ltb (a * c) (b * c) (mul-lt-mul_of_pos_right (ltb→lt a b t) some))

sub-scale : (a b c : ℕ) → (a * c - b * c) * 1 ≡ (a - b) * c
sub-scale a b c =
    mul-one (a * c - b * c)
    ∙ (λ i. mul_comm a c i - mul_comm b c i)
    ∙ sym (mul-sub c a b)
    ∙ mul_comm c (a - b)

sum-scale : (f : Format) (s : Bool) (a : ℕ) (t : Bool) (b c : ℕ) → 0 < c → sum f s (a * c) t (b * c) c ≡ sum f s a t b 1
unfolding sum
sum-scale f s a t b c some = λ i. cond (beq s t) (both i) (cond (ltb-scale a b c some i) (above i) (under i))
  where
    one : 0 < 1
    one = zero-lt-suc 0

    both : round f s (a * c + b * c) c ≡ round f s (a + b) 1
    both = round_same f s (a * c + b * c) c (a + b) 1 some one (mul-one (a * c + b * c) ∙ sym (add-mul a b c))

    above : round f t (b * c - a * c) c ≡ round f t (b - a) 1
    above = round_same f t (b * c - a * c) c (b - a) 1 some one (sub-scale b a c)

    under : round f (s && ltb (b * c) (a * c)) (a * c - b * c) c ≡ round f (s && ltb b a) (a - b) 1
    under =
        round_same f (s && ltb (b * c) (a * c)) (a * c - b * c) c (a - b) 1 some one (sub-scale a b c)
        ∙ ap (λ (v : Bool). round f (s && v) (a - b) 1) (ltb-scale b a c some)

-- a size over the common denominator
over : (m a : ℕ) (e d : ℤ) → m * up e * 1 ≡ a * down e → m * up e * down d ≡ a * (down e * down d)
over m a e d v = ap (λ (z : ℕ). z * down d) (sym (mul-one (m * up e)) ∙ v) ∙ mul_assoc a (down e) (down d)

add-val : (f : Format) (x y : Float) (s t : Bool) (a b : ℕ) → HasValue x s a 1 → HasValue y t b 1 → add f x y ≡ sum f s a t b 1
unfolding add
add-val f nan y s t a b v w = absurd v
add-val f (inf u) y s t a b v w = absurd v
add-val f (fin u m e) nan s t a b v w = absurd w
add-val f (fin u m e) (inf r) s t a b v w = absurd w
add-val f (fin u m e) (fin r n d) s t a b v w =
    let c = down e * down d in
    let q : n * up d * down e ≡ b * c = over n b d e w.1 ∙ ap (λ (z : ℕ). b * z) (mul_comm (down d) (down e)) in
    (λ i. sum f (v.0 i) (over m a e d v.1 i) (w.0 i) (q i) c) ∙ sum-scale f s a t b c (mul-pos (down_pos e) (down_pos d))

mul_val : (f : Format) (x y : Float) (s t : Bool) (a b : ℕ) → HasValue x s a 1 → HasValue y t b 1 → mul f x y ≡ round f (unlike s t) (a * b) 1
unfolding mul
mul_val f nan y s t a b v w = absurd v
mul_val f (inf u) y s t a b v w = absurd v
mul_val f (fin u m e) nan s t a b v w = absurd w
mul_val f (fin u m e) (inf r) s t a b v w = absurd w
mul_val f (fin u m e) (fin r n d) s t a b v w =
    let p : m * up e ≡ a * down e = sym (mul-one (m * up e)) ∙ v.1 in
    let q : n * up d ≡ b * down d = sym (mul-one (n * up d)) ∙ w.1 in
    let size = m * up e * (n * up d) in
    let c = down e * down d in
    (λ i. round f (unlike (v.0 i) (w.0 i)) size c)
    ∙ round_same f (unlike s t) size c (a * b) 1 (mul-pos (down_pos e) (down_pos d)) (zero-lt-suc 0)
    (mul-one size ∙ (λ i. p i * q i) ∙ mul-mul-mul_comm a (down e) b (down d))

-- ---- whole numbers as a sign and a size
abbrev signed : Bool → ℕ → ℤ
signed s n = cond s (neg_ℤ (pos n)) (pos n)

abbrev is_neg : ℤ → Bool
is_neg (pos n) = false
is_neg (negsuc n) = true

-- up to 2^53 an f64 is the whole number that it was turned from
pub int-val : (f : Format) (z : ℤ) → nat_abs z ≤ 2 ^ prec f → HasValue (of_int f z) (is_neg z) (nat_abs z) 1
unfolding of_int
int-val f (pos n) h = round_whole f false n h
int-val f (negsuc n) h = round_whole f true (suc n) h

neg-int : (f : Format) (n : ℕ) → 0 < n → of_int f (neg_ℤ (pos n)) ≡ round f true n 1
unfolding of_int
neg-int f zero h = absurd (lt_irrefl 0 h)
neg-int f (suc n) h = refl

-- the f64 of a − b
sub-int : (f : Format) (a b : ℕ) → of_int f (sub_ℕ a b) ≡ cond (ltb a b) (round f true (b - a) 1) (round f false (a - b) 1)
unfolding of_int
sub-int f a b = go (ltb a b) (ltb→lt a b)
  where
    pred-sub : a < b → suc (b - suc a) ≡ b - a
    pred-sub h = omega arith

    go : (x : Bool) → (T x → a < b) → of_int f (cond x (negsuc (b - suc a)) (pos (a - b))) ≡ cond x (round f true (b - a) 1) (round f false (a - b) 1)
    go true h = ap (λ (n : ℕ). round f true n 1) (pred-sub (h tt))
    go false h = refl

-- sub_ℕ where nothing is cut off
sub-pos : (a b : ℕ) → b ≤ a → sub_ℕ a b ≡ pos (a - b)
sub-pos a b l = go (ltb a b) (ltb→lt a b)
  where
    go : (x : Bool) → (T x → a < b) → cond x (negsuc (b - suc a)) (pos (a - b)) ≡ pos (a - b)
    go true h = let less : a < b = h tt in absurd (omega arith)
    go false h = refl

sub-zero : (a : ℕ) → pos a ≡ sub_ℕ a 0
sub-zero a = let e : a ≡ a - 0 = omega arith in ap pos e ∙ sym (sub-pos a 0 (omega arith))

add-neg : (a b : ℕ) → pos a +ℤ neg_ℤ (pos b) ≡ sub_ℕ a b
add-neg a zero = let e : a + 0 ≡ a = omega arith in ap pos e ∙ sub-zero a
add-neg a (suc b) = refl

neg-add : (a b : ℕ) → neg_ℤ (pos a) +ℤ pos b ≡ sub_ℕ b a
neg-add zero b = let e : 0 + b ≡ b = omega arith in ap pos e ∙ sub-zero b
neg-add (suc a) b = refl

-- ---- the sum
abbrev Fine : Bool → Bool → ℕ → Type 0
Fine true true n = 0 < n
Fine true false n = Unit
Fine false t n = Unit

sum-int : (f : Format) (s t : Bool) (a b : ℕ) → Fine s t (a + b) → sum f s a t b 1 ≡ of_int f (signed s a +ℤ signed t b)
unfolding sum
sum-int f true true a b h = sym (neg-int f (a + b) h) ∙ ap (of_int f) (neg_ℤ-+ℤ (pos a) (pos b))
sum-int f true false a b h =
    go (ltb a b) (ltb b a) (ltb→lt a b) (ltb→lt b a) (nltb→le a b) (nltb→le b a) ∙ sym (ap (of_int f) (neg-add a b) ∙ sub-int f b a)
  where
    level-off : a ≤ b → b ≤ a → a - b ≡ b - a
    level-off h k = omega arith

    go : (x y : Bool) → (T x → a < b) → (T y → b < a) → (T (not x) → b ≤ a) → (T (not y) → a ≤ b)
        → cond x (round f false (b - a) 1) (round f (true && y) (a - b) 1) ≡ cond y (round f true (a - b) 1) (round f false (b - a) 1)
    go true true p q r u = let l : a < b = p tt in let m : b < a = q tt in absurd (omega arith)
    go true false p q r u = refl
    go false true p q r u = refl
    go false false p q r u = ap (λ (n : ℕ). round f false n 1) (level-off (u tt) (r tt))
sum-int f false true a b h = sym (ap (of_int f) (add-neg a b) ∙ sub-int f a b)
sum-int f false false a b h = unfold of_int in refl

-- ---- the difference of two numbers that are not negative
neg-val : (x : Float) (s : Bool) (n : ℕ) → HasValue x s n 1 → HasValue (neg x) (not s) n 1
unfolding neg
neg-val nan s n v = absurd v
neg-val (inf t) s n v = absurd v
neg-val (fin t m e) s n v = (ap not v.0, v.1)

pub less : (a b : ℕ) → b ≤ a → pos a -ℤ pos b ≡ pos (a - b)
less a b l = add-neg a b ∙ sub-pos a b l

pub sub-exact : (f : Format) (a b : ℕ) → a ≤ 2 ^ prec f → b ≤ a → sub f (of_int f (pos a)) (of_int f (pos b)) ≡ of_int f (pos (a - b))
unfolding sub
sub-exact f a b h l =
    let from = int-val f (pos a) h in
    let taken = neg-val (of_int f (pos b)) false b (int-val f (pos b) (le_trans l h)) in
    add-val f (of_int f (pos a)) (neg (of_int f (pos b))) false true a b from taken
    ∙ sum-int f false true a b tt
    ∙ ap (of_int f) (less a b l)

-- ---- the product with a number that is not negative, and the sum of two such products
unlike-false : (s : Bool) → unlike false s ≡ s
unlike-false true = refl
unlike-false false = refl

signed_mul : (z : ℤ) (p : ℕ) → signed (is_neg z) (p * nat_abs z) ≡ pos p *ℤ z
signed_mul (pos n) p = refl
signed_mul (negsuc n) p = refl

-- p·z: minus zero where z is negative and p is 0
mul_small : (f : Format) (p : ℕ) (z : ℤ) → p ≤ 2 ^ prec f → nat_abs z ≤ 2 ^ prec f → p * nat_abs z ≤ 2 ^ prec f
    → HasValue (mul f (of_int f (pos p)) (of_int f z)) (is_neg z) (p * nat_abs z) 1
mul_small f p z hp hz h =
    let is : mul f (of_int f (pos p)) (of_int f z) ≡ round f (is_neg z) (p * nat_abs z) 1 =
    mul_val f (of_int f (pos p)) (of_int f z) false (is_neg z) p (nat_abs z) (int-val f (pos p) hp) (int-val f z hz)
    ∙ ap (λ (s : Bool). round f s (p * nat_abs z) 1) (unlike-false (is_neg z)) in
    subst (λ (x : Float). HasValue x (is_neg z) (p * nat_abs z) 1) (sym is) (round_whole f (is_neg z) (p * nat_abs z) h)

-- not both are minus zero: where both numbers are negative one of the weights is not 0
fine : (z y : ℤ) (p q : ℕ) → 0 < p + q → Fine (is_neg z) (is_neg y) (p * nat_abs z + q * nat_abs y)
fine (pos a) y p q h = tt
fine (negsuc a) (pos b) p q h = tt
fine (negsuc a) (negsuc b) p q h = omega (arith, mul-le-mul_left p (zero-lt-suc a), mul-le-mul_left q (zero-lt-suc b), h)

-- p·z + q·y, weights that are not both 0
pub record Weighed (f : Format) (p q : ℕ) (z y : ℤ) : Type 0 where
  pub some : 0 < p + q
  pub p_most : p ≤ 2 ^ prec f
  pub q_most : q ≤ 2 ^ prec f
  pub z_most : nat_abs z ≤ 2 ^ prec f
  pub y_most : nat_abs y ≤ 2 ^ prec f
  pub first_most : p * nat_abs z ≤ 2 ^ prec f
  pub second_most : q * nat_abs y ≤ 2 ^ prec f

pub weighed-exact : (f : Format) (p q : ℕ) (z y : ℤ) → Weighed f p q z y
    → add f (mul f (of_int f (pos p)) (of_int f z)) (mul f (of_int f (pos q)) (of_int f y)) ≡ of_int f (pos p *ℤ z +ℤ pos q *ℤ y)
weighed-exact f p q z y w =
    let a = p * nat_abs z in
    let b = q * nat_abs y in
    let first = mul_small f p z w.p_most w.z_most w.first_most in
    let second = mul_small f q y w.q_most w.y_most w.second_most in
    add-val f (mul f (of_int f (pos p)) (of_int f z)) (mul f (of_int f (pos q)) (of_int f y)) (is_neg z) (is_neg y) a b first second
    ∙ sum-int f (is_neg z) (is_neg y) a b (fine z y p q w.some)
    ∙ (λ i. of_int f (signed_mul z p i +ℤ signed_mul y q i))

-- ---- a whole number turned into f64 is never minus zero
pub not-minus-zero : (f : Format) (z : ℤ) → nat_abs z ≤ 2 ^ prec f → of_int f z ≡ fin true 0 (pos 0) → ⊥
not-minus-zero f (pos n) h e = true≢false (subst (λ (x : Float). HasValue x false n 1) e (int-val f (pos n) h)).0
not-minus-zero f (negsuc n) h e = none (subst (λ (x : Float). HasValue x true (suc n) 1) e (int-val f (negsuc n) h)).1
  where
    none : 0 ≡ suc n * 1 → ⊥
    none q = omega arith
