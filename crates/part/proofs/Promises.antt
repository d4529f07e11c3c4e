-- What the card's contract promises, of every card that it allows: any two have the same number, place, count and bits; the test
-- that is the first to hold decides, and a refused record is all plus zero; the division by the binomial is exact; no place is ever
-- minus zero. Assumes nothing.
use mathlib.Core.Path.{◌≡◌, refl, sym, ap, ◌∙◌}
use mathlib.Core.Bool.{Bool, true, false, cond}
use mathlib.Core.List.{List, [], ◌∷◌, map}
use Prim.Native.Nat.{ℕ, zero, suc, ◌+◌, ◌*◌, ◌^◌, ◌≤◌, ◌<◌, zero-le}
use native.Mathlib.Nat.{le_trans}
use native.Mathlib.Decide.{dec_lt}
use native.Mathlib.Omega.{arith}
use lib.Dec.{T, ltb, lit≤}
use lib.IntN.{ℤ, pos, nat_abs, ◌*ℤ◌}
use lib.ListN.{length, get_or, drop}
use lib.Ieee.{Float, binary64, fits}
use borrow.Author.Tests.{lt-ltb, le-ltb, ltb-false}
use Rattle.whole.specs.Choose.{choose}
use Rattle.request.specs.Head.{by_form, degree, longest}
use Rattle.request.specs.Request.{Request}
use Rattle.request.specs.Cascade.{Test, refused, decided}
use Rattle.request.specs.Refusal.{not_value, not_parameter, value_place, parameter_place, accepted}
use Rattle.request.proofs.Bounds.{value-most, parameter-most}
use Rattle.request.proofs.Cascade.{Each, None, Decides, first-exact, decided-is, last_word}
use Rattle.net.specs.Composed.{numerator}
use Rattle.net.specs.Sizes.{Composable}
use Rattle.net.proofs.Bounds.{blossom-most}
use Rattle.net.proofs.Every.{Every, none, more}
use Rattle.floats.specs.Float.{bits}
use Rattle.floats.proofs.Bits.{same_bits, never-minus-zero}
use Rattle.part.specs.declared.Part.{Part}
use Rattle.part.specs.declared.Part.TheVariants.{Stay, Line}
use Rattle.part.specs.declared.Card.{Card}
use Rattle.part.specs.Part.{path_degree, head_of, request_of}
use Rattle.part.specs.Contract.{refusals, verdict, divided, bits_at, five, Shows, Carded}
use Rattle.part.specs.Choice.{choice_of}
use Rattle.part.proofs.Divided.{one_value, divided-blossom}

-- ---- determinacy, over bits
-- a card as a reader sees it
pub record Read : Type 0 where
  pub number : ℕ
  pub place : ℕ
  pub count : ℕ
  pub bits : List ℕ

unfoldable pub read_of : Card → Read
read_of card = record { number = card.number; place = card.place; count = card.count; bits = map bits card.numerators }

module _ (m : ℕ) (surface : List ℤ) (part : Part) where
  abbrev rq : Request
  rq = request_of m surface part

  pub any-two : (r s : Card) → Carded m surface part r → Carded m surface part s → read_of r ≡ read_of s
  unfolding read_of
  any-two r s a b =
      let p = a.shows in
      let q = b.shows in
      λ i. record {
        number = (p.number_is ∙ sym q.number_is) i;
        place = (p.place_is ∙ sym q.place_is) i;
        count = (p.count_is ∙ sym q.count_is) i;
        bits = (p.bits_are ∙ sym q.bits_are) i;
      }

  -- ---- refusals: the first test that holds decides
  pub refused-exactly : (t : Test) (card : Card) → Decides (refusals rq) t → Carded m surface part card
      → Shows rq (refused t.number t.place) card
  unfolding verdict decided
  refused-exactly t card d c = rw ((first-exact (refusals rq) t).1 d) at c.shows

  pub accepted-exactly : (card : Card) → None (refusals rq) → Carded m surface part card → Shows rq (accepted (head_of m part)) card
  unfolding verdict request_of
  accepted-exactly card n c = rw (last_word (refusals rq) (accepted (head_of m part)) n) at c.shows

  -- ---- the division is exact: the quotient times the binomial is the numerator
  pub divides : (R : ℕ) → R ≤ longest (head_of m part) → numerator rq R ≡ pos (choose (longest (head_of m part)) R) *ℤ divided rq R
  divides R h = one_value m surface part R h ∙ ap (λ z. pos (choose (longest (head_of m part)) R) *ℤ z) (sym (divided-blossom m surface part R h))

-- one for a stay, m + 1 for a line
pub counts : (m : ℕ) (part : Part) → longest (head_of m part) + 1 ≡ cond (ltb 0 (path_degree part)) (m + 1) 1
unfolding longest degree by_form head_of path_degree
counts m (Stay u) = omega arith
counts m (Line u v) = omega arith

-- ---- never minus zero
-- a value's choice takes points of the part, m of them
stay-points : (l : ℕ) → Every (λ c. c ≤ 0) (choice_of l 0)
unfolding choice_of
stay-points zero = none
stay-points (suc l) = more {a = cond (ltb 0 (suc l)) 0 1} (rw (lt-ltb 0 (suc l) (omega arith)) (omega arith)) (stay-points l)

line-points : (l R : ℕ) → Every (λ c. c ≤ 1) (choice_of l R)
unfolding choice_of
line-points zero R = none
line-points (suc l) R = more (either (ltb R (suc l))) (line-points l R)
  where
    either : (c : Bool) → cond c 0 1 ≤ 1
    either true = omega arith
    either false = omega arith

points : (m : ℕ) (part : Part) (R : ℕ) → R ≤ longest (head_of m part) → Every (λ c. c ≤ (head_of m part).N) (choice_of m R)
unfolding longest degree by_form head_of path_degree
points m (Stay u) R h = let e : R ≡ 0 = none_left m R h in rw e (stay-points m)
  where
    none_left : (m R : ℕ) → R ≤ m * 0 → R ≡ 0
    none_left m R h = omega arith
points m (Line u v) R h = line-points m R

long : (l R : ℕ) → length (choice_of l R) ≡ l
unfolding choice_of
long zero R = refl
long (suc l) R = ap suc (long l R)

five-read : (P : ℕ → Type 0) (f : ℕ → ℕ) → P 0 → ((R : ℕ) → P (f R)) → (R : ℕ) → P (get_or (five f) R 0)
unfolding five
five-read P f past each zero = each 0
five-read P f past each (suc zero) = each 1
five-read P f past each (suc (suc zero)) = each 2
five-read P f past each (suc (suc (suc zero))) = each 3
five-read P f past each (suc (suc (suc (suc zero)))) = each 4
five-read P f past each (suc (suc (suc (suc (suc R))))) = past

-- plus zero is not minus zero
plus : (n : ℕ) → n ≡ 0 → n ≡ 2 ^ 63 → ⊥
plus n e f = omega arith

module _ (m : ℕ) (surface : List ℤ) (part : Part) where
  -- what the card's tests leave
  composable : None (refusals (rq m surface part)) → Composable (rq m surface part)
  unfolding refusals Each not_value not_parameter request_of head_of
  composable n =
      let path = (rq m surface part).path in
      let value = ltb-false (value_place surface) (length surface) n.1.1.0 in
      let parameter = ltb-false (parameter_place path) (length path) n.1.1.1.0 in
      record {
        small = n.0;
        travels = omega (arith, value, value-most surface);
        good = record { numbers = omega (arith, parameter, parameter-most path); even = λ other. absurd (other refl) };
      }

  size : (R : ℕ) → None (refusals (rq m surface part)) → R ≤ longest (head_of m part) → nat_abs (divided (rq m surface part) R) ≤ 2 ^ 53
  unfolding request_of head_of degree by_form
  size R n h =
      rw (divided-blossom m surface part R h)
      (le_trans (blossom-most (rq m surface part) (composable n) (choice_of m R) (long m R) (points m part R h)) (lit≤ tt))

  unused : (count R : ℕ) → count ≤ R → bits_at (rq m surface part) count R ≡ 0
  unfolding bits_at
  unused count R h = rw (le-ltb R count h)

  place : None (refusals (rq m surface part)) → (count R : ℕ) → count ≡ longest (head_of m part) + 1
      → Dec (R < count) → bits_at (rq m surface part) count R ≡ 2 ^ 63 → ⊥
  unfolding bits_at
  place n count R e (yes less) f =
      never-minus-zero (divided (rq m surface part) R) (size R n (omega arith)) (rw (lt-ltb R count less) at f)
  place n count R e (no not-less) f = plus _ (unused count R (omega arith)) f

  -- no place of any card that the contract allows
  pub no-minus-zero : (card : Card) → Carded m surface part card → (R : ℕ) → get_or (map bits card.numerators) R 0 ≡ 2 ^ 63 → ⊥
  unfolding verdict refusals Each refused accepted request_of
  no-minus-zero card c R =
      rw c.shows.bits_are
      (five-read (λ n. n ≡ 2 ^ 63 → ⊥) (bits_at (rq m surface part) (verdict (rq m surface part)).count) (plus 0 refl)
      (decided-is (λ a. (R : ℕ) → bits_at (rq m surface part) a.count R ≡ 2 ^ 63 → ⊥) (refusals (rq m surface part)) (accepted (head_of m part))
      (none-used, (none-used, (none-used, (none-used, tt))))
      (λ n R. place n (longest (head_of m part) + 1) R refl (dec_lt R (longest (head_of m part) + 1))))
      R)
    where
      none-used : (R : ℕ) → bits_at (rq m surface part) 0 R ≡ 2 ^ 63 → ⊥
      none-used R e = plus _ (unused 0 R zero-le) e

-- ---- an f64 of the card is what its bits say: two lists that the format holds and whose bits are the same are the same
pub same-numerators : (l k : List Float) → Every (λ x. T (fits binary64 x)) l → Every (λ x. T (fits binary64 x)) k → map bits l ≡ map bits k → l ≡ k
same-numerators [] [] a b e = refl
same-numerators [] (y ∷ k) a b e = absurd (ends (length (map bits k)) (ap length e))
  where
    ends : (n : ℕ) → 0 ≡ suc n → ⊥
    ends n e = omega arith
same-numerators (x ∷ l) [] a b e = absurd (ends (length (map bits l)) (ap length e))
  where
    ends : (n : ℕ) → suc n ≡ 0 → ⊥
    ends n e = omega arith
same-numerators (x ∷ l) (y ∷ k) (more p a) (more q b) e =
    λ i. same_bits x y p q (ap (λ n. get_or n 0 0) e) i ∷ same-numerators l k a b (ap (drop 1) e) i
