-- One pair more in the fold is one pair more in the sheet; so the fold of the pairs is their sheet. Assumes nothing.
use mathlib.Core.Path.{◌≡◌, refl, sym, ap, ◌∙◌}
use mathlib.Core.Bool.{Bool, true, false, not, ◌&&◌, ◌||◌, false≢true}
use mathlib.Core.List.{List, [], ◌∷◌, ◌++◌, append_assoc, append-nil}
use Prim.Native.Nat.{ℕ, zero, suc, ◌+◌, ◌≤◌, ◌<◌}
use native.Mathlib.Nat.{zero-add, add-zero}
use native.Mathlib.Omega.{arith}
use lib.Dec.{eqb, ltb}
use lib.IntN.{ℤ}
use lib.ListN.{get_or, set}
use borrow.Author.Tests.{eq-eqb, ne_eqb, lt-ltb, ltb-false}
use Rattle.wire.specs.Start.{kind_field}
use Rattle.replies.specs.Reply.{reply_kind}
use Rattle.pairs.specs.Cut.{Pair}
use Rattle.feed.specs.Feed.{capped, folded, how_many}
use Rattle.feed.proofs.Reading.{folded-is, how-many-more}
use Rattle.day.specs.declared.sheets.Span.{Span}
use Rattle.day.specs.declared.sheets.Sheet.{Sheet}
use Rattle.day.specs.sheets.Sheet.{in_turn, number_of, greatest, is_odd, points_in, odd_pair, of_number, points_of, points}
use Rattle.day.specs.sheets.Sheet.{widened, widened_all, no_span, sheet_of}
use Rattle.day.specs.sheets.Fold.{counted_up, with_reply, adds, no_sheet}

-- ---- a count, one pair more

module _ (test : Pair → Bool) (pairs : List Pair) (p : Pair) where
  counted : test p ≡ true → capped (capped (how_many test pairs) + 1) ≡ capped (how_many test (pairs ++ p ∷ []))
  counted e = rw (how-many-more test pairs p, e) (omega arith)

  same : test p ≡ false → capped (how_many test pairs) ≡ capped (how_many test (pairs ++ p ∷ []))
  same e = rw (how-many-more test pairs p, e) (rw add-zero)

-- ---- places of a list that is written in turn

turn-same : (f g : ℕ → ℕ) (k n : ℕ) → ((i : ℕ) → f i ≡ g i) → in_turn f k n ≡ in_turn g k n
unfolding in_turn
turn-same f g k zero e = refl
turn-same f g k (suc n) e = rw (e k, turn-same f g (suc k) n e)

-- place i is changed, and it alone
turn-set : (f g : ℕ → ℕ) (k n i v : ℕ) → v ≡ g (k + i) → ((j : ℕ) → (j ≡ k + i → ⊥) → f j ≡ g j)
    → set (in_turn f k n) i v ≡ in_turn g k n
unfolding in_turn
turn-set f g k zero i v e o = refl
turn-set f g k (suc n) zero v e o = rw (e, add-zero, later n (suc k) (omega arith))
  where
    later : (n m : ℕ) → k < m → in_turn f m n ≡ in_turn g m n
    later zero m l = refl
    later (suc n) m l = rw (o m (λ (q : m ≡ k + 0). omega arith), later n (suc m) (omega arith))
turn-set f g k (suc n) (suc i) v e o =
    let at : k + suc i ≡ suc k + i = omega arith in
    rw (
      o k (λ (q : k ≡ k + suc i). omega arith),
      turn-set f g (suc k) n i v (rw at at e) (λ (j : ℕ) (d : j ≡ suc k + i → ⊥). o j (λ (q : j ≡ k + suc i). d (omega arith))),
    )

turn-get : (f : ℕ → ℕ) (k n i : ℕ) → i < n → get_or (in_turn f k n) i 0 ≡ f (k + i)
unfolding in_turn
turn-get f k zero i l = absurd (omega arith)
turn-get f k (suc n) zero l = ap f (sym (add-zero k))
turn-get f k (suc n) (suc i) l = let at : k + suc i ≡ suc k + i = omega arith in rw at (turn-get f (suc k) n i (omega arith))

-- ---- points, one pair more

widened-all : (s : Span) (a b : List ℤ) → widened_all (widened_all s a) b ≡ widened_all s (a ++ b)
unfolding widened_all
widened-all s [] b = refl
widened-all s (z ∷ a) b = widened-all (widened s z) a b

points-more : (pairs : List Pair) (p : Pair) → points (pairs ++ p ∷ []) ≡ points pairs ++ points_of p
unfolding points
points-more [] p = append-nil (points_of p)
points-more (q ∷ pairs) p =
    ap (λ (l : List ℤ). points_of q ++ l) (points-more pairs p) ∙ sym (append_assoc (points_of q) (points pairs) (points_of p))

-- ---- a reply that is not odd has a number up to 10

neither : (a b : Bool) → (a || b) ≡ false → (a ≡ false) × (b ≡ false)
neither true b e = absurd (false≢true (sym e))
neither false b e = (refl, e)

small : (reply : List ℕ) → is_odd reply ≡ false → number_of reply < suc greatest
unfolding is_odd
small reply e =
    let number = (neither (not (eqb (kind_field reply) reply_kind)) _ e).1 in
    let l : number_of reply ≤ 10 = ltb-false 10 (number_of reply) (neither (ltb 10 (number_of reply)) _ number).0 in
    omega arith

-- a test that an odd reply never passes
none_of : (odd test : Bool) → odd ≡ true → (not odd && test) ≡ false
none_of true test e = refl
none_of false test e = absurd (false≢true e)

its_own : (odd test : Bool) → odd ≡ false → (not odd && test) ≡ test
its_own true test e = absurd (false≢true (sym e))
its_own false test e = refl

-- ---- the sheet, one pair more

abbrev sheet : ℕ → List ℕ → Span → Sheet
sheet odd refusals span = record { odd = odd; refusals = refusals; span = span }

sheets : {a b : ℕ} {l m : List ℕ} {s t : Span} → a ≡ b → l ≡ m → s ≡ t → sheet a l s ≡ sheet b m t
sheets e f g = rw (e, f, g)

module _ (pairs : List Pair) (p : Pair) where
  -- how often a number occurs, before and now
  abbrev before : ℕ → ℕ
  before n = capped (how_many (of_number n) pairs)

  abbrev after : ℕ → ℕ
  after n = capped (how_many (of_number n) (pairs ++ p ∷ []))

  -- an odd reply is of no number, another one of its own
  number-none : is_odd p.reply ≡ true → (n : ℕ) → of_number n p ≡ false
  unfolding of_number
  number-none e n = none_of (is_odd p.reply) (eqb (number_of p.reply) n) e

  number-own : is_odd p.reply ≡ false → (n : ℕ) → of_number n p ≡ eqb (number_of p.reply) n
  unfolding of_number
  number-own e n = its_own (is_odd p.reply) (eqb (number_of p.reply) n) e

  span_is : (zs : List ℤ) → points_of p ≡ zs → widened_all (widened_all no_span (points pairs)) zs ≡ widened_all no_span (points (pairs ++ p ∷ []))
  span_is zs e =
      widened-all no_span (points pairs) zs
      ∙ ap (λ (l : List ℤ). widened_all no_span (points pairs ++ l)) (sym e)
      ∙ ap (widened_all no_span) (sym (points-more pairs p))

  odd-more : is_odd p.reply ≡ true → adds (sheet_of pairs) p ≡ sheet_of (pairs ++ p ∷ [])
  unfolding adds with_reply sheet_of odd_pair points_of widened_all
  odd-more e =
      rw e
      (sheets (counted odd_pair pairs p e)
      (turn-same before after 0 (suc greatest) (λ n. same (of_number n) pairs p (number-none e n)))
      (span_is [] (rw e)))

  even-more : is_odd p.reply ≡ false → adds (sheet_of pairs) p ≡ sheet_of (pairs ++ p ∷ [])
  unfolding adds with_reply counted_up sheet_of odd_pair points_of
  even-more e =
      let n = number_of p.reply in
      let own : of_number n p ≡ true = number-own e n ∙ eq-eqb n n refl in
      let others : (k : ℕ) → (k ≡ n → ⊥) → before k ≡ after k =
      λ k d. same (of_number k) pairs p (number-own e k ∙ ne_eqb n k (λ q. d (sym q))) in
      rw (e, lt-ltb n (suc greatest) (small p.reply e), turn-get before 0 (suc greatest) n (small p.reply e), zero-add)
      (sheets (same odd_pair pairs p e)
      (turn-set before after 0 (suc greatest) n _ (rw zero-add (counted (of_number n) pairs p own)) (λ k d. others k (λ q. d (rw zero-add q))))
      (span_is (points_in p.reply) (rw e)))

  sheet-more : adds (sheet_of pairs) p ≡ sheet_of (pairs ++ p ∷ [])
  sheet-more = by (is_odd p.reply) refl
    where
      by : (t : Bool) → is_odd p.reply ≡ t → adds (sheet_of pairs) p ≡ sheet_of (pairs ++ p ∷ [])
      by true e = odd-more e
      by false e = even-more e

no_pairs : sheet_of [] ≡ no_sheet
unfolding sheet_of how_many points widened_all in_turn
no_pairs = refl

pub folded-sheet : (pairs : List Pair) → folded adds no_sheet pairs ≡ sheet_of pairs
folded-sheet pairs = ap (λ (s : Sheet). folded adds s pairs) (sym no_pairs) ∙ folded-is adds sheet_of sheet-more pairs
