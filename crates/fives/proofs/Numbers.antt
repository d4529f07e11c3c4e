-- Laws of the five numbers: one pair more, and so the fold of all pairs; calls are those that are the same and those that
-- differ; and a trace of fewer than 2^64 bytes has its numbers as they are. Assumes nothing.
use mathlib.Core.Path.{◌≡◌, refl, sym, ap, ◌∙◌}
use mathlib.Core.Bool.{Bool, true, false, not, cond}
use mathlib.Core.List.{List, [], ◌∷◌, ◌++◌}
use Prim.Native.Nat.{ℕ, zero, suc, ◌+◌, ◌^◌, ◌≤◌, ◌<◌}
use native.Mathlib.Nat.{add-zero}
use native.Mathlib.Omega.{arith}
use lib.Dec.{eqb, eqb-suc-zero}
use lib.ListN.{length, length-append}
use borrow.Author.Tests.{eqb-true, eq-eqb, ne_eqb}
use Rattle.fives.specs.declared.Tally.{Tally}
use Rattle.feed.specs.Feed.{capped, folded, how_many}
use Rattle.pairs.specs.Cut.{Pair, cut}
use Rattle.fives.specs.Replay.{same_bytes, agrees, differs, first_from, five, capped_five}
use Rattle.fives.specs.Count.{tally_of, counted, counts, no_pairs}
use Rattle.feed.proofs.Reading.{folded-is, how-many-more}
use Rattle.pairs.proofs.Cutting.{both, Cuts, end, next, cuts, shorter}

-- ---- byte for byte

pub same_bytes_lem : (s t : List ℕ) → same_bytes s t ≡ true → s ≡ t
unfolding same_bytes
same_bytes_lem [] [] e = refl
same_bytes_lem [] (b ∷ t) e = let never : ◌≡◌ {A = ℕ} 0 1 = cc in absurd (omega arith)
same_bytes_lem (a ∷ s) [] e = let never : ◌≡◌ {A = ℕ} 0 1 = cc in absurd (omega arith)
same_bytes_lem (a ∷ s) (b ∷ t) e =
    let w = both (eqb a b) (same_bytes s t) e in
    let q = eqb-true a b w.0 in
    let r = same_bytes_lem s t w.1 in
    cc

pub bytes_same : (s : List ℕ) → same_bytes s s ≡ true
unfolding same_bytes
bytes_same [] = refl
bytes_same (a ∷ s) = rw (eq-eqb a a refl, bytes_same s)

-- ---- one pair more

-- the number of the first, where there was none before and one comes as number n
abbrev first_with : Bool → ℕ → ℕ → ℕ
first_with test f n = cond test (cond (eqb f 0) n f) f

first_more : (k : ℕ) (test : Pair → Bool) (pairs : List Pair) (p : Pair)
    → first_from (suc k) test (pairs ++ p ∷ []) ≡ first_with (test p) (first_from (suc k) test pairs) (suc k + length pairs)
unfolding first_from
first_more k test [] p = ap (λ (n : ℕ). cond (test p) n 0) (sym (add-zero (suc k)))
first_more k test (q ∷ pairs) p = by (test q) (test p) _ _ _ (first_more (suc k) test pairs p)
  where
    by : (t u : Bool) (f g n : ℕ) → g ≡ first_with u f (suc (suc k) + n)
        → cond t (suc k) g ≡ first_with u (cond t (suc k) f) (suc k + suc n)
    by true true f g n e = rw (eqb-suc-zero k)
    by true false f g n e = refl
    by false u f g n e = e ∙ ap (first_with u f) (omega arith)

abbrev tally : ℕ → ℕ → ℕ → ℕ → Tally
tally calls same differ first = record { calls = capped calls; same = capped same; differ = capped differ; first = capped first }

again : (n : ℕ) → capped (capped n + 1) ≡ capped (n + 1)
again n = omega arith

first-again : (f n : ℕ) → cond (eqb (capped f) 0) (capped (capped n + 1)) (capped f) ≡ capped (cond (eqb f 0) (1 + n) f)
first-again zero n = omega arith
first-again (suc f) n = let z : eqb (capped (suc f)) 0 ≡ false =
    ne_eqb (capped (suc f)) 0 (λ (e : capped (suc f) ≡ 0). omega arith) in rw (z, eqb-suc-zero f)

count-more : (agree : Bool) (calls same differ first : ℕ)
    → counted (tally calls same differ first) agree ≡ tally (calls + 1) (same + cond agree 1 0) (differ + cond (not agree) 1 0)
    (first_with (not agree) first (1 + calls))
unfolding counted
count-more true calls same differ first = rw (again calls, again same, add-zero)
count-more false calls same differ first = rw (first-again first calls, again calls, again differ, add-zero)

differs-is : (door : List ℕ → List ℕ) (p : Pair) → differs door p ≡ not (agrees door p)
unfolding differs
differs-is door p = refl

tally-more : (door : List ℕ → List ℕ) (pairs : List Pair) (p : Pair)
    → counted (tally_of door pairs) (agrees door p) ≡ tally_of door (pairs ++ p ∷ [])
unfolding tally_of
tally-more door pairs p =
    rw (
      length-append,
      how-many-more (agrees door) pairs p,
      how-many-more (differs door) pairs p,
      first_more 0
          (differs door) pairs p,
      differs-is door p,
    )
    (count-more (agrees door p) _ _ _ _)

-- the fold of the pairs
pub counts_is : (door : List ℕ → List ℕ) (t : Tally) (p : Pair) → counted t (agrees door p) ≡ counts door t p
unfolding counts
counts_is door t p = refl

no_pairs_lem : (door : List ℕ → List ℕ) → no_pairs ≡ tally_of door []
unfolding tally_of how_many first_from
no_pairs_lem door = refl

pub folded-tally : (door : List ℕ → List ℕ) (ps : List Pair) → folded (counts door) no_pairs ps ≡ tally_of door ps
folded-tally door ps =
    ap (λ (t : Tally). folded (counts door) t ps) (no_pairs_lem door)
    ∙ folded-is (counts door) (tally_of door) (λ qs p. sym (counts_is door _ p) ∙ tally-more door qs p) ps

-- ---- what the numbers say

-- the calls are those that are the same and those that differ
pub calls-split : (door : List ℕ → List ℕ) (pairs : List Pair)
    → how_many (agrees door) pairs + how_many (differs door) pairs ≡ length pairs
unfolding how_many
calls-split door [] = refl
calls-split door (p ∷ pairs) = rw (differs-is door p) (by (agrees door p) _ _ _ (calls-split door pairs))
  where
    by : (t : Bool) (m n k : ℕ) → m + n ≡ k → cond t (suc m) m + cond (not t) (suc n) n ≡ suc k
    by true m n k e = omega arith
    by false m n k e = omega arith

-- `first` is never beyond the calls
first-within : (k : ℕ) (test : Pair → Bool) (pairs : List Pair) → first_from (suc k) test pairs ≤ k + length pairs
unfolding first_from
first-within k test [] = omega arith
first-within k test (p ∷ pairs) = by (test p) _ (first-within (suc k) test pairs)
  where
    by : (t : Bool) (f : ℕ) → f ≤ suc k + length pairs → cond t (suc k) f ≤ k + suc (length pairs)
    by true f l = omega arith
    by false f l = omega arith

-- ---- numbers of 64 bits

within : {most : ℕ} {bytes : List ℕ} {pairs : List Pair} {left : List ℕ} → Cuts most bytes pairs left
    → length pairs + length left ≤ length bytes
within (end e) = omega arith
within {most} {bytes} (next e c) = omega (arith, within c, shorter most bytes e)

fits : (n : ℕ) → n < 2 ^ 64 → capped n ≡ n
fits n l = omega arith

pub exact : (most : ℕ) (door : List ℕ → List ℕ) (bytes : List ℕ) → length bytes < 2 ^ 64
    → capped_five (five most door bytes) ≡ five most door bytes
unfolding five capped_five
exact most door bytes l =
    let pairs = (cut most bytes).pairs in
    let w = within (cuts most bytes) in
    let s = calls-split door pairs in
    rw (
      fits (length pairs) (omega arith),
      fits (how_many (agrees door) pairs) (omega arith),
      fits
          (how_many (differs door) pairs) (omega arith),
      fits (first_from 1 (differs door) pairs)
          (omega (arith, first-within 0 (differs door) pairs)),
      fits (length (cut most bytes).left) (omega arith),
    )
