-- The entries that are formed, turn by turn. Assumes nothing.
use mathlib.Core.Path.{◌≡◌, refl, sym, ◌∙◌, ap}
use mathlib.Core.Bool.{Bool, cond}
use mathlib.Core.List.{List, [], ◌∷◌}
use Prim.Native.Nat.{ℕ, zero, suc, ◌+◌, ◌*◌, ◌^◌, ◌≤◌, ◌<◌}
use native.Mathlib.Nat.{suc-mul, mul-le-mul, mul-le-mul_right}
use native.Mathlib.Numerals.{add-one}
use native.Mathlib.Decide.{ℕ_discrete}
use native.Mathlib.Omega.{arith}
use lib.Dec.{eqb}
use lib.ListN.{length, drop, length-drop, drop_of_length-le}
use lib.Seq.{drop-cons}
use borrow.Author.Tests.{ne_eqb}
use Rattle.whole.proofs.Binomial.{choose-self}
use Rattle.net.specs.runs.Terms.{Term, no_term, term_at}
use Rattle.net.specs.runs.Tree.{size, formed}
use Rattle.sums.specs.gather.Table.{terms_of}
use Rattle.sums.specs.gather.Formed.{most_formed, Counted}
use Rattle.sums.proofs.gather.Turn.{length-terms}
use Rattle.sums.proofs.gather.Gathering.{choose_one}

pub formed-zero : (K : ℕ) (T : List Term) → formed K T 0 ≡ 0
unfolding formed
formed-zero K T = refl

formed-cons : (K : ℕ) (t : Term) (T : List Term) (l : ℕ) → formed K (t ∷ T) (suc l) ≡ size K l + formed K (t ∷ T) l + formed K T (suc l)
unfolding formed
formed-cons K t T l = refl

formed-none : (K l : ℕ) → formed {A = Term} K [] (suc l) ≡ 0
unfolding formed
formed-none K l = refl

pub formed-turn : (K : ℕ) (T : List Term) (l c : ℕ) → c < length T
    → formed K (drop c T) (suc l) ≡ size K l + formed K (drop c T) l + formed K (drop (suc c) T) (suc l)
formed-turn K T l c h = rw (drop-cons T c no_term h) (formed-cons K (term_at T c) (drop (suc c) T) l)

size-zero : (K : ℕ) → size K 0 ≡ 1
unfolding size
size-zero K = let z : 0 + K ≡ K = omega arith in rw z (choose-self K)

-- the last argument: one number for each term
formed-one : (K : ℕ) (T : List Term) → formed K T 1 ≡ length T
formed-one K [] = formed-none K 0
formed-one K (t ∷ T) = rw (formed-cons K t T 0, size-zero K, formed-zero K (t ∷ T), formed-one K T) (omega arith)

pub most-small : (l : ℕ) → l ≤ 3 → most_formed l ≤ 16650
unfolding most_formed
most-small zero h = omega arith
most-small (suc zero) h = omega arith
most-small (suc (suc zero)) h = omega arith
most-small (suc (suc (suc zero))) h = omega arith
most-small (suc (suc (suc (suc l)))) h = absurd (omega arith)

pub record Counting (t : List ℕ) (count K second l from c n : ℕ) : Type 0 where
  pub one : second ≡ 0 → n + formed K (drop c (terms_of t count 0)) (suc l) ≡ formed K (drop from (terms_of t count 0)) (suc l)
  pub most : n ≤ c * (15 + most_formed l)

module _ (t : List ℕ) (count K second l from : ℕ) where
  pub none_yet : Counting t count K second l from from 0
  none_yet = record { one = λ z. omega arith; most = omega arith }

  pub all-counted : (c n : ℕ) → count ≤ 10 → c ≡ count → Counting t count K second l from c n → Counted t count K second (suc l) from n
  unfolding most_formed
  all-counted c n few e f = record {
    one = λ z. let g = f.one z in let h : length (terms_of t count 0) ≤ c = rw (length-terms t count 0) (omega arith) in
        let o : formed K (drop c (terms_of t count 0)) (suc l) ≡ 0 = rw (drop_of_length-le (terms_of t count 0) h) (formed-none K l) in omega arith;
    most = let m : c ≤ 10 = omega arith in omega (arith, f.most, mul-le-mul_right (15 + most_formed l) m);
  }

  -- a net of d entries more, and what was formed of it
  pub one-counted : (c n start m d : ℕ) (turn : Bool) → turn ≡ eqb l second → start ≡ cond turn 0 c → c < count → d ≡ size K l → d ≤ 15
      → Counting t count K second l from c n → Counted t count K second l start m → Counting t count K second l from (c + 1) (n + (d + m))
  one-counted c n start m d turn te se h de small f q = rw (add-one c) record {
    one = λ z. let a = f.one z in let b = same z in let d = formed-turn K (terms_of t count 0) l c (rw (length-terms t count 0) h) in omega arith;
    most = omega (arith, f.most, q.most, suc-mul c (15 + most_formed l));
  }
    where
      -- what was formed further, whether or not the run began anew
      same : second ≡ 0 → m ≡ formed K (drop c (terms_of t count 0)) l
      same z = go (ℕ_discrete l 0)
        where
          go : Dec (l ≡ 0) → m ≡ formed K (drop c (terms_of t count 0)) l
          go (yes o) = q.one z ∙ rw o (formed-zero K (drop start (terms_of t count 0)) ∙ sym (formed-zero K (drop c (terms_of t count 0))))
          go (no o) =
              let s : start ≡ c = se ∙ rw (te, ne_eqb l second (λ e. o (e ∙ z))) in
              q.one z ∙ ap (λ k. formed K (drop k (terms_of t count 0)) l) s

-- the last argument
pub last-counted : (t : List ℕ) (count K second from r : ℕ) → count ≤ 10 → r + from ≡ count → Counted t count K second 1 from r
unfolding most_formed
last-counted t count K second from r few e = record {
  one = λ z. omega (arith, formed-one K (drop from (terms_of t count 0)), length-drop from (terms_of t count 0), length-terms t count 0);
  most = omega arith;
}

-- the entries of a row
pub row-size : (l : ℕ) → l + 1 ≡ size 1 l
unfolding size
row-size l = sym (choose_one (l + 1))

-- all counts are small
pub counting-small : (t : List ℕ) (count K second l from c n : ℕ) → l ≤ 3 → c ≤ 10 → Counting t count K second l from c n → n < 2 ^ 32
counting-small t count K second l from c n h m f =
    let a = most-small l h in
    let b : 15 + most_formed l ≤ 16665 = omega arith in
    omega (arith, f.most, mul-le-mul m b)

pub counted-small : (t : List ℕ) (count K second l from r : ℕ) → l ≤ 3 → Counted t count K second l from r → r < 2 ^ 32
counted-small t count K second l from r h f = omega (arith, f.most, most-small l h)
