-- Laws of bytes that pass a test, and of what digits spell: each loop over bytes cites them at the byte that it has come
-- to. Assumes nothing.
use mathlib.Core.Path.{◌≡◌, refl, sym, ap, ◌∙◌}
use mathlib.Core.Bool.{Bool, true, false, not, cond, ◌&&◌, and-true, and_assoc}
use mathlib.Core.List.{List, [], ◌∷◌, ◌++◌}
use Prim.Native.Nat.{ℕ, zero, suc, ◌+◌, ◌-◌, ◌*◌, ◌≤◌, ◌<◌, min}
use native.Mathlib.Numerals.{add-one}
use native.Mathlib.Omega.{arith}
use Rattle.std.proofs.Common.{Option, Some, None}
use Rattle.std.specs.List.{list_all, position_or_len}
use Rattle.std.specs.Option.{unwrap_or}
use Rattle.std.proofs.lemmas.List.Recursion.{is_position_or_len}
use lib.Dec.{ltb}
use lib.ListN.{length, get_or, take, drop, length-drop, drop_of_length-le}
use lib.Seq.{drop-cons, take_all}
use borrow.Author.Tests.{ltb-false}
use Rattle.text.specs.words.Words.{run, every, spelled}
use Rattle.text.specs.words.Read.{Skips, cap}

module _ (p : ℕ → Bool) (s : List ℕ) (i : ℕ) where
  pub every_more : i < length s → p (get_or s i 0) ≡ true → every p (drop i s) ≡ every p (drop (i + 1) s)
  unfolding every
  every_more l t = rw (add-one i, drop-cons s i 0 l, t)

  pub every-stop : i < length s → p (get_or s i 0) ≡ false → every p (drop i s) ≡ false
  unfolding every
  every-stop l t = rw (drop-cons s i 0 l, t)

  pub every-end : length s ≤ i → every p (drop i s) ≡ true
  unfolding every
  every-end l = rw (drop_of_length-le s {i = i} l)

-- the first place that does not pass, or the end where all do
run_is : (p : ℕ → Bool) (s : List ℕ) → run p s ≡ position_or_len (λ b. not (p b)) s
unfolding run
run_is p = is_position_or_len (run p) (λ b. not (p b)) refl (λ b s. step (p b) (run p s))
  where
    step : (c : Bool) (n : ℕ) → cond c (suc n) 0 ≡ cond (not c) 0 (1 + n)
    step true n = omega arith
    step false n = refl

run_upto : (p : ℕ → Bool) (s : List ℕ) → run p s ≤ length s
unfolding run
run_upto p [] = omega arith
run_upto p (b ∷ s) = go (p b) (run_upto p s)
  where
    go : (c : Bool) → run p s ≤ length s → cond c (suc (run p s)) zero ≤ suc (length s)
    go true l = omega arith
    go false l = omega arith

-- `position` on the rest of a line, and the end where it finds none
first_other : (p : ℕ → Bool) (s : List ℕ)
    → unwrap_or (cond (ltb (position_or_len (λ b. not (p b)) s) (length s)) (Some (position_or_len (λ b. not (p b)) s)) None) (length s) ≡ run p s
first_other p s = go (ltb (run p s) (length s)) refl
  where
    go : (c : Bool) → ltb (run p s) (length s) ≡ c
        → unwrap_or (cond (ltb (position_or_len (λ b. not (p b)) s) (length s)) (Some (position_or_len (λ b. not (p b)) s)) None) (length s) ≡ run p s
    go true e = rw (← run_is p s, e)
    go false e = rw (← run_is p s, e) (omega (arith, ltb-false (run p s) (length s) e, run_upto p s))

pub skips_to : (p : ℕ → Bool) (s : List ℕ) (at : ℕ) (f : Option ℕ) (r : ℕ) → at ≤ length s
    → f ≡ cond (ltb (position_or_len (λ b. not (p b)) (take (length s - at) (drop at s))) (length (take (length s - at) (drop at s)))) (Some (position_or_len (λ b. not (p b)) (take (length s - at) (drop at s)))) None
    → r ≡ unwrap_or f (length (take (length s - at) (drop at s)))
    → Skips p s at (at + r)
skips_to p s at f r l e u =
    let k : r ≡ run p (drop at s) = u ∙ rw e (rw (take_all (length s - at) (drop at s) (omega (arith, length-drop at s))) (first_other p (drop at s))) in
    record { is = rw k; onward = omega arith; inside = omega (arith, k, run_upto p (drop at s), length-drop at s) }

-- as the library's `all`
pub every_is : (p : ℕ → Bool) (s : List ℕ) → every p s ≡ list_all p s
unfolding every
every_is p [] = refl
every_is p (b ∷ s) = ap (λ c. p b && c) (every_is p s)

-- a last byte more
pub every-last : (p : ℕ → Bool) (s : List ℕ) (b : ℕ) → every p (s ++ b ∷ []) ≡ (every p s && p b)
unfolding every
every-last p [] b = and-true (p b)
every-last p (x ∷ s) b = ap (λ c. p x && c) (every-last p s b) ∙ sym (and_assoc (p x) (every p s) (p b))

-- a number that is capped on the way is capped at the end
spelled-cap : (ds : List ℕ) (m : ℕ) → min (spelled (min m cap) ds) cap ≡ min (spelled m ds) cap
unfolding spelled
spelled-cap [] m = omega arith
spelled-cap (d ∷ ds) m =
    let e : min (min m cap * 10 + (d - 48)) cap ≡ min (m * 10 + (d - 48)) cap = omega arith in
    sym (spelled-cap ds (min m cap * 10 + (d - 48))) ∙ ap (λ k. min (spelled k ds) cap) e ∙ spelled-cap ds (m * 10 + (d - 48))

module _ (s : List ℕ) (n i : ℕ) where
  pub spelled-more : i < length s → min (spelled n (drop i s)) cap ≡ min (spelled (min (n * 10 + (get_or s i 0 - 48)) cap)
      (drop (i + 1) s)) cap
  unfolding spelled
  spelled-more l = rw (add-one i, drop-cons s i 0 l) (sym (spelled-cap (drop (suc i) s) (n * 10 + (get_or s i 0 - 48))))

  pub spelled-end : length s ≤ i → n ≤ cap → min (spelled n (drop i s)) cap ≡ n
  unfolding spelled
  spelled-end l h = rw (drop_of_length-le s {i = i} l) (omega arith)
