-- Laws of a word that begins with a mark, as the library compares slices: byte by byte. Assumes nothing.
use mathlib.Core.Path.{◌≡◌, refl, sym, ap, ◌∙◌}
use mathlib.Core.Bool.{Bool, true, false, ◌&&◌, and-true, and-false}
use mathlib.Core.List.{List, [], ◌∷◌}
use Prim.Native.Nat.{ℕ, suc}
use lib.Dec.{eqb, eqb-suc-suc, eqb-zero-suc, eqb-suc-zero}
use lib.ListN.{length, get_or, take}
use Rattle.std.specs.Cmp.Lexicographic.{pointwise}
use Rattle.std.proofs.lemmas.Bool.Decides.{nat_tests}
use native.Mathlib.Omega.{arith}
use Rattle.text.specs.words.Words.{begins}
use Rattle.text.specs.kinds.Kinds.{is_word}

-- `strip_prefix`, and `starts_with`
pub strips_mark : (mark w : List ℕ) → pointwise eqb (take (length mark) w) mark ≡ begins mark w
unfolding begins
strips_mark [] w = refl
strips_mark (m ∷ mark) [] = refl
strips_mark (m ∷ mark) (b ∷ w) = ap (λ c. eqb b m && c) (strips_mark mark w)

eqb_swapped : (a b : ℕ) → eqb a b ≡ eqb b a
eqb_swapped a b = grind (arith, nat_tests)

pub starts_mark : (mark w : List ℕ) → pointwise eqb mark (take (length mark) w) ≡ begins mark w
unfolding begins
starts_mark [] w = refl
starts_mark (m ∷ mark) [] = refl
starts_mark (m ∷ mark) (b ∷ w) = rw (eqb_swapped m b) (ap (λ c. eqb b m && c) (starts_mark mark w))

-- `==`
pub same_word : (w name : List ℕ) → pointwise eqb w name ≡ is_word w name
unfolding is_word begins
same_word [] [] = refl
same_word [] (m ∷ name) = ap (λ d. d && false) (sym (eqb-zero-suc (length name)))
same_word (b ∷ w) [] = ap (λ d. d && true) (sym (eqb-suc-zero (length w)))
same_word (b ∷ w) (m ∷ name) = go (eqb b m) (same_word w name)
  where
    go : (c : Bool) → pointwise eqb w name ≡ (eqb (length w) (length name) && begins name w)
        → (c && pointwise eqb w name) ≡ (eqb (suc (length w)) (suc (length name)) && (c && begins name w))
    go true e = e ∙ ap (λ d. d && begins name w) (sym (eqb-suc-suc (length w) (length name)))
    go false e = sym (and-false _)

-- a minus in front
pub strips_minus : (w : List ℕ) → pointwise eqb (take 1 w) (45 ∷ []) ≡ eqb (get_or w 0 0) 45
strips_minus [] = refl
strips_minus (b ∷ w) = and-true (eqb b 45)

pub starts_hash : (s : List ℕ) → pointwise eqb (35 ∷ []) (take 1 s) ≡ eqb (get_or s 0 0) 35
starts_hash [] = refl
starts_hash (b ∷ s) = and-true (eqb 35 b) ∙ eqb_swapped 35 b
