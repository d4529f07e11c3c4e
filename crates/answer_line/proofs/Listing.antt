-- Laws of writing numbers one after another, each behind a space. Assumes nothing.
use mathlib.Core.Path.{◌≡◌, refl, sym, ap, ◌∙◌, subst}
use mathlib.Core.List.{List, [], ◌∷◌, ◌++◌, append_assoc, append-nil}
use Prim.Native.Nat.{ℕ, ◌+◌, ◌*◌, ◌≤◌, ◌<◌}
use native.Mathlib.Nat.{mul-zero, mul-one, mul-add}
use native.Mathlib.Numerals.{add-one}
use native.Mathlib.Omega.{arith}
use lib.IntN.{ℤ, pos}
use lib.ListN.{length, get_or, take}
use lib.Seq.{take_all, take-suc}
use Rattle.spell.specs.Decimal.{decimal, Written}
use Rattle.spell.proofs.Writing.{written_none, written_then}
use Rattle.answer_line.specs.Answer.{spaced}

spaced-append : (a b : List ℤ) → spaced (a ++ b) ≡ spaced a ++ spaced b
unfolding spaced
spaced-append [] b = refl
spaced-append (z ∷ a) b = ap (λ s. 32 ∷ s) (rw (spaced-append a b) (sym (append_assoc (decimal z) (spaced a) (spaced b))))

spaced-more : (l : List ℤ) (k : ℕ) → k < length l → spaced (take (k + 1) l) ≡ spaced (take k l) ++ 32 ∷ decimal (get_or l k (pos 0))
unfolding spaced
spaced-more l k h =
    rw (add-one k, take-suc l k (pos 0) h) (spaced-append (take k l) _ ∙ rw append-nil)

-- a loop over numbers of at most `each` bytes: k of them are written, up to a place
pub record Listing (each : ℕ) (s : List ℤ) (l : List ℕ) (i : ℕ) (m : List ℕ) (j k : ℕ) : Type 0 where
  pub upto : k ≤ length s
  pub size : length m ≡ length l
  pub so_far : Written (each * k) l i (spaced (take k s)) m j

pub listing_none : (each : ℕ) (s : List ℤ) (l : List ℕ) (i : ℕ) → Listing each s l i l i 0
unfolding spaced
listing_none each s l i = record { upto = omega arith; size = refl; so_far = rw mul-zero (written_none 0 l i [] l i) }

module _ (each : ℕ) (s : List ℤ) (l : List ℕ) (i : ℕ) (m : List ℕ) (j k : ℕ) (c : Listing each s l i m j k) where
  pub listing-more : k < length s → (n : List ℕ) (e : ℕ) → length n ≡ length m
      → Written each m j (32 ∷ decimal (get_or s k (pos 0))) n e → Listing each s l i n e (k + 1)
  listing-more h n e z w = record {
    upto = omega arith;
    size = z ∙ c.size;
    so_far =
        let q : each * (k + 1) ≡ each * k + each = mul-add each k 1 ∙ ap (λ x. each * k + x) (mul-one each) in
        rw (q, spaced-more s k h) (written_then (each * k) l i _ m j each _ n e c.so_far w);
  }

  pub listing-all : length s ≤ k → Written (each * length s) l i (spaced s) m j
  listing-all h =
      let e : k ≡ length s = omega arith in
      rw (← e) (subst (λ t. Written (each * k) l i (spaced t) m j) (take_all k s (omega arith)) c.so_far)
