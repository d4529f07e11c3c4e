-- Laws of writing one thing after another into a buffer. Assumes nothing.
use mathlib.Core.Path.{◌≡◌, refl, sym, ap, ◌∙◌}
use mathlib.Core.List.{List, [], ◌∷◌, ◌++◌, append_assoc}
use Prim.Native.Nat.{ℕ, suc, ◌+◌, ◌-◌, ◌≤◌, ◌<◌}
use native.Mathlib.Nat.{add-zero, zero-add}
use native.Mathlib.Numerals.{add-one}
use native.Mathlib.Omega.{arith}
use lib.ListN.{length, take, drop, set, length-append}
use lib.Seq.{sets, sets-eq, length-sets, take_at}
use borrow.Rule.Slice.PartMut.{put_mid}
use Rattle.std.proofs.lemmas.Slice.{put_mid-paste}
use Rattle.std.proofs.lemmas.List.Edits.{paste_all}
use borrow.Author.Tests.{lt-ltb, le-ltb}
use Rattle.spell.specs.Decimal.{Front, Written, Told}

-- stores one after the other, and one more after a run of them
module _ {A : Type 0} where
  pub sets-append : (l : List A) (i : ℕ) (a b : List A) → sets (sets l i a) (i + length a) b ≡ sets l i (a ++ b)
  sets-append l i [] b = rw add-zero
  sets-append l i (v ∷ a) b =
      let e : i + suc (length a) ≡ suc i + length a = omega arith in
      rw e (sets-append (set l i v) (suc i) a b)

  pub sets_more : (l : List A) (i : ℕ) (vs : List A) (v : A) → sets l i (vs ++ (v ∷ [])) ≡ set (sets l i vs) (i + length vs) v
  sets_more l i vs v = sym (sets-append l i vs (v ∷ []))

  -- values at the front of a list
  pub front : (l k : List A) → length k ≤ length l → sets l 0 k ≡ k ++ drop (length k) l
  front l k m = sets-eq k l 0 (omega arith) ∙ rw (zero-add (length k))

  pub front_read : (l k : List A) → length k ≤ length l → take (length k) (sets l 0 k) ≡ k
  front_read l k m = rw (front l k m) (take_at k _ (length k) refl)

-- what was written from the first place on stands at the front
pub written-front : (most : ℕ) (l a m : List ℕ) (j : ℕ) → Written most l 0 a m j → Front a l m j
written-front most l a m j w = record { ends = omega (arith, w.ends); holds = w.holds }

module _ (most : ℕ) (l : List ℕ) (i : ℕ) (a : List ℕ) (m : List ℕ) (j : ℕ) where
  -- no bytes
  pub written_none : Written 0 l i [] l i
  written_none = record { ends = omega arith; holds = refl; small = omega arith }

  -- one byte before them
  pub written-first : (v : ℕ) → Written most (set l i v) (i + 1) a m j → Written (1 + most) l i (v ∷ a) m j
  written-first v w = record { ends = omega (arith, w.ends); holds = rw add-one at w.holds; small = omega (arith, w.small) }

  -- a bound that is larger
  pub written-within : Written most l i a m j → (more : ℕ) → most ≤ more → Written more l i a m j
  written-within w more h = record { ends = w.ends; holds = w.holds; small = omega (arith, w.small) }

  -- other bytes after them
  pub written_then : (other : ℕ) (b : List ℕ) (n : List ℕ) (k : ℕ) → Written most l i a m j → Written other m j b n k
      → Written (most + other) l i (a ++ b) n k
  written_then other b n k w x = record {
    ends = omega (arith, w.ends, x.ends, length-append a b);
    holds = x.holds ∙ rw (w.holds, w.ends) (sets-append l i a b);
    small = omega (arith, w.small, x.small);
  }

-- bytes that were copied to a place are written there
pub copied : (bytes l now : List ℕ) (i : ℕ) → i + length bytes ≤ length l → now ≡ bytes
    → put_mid i (i + length bytes - i) l now ≡ sets l i bytes
copied bytes l now i fits is =
    put_mid-paste i (i + length bytes - i) l now bytes (length bytes) is (omega arith) refl
    ∙ paste_all l i bytes (length bytes) refl ∙ sym (append_assoc (take i l) bytes _) ∙ sym (sets-eq bytes l i fits)

-- no room; all is written; and what is written stands at the front
module _ (room : ℕ) (bytes l : List ℕ) where
  pub no_room : length l < room → Told room bytes l 0 l
  no_room short = record { counted = rw (lt-ltb _ _ short); written = rw (lt-ltb _ _ short); within = omega arith }

  module _ (m : List ℕ) (count : ℕ) (enough : room ≤ length l) where
    pub told : Written room l 0 bytes m count → Told room bytes l count m
    told w = record {
      counted = rw (le-ltb _ _ enough) (omega (arith, w.ends));
      written = rw (le-ltb _ _ enough) w.holds;
      within = omega (arith, w.small, ap length w.holds ∙ length-sets l 0 bytes);
    }

    pub told-front : Told room bytes l count m → take count m ≡ bytes
    told-front t =
        let size : count ≡ length bytes = rw (le-ltb _ _ enough) at t.counted in
        let is : m ≡ sets l 0 bytes = rw (le-ltb _ _ enough) at t.written in
        let fits : length bytes ≤ length l = omega (arith, size, t.within, ap length is ∙ length-sets l 0 bytes) in
        rw (is, size) (front_read l bytes fits)
