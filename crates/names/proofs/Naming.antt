-- Laws of an answer line with its refusal by name. Assumes nothing.
use mathlib.Core.Path.{◌≡◌}
use mathlib.Core.List.{List, [], ◌∷◌}
use Prim.Native.Nat.{ℕ, zero, suc, ◌+◌, ◌≤◌}
use native.Mathlib.Omega.{arith}
use lib.Dec.{lit≤}
use lib.ListN.{length, get_or, take, drop, length-drop}
use borrow.Author.Tests.{eq-eqb, ne_eqb}
use Rattle.spell.specs.Decimal.{Front, Written}
use Rattle.spell.proofs.Writing.{front_read, written-front, written_then, written-within}
use Rattle.names.specs.Names.{name_table, name_of, first_width, first_number, by_name}

-- no name has more than nine bytes
abbrev Narrow : List (List ℕ) → Type 0
Narrow [] = Unit {0}
Narrow (name ∷ rest) = (length name ≤ 9) × Narrow rest

narrow : Narrow name_table
narrow =
    (lit≤ tt, (lit≤ tt, (lit≤ tt, (lit≤ tt, (lit≤ tt, (lit≤ tt, (lit≤ tt, (lit≤ tt, (lit≤ tt, (lit≤ tt, (lit≤ tt, (lit≤ tt, tt))))))))))))

narrow_at : (table : List (List ℕ)) → Narrow table → (n : ℕ) → length (get_or table n []) ≤ 9
narrow_at [] s n = omega arith
narrow_at (name ∷ rest) s zero = s.0
narrow_at (name ∷ rest) s (suc n) = narrow_at rest s.1 n

pub name_small : (n : ℕ) → length (name_of n) ≤ 9
unfolding name_of
name_small n = narrow_at name_table narrow n

-- what was written to the front of a buffer is read there
pub front-taken : (bytes l l' : List ℕ) (n : ℕ) → Front bytes l l' n → n ≤ length l → take n l' ≡ bytes
front-taken bytes l l' n f m = rw (f.holds, f.ends) (front_read l bytes (omega (arith, f.ends)))

pub front-is : (most : ℕ) (bytes l l' : List ℕ) (n : ℕ) → Written most l 0 bytes l' n → most ≤ length l → take n l' ≡ bytes
front-is most bytes l l' n w m = front-taken bytes l l' n (written-front most l bytes l' n w) (omega (arith, w.small))

pub rest-fits : (k : ℕ) (line rest : List ℕ) → rest ≡ drop k line → length rest ≤ length line
rest-fits k line rest e = rw e (simp length-drop (omega arith))

-- a line with no name is written as it is, or the name and what is behind the number
module _ (line out : List ℕ) (n : ℕ) (is : n ≡ first_number line) where
  pub unnamed : (out' : List ℕ) (r : ℕ) → length (name_of n) ≡ 0 → Written (length line) out 0 line out' r
      → Written (length line + 9) out 0 (by_name line) out' r
  unfolding by_name
  unnamed out' r none w = rw (← is, eq-eqb _ 0 none) (written-within _ out 0 line out' r w (length line + 9) (omega arith))

  pub by_name_lem : (out' : List ℕ) (at : ℕ) → Written 9 out 0 (name_of n) out' at → (length (name_of n) ≡ 0 → ⊥) → (out'' : List ℕ) (r : ℕ) (rest : List ℕ)
      → rest ≡ drop (first_width line) line → Written (length rest) out' at rest out'' r → Written (length line + 9) out 0 (by_name line) out'' r
  unfolding by_name
  by_name_lem out' at named some out'' r rest g x =
      let all = written_then 9 out 0 (name_of n) out' at (length rest) rest out'' r named x in
      let small : length rest ≤ length line = rest-fits _ line rest g in
      rw (← is, ne_eqb _ 0 some, ← g)
      (written-within _ out 0 _ out'' r all (length line + 9) (omega arith))
