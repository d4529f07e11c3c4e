-- A slice that is written from its front: what is written so far, and the rest as it was lent. Assumes nothing.
use mathlib.Core.Path.{◌≡◌, refl, ◌∙◌}
use mathlib.Core.List.{List, [], ◌∷◌, ◌++◌, append_assoc, append-nil}
use Prim.Native.Nat.{ℕ, ◌+◌, ◌-◌, ◌/◌, ◌%◌, ◌≤◌}
use native.Mathlib.Numerals.{add-one}
use native.Mathlib.Omega.{arith}
use lib.ListN.{length, take, drop, set, length-append, length-drop, drop_of_length-le}
use lib.Seq.{sets, sets-eq, take_all, take_at, drop_at, drop-append-add, drop-drop}
use Rattle.wire.specs.Words.{word_bytes}
use Rattle.replies.specs.Reply.{over}

module _ {A : Type 0} (written lent : List A) where
  pub over-length : length written ≤ length lent → length (over written lent) ≡ length lent
  unfolding over
  over-length m = simp (length-append, length-drop) (omega arith)

  -- the part that is not written yet
  pub over-rest : (n : ℕ) → drop (length written + n) (over written lent) ≡ drop (length written + n) lent
  unfolding over
  over-rest n = rw (drop-append-add, drop-drop)

  pub over-front : take (length written) (over written lent) ≡ written
  unfolding over
  over-front = take_at written _ _ refl

  joined : (more : List A) → written ++ more ++ drop (length written + length more) lent ≡ over (written ++ more) lent
  unfolding over
  joined more = rw length-append

  -- more is written, one place after the other
  pub over-more : (more : List A) → length written + length more ≤ length lent
      → sets (over written lent) (length written) more ≡ over (written ++ more) lent
  over-more more m =
      let e : length (over written lent) ≡ length lent = over-length (omega arith) in
      sets-eq more (over written lent) (length written) (omega arith) ∙ rw (over-front, over-rest (length more)) (joined more)

  -- the rest is lent to be written, and comes back in its place
  pub over-part : (more : List A) (n : ℕ) → length written ≡ n → n ≤ length lent
      → let l = over written lent in
      take n l ++ (over more (take (length l - n) (drop n l)) ++ drop (length l - n) (drop n l)) ≡ over (written ++ more) lent
  unfolding over
  over-part more n e m =
      let l = written ++ drop (length written) lent in
      let k = length l - n in
      let f : length (drop n l) ≤ k = rw (length-drop n l) (omega arith) in
      rw (take_all k (drop n l) f, drop_of_length-le (drop n l) {i = k} f, append-nil, ← e)
      (simp (length-append, append_assoc, drop-drop, take_at, drop_at))

-- two bytes more
pub over_word : (written lent : List ℕ) (k word : ℕ) → length written ≡ k → k + 2 ≤ length lent
    → set (set (over written lent) k (word % 256)) (k + 1) (word / 256) ≡ over (written ++ word_bytes word) lent
unfolding word_bytes
over_word written lent k word e m = rw (add-one, ← e) (over-more written lent (word % 256 ∷ word / 256 ∷ []) (omega arith))
