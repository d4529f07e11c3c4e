-- A sum that is under way: what is there and what is still owed make what was to be gained. A loop carries it from turn to turn.
-- Assumes nothing.
use mathlib.Core.Path.{◌≡◌, refl, sym, ◌∙◌, ap}
use mathlib.Core.List.{List}
use Prim.Native.Nat.{ℕ, ◌+◌, ◌^◌, ◌≤◌}
use native.Mathlib.Omega.{arith}
use lib.IntN.{ℤ, pos, ◌+ℤ◌}
use lib.ListN.{length}
use Rattle.whole.proofs.Ring.{◌⊕◌, ⊕-is, ⊕-assoc, ⊕-zero}
use Rattle.limbs.specs.Limbs.{worth, Room, Gained}
use Rattle.limbs.proofs.Gaining.{room-less}

pub record Toward (out : List ℤ) (f : ℕ → ℤ) (W : ℕ) (now : List ℤ) (g : ℕ → ℤ) (Q : ℕ) : Type 0 where
  pub long : length now ≡ length out
  pub worths : (t : ℕ) → worth now t ⊕ g t ≡ worth out t ⊕ f t
  pub room : (rest : ℕ) → Room out (W + rest) → Room now (Q + rest)

pub toward-start : (out : List ℤ) (f : ℕ → ℤ) (W : ℕ) → Toward out f W out f W
toward-start out f W = record { long = refl; worths = λ t. refl; room = λ rest r. r }

module _ {out : List ℤ} {f : ℕ → ℤ} {W : ℕ} {now : List ℤ} {g : ℕ → ℤ} {Q : ℕ} (so : Toward out f W now g Q) where
  pub toward-room : Room out W → Room now Q
  toward-room r = room-less now (Q + 0) Q (omega arith) (so.room 0 (room-less out W (W + 0) (omega arith) r))

  pub toward-turn : (h k : ℕ → ℤ) (U X : ℕ) → ((t : ℕ) → g t ≡ h t ⊕ k t) → Q ≡ U + X → (next : List ℤ) → Gained now next h U → Toward out f W next k X
  toward-turn h k U X split parts next gained = record {
    long = gained.long ∙ so.long;
    worths = λ t.
        ap (λ x. x ⊕ k t) (gained.worths t ∙ sym (⊕-is (worth now t) (h t)))
        ∙ ⊕-assoc _ _ _ ∙ ap (λ x. worth now t ⊕ x) (sym (split t)) ∙ so.worths t;
    room = λ rest r. gained.left (X + rest) (room-less now (Q + rest) (U + (X + rest)) (omega arith) (so.room rest r));
  }

  pub toward-end : ((t : ℕ) → g t ≡ pos 0) → Gained out now f W
  toward-end none = record {
    long = so.long;
    worths = λ t. sym (⊕-zero (worth now t)) ∙ ap (λ x. worth now t ⊕ x) (sym (none t)) ∙ so.worths t ∙ ⊕-is (worth out t) (f t);
    left = λ rest r. room-less now (Q + rest) rest (omega arith) (so.room rest r);
  }

-- the same gains, otherwise written
pub gained-as : {l m : List ℤ} {f g : ℕ → ℤ} {a b : ℕ} → ((t : ℕ) → f t ≡ g t) → a ≡ b → Gained l m f a → Gained l m g b
gained-as {l} {m} {f} {g} {a} {b} e k q = record {
  long = q.long;
  worths = λ t. q.worths t ∙ ap (λ x. worth l t +ℤ x) (e t);
  left = λ rest r. q.left rest (room-less l (b + rest) (a + rest) (omega arith) r);
}

pub room_small : {l : List ℤ} {w : ℕ} → Room l w → w ≤ 2 ^ 24
room_small r = omega (arith, r.room 0)
