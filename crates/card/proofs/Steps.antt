-- All steps of a net are exact, where five f64 hold its whole numbers. Assumes nothing.
use mathlib.Core.Path.{◌≡◌, refl, sym, ap, ◌∙◌, subst}
use mathlib.Core.Bool.{Bool, true, false, cond}
use mathlib.Core.List.{List}
use Prim.Native.Nat.{ℕ, suc, ◌+◌, ◌-◌, ◌*◌, ◌^◌, ◌≤◌, ◌<◌}
use native.Mathlib.Nat.{le_trans, mul-le-mul_left, mul_comm, mul_assoc, pow-suc, pow-le-pow_right, le_of_eq, zero-lt-suc}
use native.Mathlib.Omega.{arith}
use lib.Dec.{ltb}
use lib.IntN.{ℤ, pos, nat_abs}
use lib.ListN.{get_or}
use lib.Ieee.{Float, nan}
use Rattle.request.proofs.units.Within.{path-within}
use Rattle.net.specs.Net.{Net}
use Rattle.net.specs.Blossom.{along_u, step, blossom}
use Rattle.net.specs.Weighing.{mixed}
use Rattle.net.proofs.Size.{mixed-most}
use Rattle.net.proofs.Weigh.{weighs-u}
use Rattle.floats.specs.Float.{float}
use Rattle.floats.proofs.Steps.{step-law}
use Rattle.part.specs.Choice.{choice_of}
use Rattle.card.specs.Steps.{Lowered, Holds, At, Blossoms, between, value_at}

-- the size of a step
step-most : (k : ℕ) → k ≤ 1024 → (p : Net) (B : ℕ) → ((i j : ℕ) → nat_abs (p i j) ≤ B) → (i j : ℕ) → nat_abs (step (along_u (pos k)) p i j) ≤ 1024 * B
unfolding mixed
step-most k h p B most i j =
    let w = weighs-u k h in
    rw (w.same p i j)
    (mixed-most k 0 (1024 - k) (p (suc i) j) (p i (suc j)) (p i j) B w.one (most (suc i) j) (most i (suc j)) (most i j))

-- while an argument is left, 1,024 of a number are far below 2^53
small : (a B d : ℕ) → a ≤ B → B * 1024 ^ suc d ≤ 2 ^ 52 → a * 1024 ≤ 2 ^ 53
small a B d h room =
    let one : 1024 ^ 1 ≤ 1024 ^ suc d = pow-le-pow_right (zero-lt-suc 1023) {i = 1} {j = suc d} (omega arith) in
    let most : B * 1024 ≤ B * 1024 ^ suc d = mul-le-mul_left B one in
    omega arith

lowered : {net out : List Float} {d k : ℕ} {u : Float} {p : Net} → u ≡ float (pos k) → k ≤ 1024
    → Lowered net (suc d) u out → Holds net p (suc d) → Holds out (step (along_u (pos k)) p) d
unfolding step
lowered {net} {out} {d} {k} {u} {p} is one low h = record {
  each = λ i l. low.each i (omega arith) ∙ step-law (record {
    first = h.each i (omega arith);
    second = next i (omega arith);
    share = is;
    share_most = one;
    first_most = small _ h.bound d (h.most i 0) h.room;
    second_most = small _ h.bound d (h.most (suc i) 0) h.room;
  });
  bound = 1024 * h.bound;
  most = step-most k one p h.bound h.most;
  room = le_trans (le_of_eq same) h.room;
}
  where
    next : (i : ℕ) → i < suc d → get_or net (i + 1) nan ≡ float (p (suc i) 0)
    next i l = let e : i + 1 ≡ suc i = omega arith in ap (λ (n : ℕ). get_or net n nan) e ∙ h.each (suc i) l

    same : 1024 * h.bound * 1024 ^ d ≡ h.bound * 1024 ^ suc d
    same =
        ap (λ n. n * 1024 ^ d) (mul_comm 1024 h.bound)
        ∙ mul_assoc h.bound 1024 (1024 ^ d)
        ∙ ap (λ n. h.bound * n) (mul_comm 1024 (1024 ^ d) ∙ sym (pow-suc 1024 d))

-- one argument
lowered-holds : {net out : List Float} {d : ℕ} {u : Float} {x : ℤ} {p : Net} → At u x
    → Lowered net (suc d) u out → Holds net p (suc d) → Holds out (step (along_u x) p) d
lowered-holds {out = out} {d = d} {u = u} {x = x} {p = p} at low h =
    let w = path-within x at.path in
    subst (λ z. Holds out (step (along_u z) p) d) (sym w.size) (lowered (at.is ∙ ap float w.size) w.most low h)

-- no argument is left
pub none_left : {net : List Float} {R : ℕ} {u v : Float} → Blossoms net 0 R u v (get_or net 0 nan)
unfolding blossom choice_of value_at
none_left = record { exact = λ p x y h a b. h.each 0 (omega arith) }

picked : (c : Bool) {u v : Float} {x y : ℤ} → At u x → At v y → At (cond c u v) (cond c x y)
picked true a b = a
picked false a b = b

point : (c : Bool) (x y : ℤ) → along_u (cond c x y) ≡ between x y (cond c 0 1)
unfolding between
point true x y = refl
point false x y = refl

-- one more argument
pub one-taken : {net out : List Float} {left l R : ℕ} {u v w r : Float} → left ≡ suc l → w ≡ cond (ltb R left) u v → Lowered net left w out
    → Blossoms out l R u v r → Blossoms net left R u v r
unfolding blossom choice_of value_at
one-taken {net} {out} {left} {l} {R} {u} {v} {w} {r} e is low rest =
    subst (λ (n : ℕ). Blossoms net n R u v r) (sym e)
    (go (subst (λ (n : ℕ). w ≡ cond (ltb R n) u v) e is) (subst (λ (n : ℕ). Lowered net n w out) e low))
  where
    go : w ≡ cond (ltb R (suc l)) u v → Lowered net (suc l) w out → Blossoms net (suc l) R u v r
    go is low = record {
      exact = λ p x y h a b.
          let c = ltb R (suc l) in
          let at : At w (cond c x y) = subst (λ (z : Float). At z (cond c x y)) (sym is) (picked c a b) in
          rest.exact (step (along_u (cond c x y)) p) x y (lowered-holds {d = l} {p = p} at low h) a b
          ∙ ap (λ g. float (value_at l R x y (step g p))) (point c x y);
    }
