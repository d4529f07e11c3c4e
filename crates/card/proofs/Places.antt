-- The control values as they are loaded, and the five places as they are filled in, as bits. Assumes nothing.
use mathlib.Core.Path.{◌≡◌, refl, sym, ap, ◌∙◌, subst}
use mathlib.Core.Bool.{cond}
use mathlib.Core.List.{List, map}
use Prim.Native.Nat.{ℕ, ◌+◌, ◌^◌, ◌≤◌, ◌<◌}
use native.Mathlib.Nat.{le_trans, mul-le-mul_left, pow-le-pow_right}
use native.Mathlib.Decide.{dec_lt}
use native.Mathlib.Omega.{arith}
use lib.Dec.{ltb, lit≤}
use lib.IntN.{ℤ, pos}
use lib.ListN.{length, get_or, set, replicate, get_or-replicate, length-set}
use lib.Seq.{get_or-set_same, get_or-set_other}
use lib.Ieee.{Float, nan}
use borrow.Author.Count.{below_none, below_more}
use borrow.Author.Tests.{lt-ltb, le-ltb}
use Rattle.request.specs.Refusal.{value_place}
use Rattle.request.proofs.Bounds.{travels}
use Rattle.net.specs.Net.{Net}
use Rattle.floats.specs.Float.{float, bits}
use Rattle.floats.proofs.Bits.{plus-zero}
use Rattle.part.specs.Contract.{five}
use Rattle.part.proofs.Five.{five-same, five-of, five-map, five-at}
use Rattle.card.specs.Steps.{curve, Holds, At, Blossoms, Filled, value_at}

-- the control values, as they are loaded
pub loaded-holds : (surface : List ℤ) (net : List Float) (m : ℕ) → m ≤ 4 → value_place surface ≡ length surface
    → net ≡ five (λ i. float (get_or surface i (pos 0))) → Holds net (curve surface) m
unfolding curve
loaded-holds surface net m few good e =
    subst (λ l. Holds l (curve surface) m) (sym e)
    (record {
      each = λ i l. five-at (λ i. float (get_or surface i (pos 0))) i (omega arith);
      bound = 4096;
      most = λ i j. travels surface good i;
      room = le_trans (mul-le-mul_left 4096 power) (lit≤ tt);
    })
  where
    power : 1024 ^ m ≤ 1024 ^ 4
    power = pow-le-pow_right (omega arith) few

-- ---- the loop that fills them in
pub none_filled : {net out : List Float} {m : ℕ} {u v : Float} → out ≡ replicate 5 (float (pos 0)) → Filled net m 0 u v out
none_filled {net} {out} {m} {u} {v} e =
    subst (Filled net m 0 u v) (sym e)
    (record { long = refl; used = below_none _; unused = λ R l h. get_or-replicate 5 R (float (pos 0)) nan h })

pub one-filled : {net out : List Float} {m R : ℕ} {u v r : Float} → Filled net m R u v out → R < 5 → Blossoms net m R u v r
    → Filled net m (R + 1) u v (set out R r)
one-filled {net} {out} {m} {R} {u} {v} {r} filled h here = record {
  long = length-set out R r ∙ filled.long;
  used = below_more (λ k. Blossoms net m k u v (get_or (set out R r) k nan)) R
      (λ k l. subst (Blossoms net m k u v) (sym (get_or-set_other out R k r nan (omega arith))) (filled.used k l))
      (subst (Blossoms net m R u v) (sym (get_or-set_same out R r nan inside)) here);
  unused = λ k l n. get_or-set_other out R k r nan (omega arith) ∙ filled.unused k (omega arith) n;
}
  where
    inside : R < length out
    inside = let e = filled.long in omega arith

-- what is filled in, as bits
pub filled-bits : {net out : List Float} {m count : ℕ} {u v : Float} {x y : ℤ} (p : Net) → Filled net m count u v out → Holds net p m → At u x → At v y
    → map bits out ≡ five (λ R. cond (ltb R count) (bits (float (value_at m R x y p))) 0)
filled-bits {out = out} {m = m} {count = count} {x = x} {y = y} p filled holds a b =
    ap (map bits) (five-of out filled.long)
    ∙ five-map (λ R. get_or out R nan)
    ∙ five-same (λ R. bits (get_or out R nan)) (λ R. cond (ltb R count) (bits (float (value_at m R x y p))) 0) (λ R h. go R h (dec_lt R count))
  where
    go : (R : ℕ) → R < 5 → Dec (R < count) → bits (get_or out R nan) ≡ cond (ltb R count) (bits (float (value_at m R x y p))) 0
    go R h (yes less) = rw (lt-ltb R count less) (ap bits ((filled.used R less).exact p x y holds a b))
    go R h (no not-less) = rw (le-ltb R count (omega arith)) (ap bits (filled.unused R (omega arith) h) ∙ plus-zero)
