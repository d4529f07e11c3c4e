-- The loop over the terms of a table, over any reading, group and net: what a turn asks and leaves. Assumes nothing.
use mathlib.Core.Path.{◌≡◌, ◌∙◌, ap}
use mathlib.Core.List.{List}
use Prim.Native.Nat.{ℕ, suc, ◌+◌, ◌*◌, ◌^◌, ◌≤◌, ◌<◌}
use native.Mathlib.Numerals.{add-one}
use native.Mathlib.Omega.{arith}
use lib.IntN.{ℤ}
use lib.ListN.{length, drop}
use Rattle.whole.specs.Choose.{choose}
use Rattle.limbs.specs.Limbs.{Gained}
use Rattle.net.specs.Net.{Net}
use Rattle.net.specs.Blossom.{step}
use Rattle.net.specs.runs.Terms.{Term, Reading, term_at}
use Rattle.sums.specs.gather.Table.{key_at, weight_at, term_of, terms_of}
use Rattle.sums.specs.gather.Owed.{owed, due, Able}
use Rattle.limbs.proofs.Toward.{room_small}
use Rattle.sums.proofs.gather.Turn.{length-terms, term-at, term-weight, term-key, due-some, Sofar}
use Rattle.sums.proofs.gather.Turn as Turn

-- a weight that is due is small
pub able-small : (t : List ℕ) (count most g rest left from begun weight : ℕ) (sums : List ℤ) → Able t count most g rest left from begun weight sums
    → weight ≤ 2 ^ 24
able-small t count most g rest left from begun weight sums able =
    let some : 0 < (term_at (terms_of t count g) from).weight = rw (term-at t count g from able.here, term-weight t g from)
    (able.good.some from able.here) in
    let inside : from < length (terms_of t count g) = rw (length-terms t count g) able.here in
    omega (arith, room_small able.room, due-some rest (terms_of t count g) left from begun weight inside some able.some)

module _ (F : ℕ → Reading) (s : ℕ) (p : Net) (t : List ℕ) (count most g rest left from begun weight : ℕ) (sums : List ℤ)
    (able : Able t count most g rest left from begun weight sums) where
  abbrev T : List Term
  T = terms_of t count g

  pub start : (closed : ℕ) → closed ≡ weight * choose begun left → Sofar F rest T left from begun weight s p sums closed from begun weight sums
  start closed e = Turn.start F rest T left from begun weight s p sums closed e able.few able.open_few

  module _ (l : ℕ) (e : left ≡ suc l) (closed c b w : ℕ) (now : List ℤ) (f : Sofar F rest (terms_of t count g) left from begun weight s p sums closed c
      b w now) where
    pub all_done : count ≤ c → Gained sums now (owed F (drop from T) weight left begun s p) (due rest (drop from T) weight left begun)
    all_done h = Turn.all_done F rest T left from begun weight s p sums closed c b w now f l e (rw (length-terms t count g) h)

    module _ (h : c < count) where
      weight_is : (term_at T c).weight ≡ weight_at t c
      weight_is = ap (λ u. u.weight) (term-at t count g c h) ∙ term-weight t g c

      key-is : (term_at T c).key ≡ key_at t c
      key-is = ap (λ u. u.key) (term-at t count g c h) ∙ term-key t g c

      inside : c < length T
      inside = rw (length-terms t count g) h

      pub next-able : Able t count most g rest l c b (w * weight_at t c) now
      next-able = record {
        good = able.good;
        here = h;
        few = f.few;
        open_few = let o = f.open_few in omega arith;
        some = able.some;
        room = rw weight_is at (Turn.next-room F rest T left from begun weight s p sums closed c b w now f l e inside able.room);
      }

      pub next_small : w * weight_at t c ≤ 2 ^ 24
      next_small = able-small t count most g rest l c b (w * weight_at t c) now next-able

      pub one_more : (then : List ℤ)
          → Gained now then (owed F (drop c T) (w * weight_at t c) l b (s + key_at t c) (step (term_of t g c).argument p))
          (due rest (drop c T) (w * weight_at t c) l b)
          → Sofar F rest T left from begun weight s p sums closed (c + 1) left closed then
      one_more then gained =
          rw (add-one c)
          (Turn.one_more F rest T left from begun weight s p sums closed c b w now f l e inside then
          (rw (weight_is, key-is, term-at t count g c h) gained))
