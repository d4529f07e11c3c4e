-- What a loop over terms asks and leaves, in the contract's words, over any net. A law takes what the code holds in a local with
-- the equation that the callee ensures of it. Assumes nothing.
use mathlib.Core.Path.{◌≡◌, refl, sym, ◌∙◌, ap}
use mathlib.Core.Bool.{Bool, cond}
use mathlib.Core.List.{List}
use Prim.Native.Nat.{ℕ, zero, suc, ◌+◌, ◌*◌, ◌-◌, ◌^◌, ◌≤◌, ◌<◌}
use native.Mathlib.Nat.{suc-mul, mul-one}
use native.Mathlib.Decide.{dec_lt}
use native.Mathlib.Omega.{arith}
use lib.IntN.{ℤ, pos, ◌*ℤ◌}
use lib.Dec.{eqb}
use lib.ListN.{length, drop}
use Rattle.whole.specs.Choose.{choose}
use Rattle.whole.proofs.Binomial.{choose-zero, choose-none, choose-pascal}
use Rattle.limbs.specs.Limbs.{only, Room, Gained}
use Rattle.limbs.proofs.Toward.{gained-as}
use Rattle.net.specs.Net.{Net}
use Rattle.net.specs.Blossom.{step}
use Rattle.sums.specs.gather.Table.{key_at, weight_at, term_of, terms_of}
use Rattle.sums.specs.gather.Owed.{Able, group_at, of_group, read_at, rest_at, owing, duty, Ready}
use Rattle.sums.proofs.gather.Turn.{due-zero, settled, Sofar}
use Rattle.sums.proofs.gather.Turning as Turning
use Rattle.sums.proofs.gather.Grouped.{first-of, later-group, later_of, later-read, later-rest, of_some, bridge, bridge-due, next-able}

pub choose_one : (n : ℕ) → choose n 1 ≡ n
choose_one zero = choose-none 0
choose_one (suc n) = rw (choose-pascal n 0, choose-zero n, choose_one n) (omega arith)

-- ---- no argument is left
module _ (t : List ℕ) (count outer second from begun s weight : ℕ) (sums : List ℤ) where
  none : 0 ≤ second
  none = omega arith

  pub settle-asks : Ready t count outer second 0 from begun s weight sums → (2 * s + 1 < length sums) × Room sums weight
  settle-asks ready =
      let p = ready.places in (
        omega arith,
        rw (
          later-rest t count outer second 0 none,
          later-group t count outer second 0 none,
          later_of t count outer second 0 none,
          due-zero 1 (drop from (terms_of t count 3)) weight begun,
          mul-one weight,
        )
            at ready.able.room,
      )

  pub settle-done : (p : Net) (v : ℤ) → v ≡ p 0 0 → (after : List ℤ) → Gained sums after (only s (pos weight *ℤ v)) weight
      → Gained sums after (owing t count outer second 0 from begun s weight p) (duty t count outer second 0 from begun weight)
  settle-done p v e after gained =
      rw (
        later-read t count outer second 0 none,
        later-rest t count outer second 0 none,
        later-group t count outer second 0 none,
        later_of t count
            outer second 0 none,
      )
      (settled (drop from (terms_of t count 3)) weight begun s p v sums after e gained)

-- ---- the loop, where l arguments are left after this one
module _ (t : List ℕ) (count outer second left from begun s weight : ℕ) (sums : List ℤ) (ready : Ready t count outer second left from begun s weight sums) where
  pub weight-small : weight ≤ 2 ^ 24
  weight-small = Turning.able-small _ _ _ _ _ _ _ _ _ _ ready.able

  pub open-here : (here : ℕ) → here ≡ of_group second left → here ≤ begun
  open-here here e = rw e ready.able.open_few

  module _ (p : Net) where
    abbrev pub Loop : ℕ → ℕ → ℕ → ℕ → List ℤ → Type 0
    Loop closed c b w now =
        Sofar (read_at t count second left) (rest_at t count second left) (terms_of t count (group_at outer second left)) (of_group second left) from begun
        weight s p sums closed c b w now

    pub start : (here ways : ℕ) → here ≡ of_group second left → ways ≡ choose begun here → Loop (weight * ways) from begun weight sums
    start here ways he we =
        Turning.start (read_at t count second left) s p t count ready.most _ _ _ from begun weight sums ready.able (weight * ways)
        (ap (λ n. weight * n) (we ∙ ap (choose begun) he))

    module _ (l : ℕ) (e : left ≡ suc l) (closed c b w : ℕ) (now : List ℤ) (f : Loop closed c b w now) where
      fewer : of_group second left ≡ suc (of_group second left - 1)
      fewer = omega (arith, of_some t count outer second left (omega arith))

      pub all_done : count ≤ c → Gained sums now (owing t count outer second left from begun s weight p) (duty t count outer second left from begun weight)
      all_done h = Turning.all_done (read_at t count second left) s p t count ready.most _ _ _ from begun weight sums ready.able _ fewer closed c
          b w now f h

      module _ (h : c < count) where
        able : Able t count ready.most (group_at outer second left) (rest_at t count second left) (of_group second left - 1) c b (w * weight_at t c) now
        able =
            Turning.next-able (read_at t count second left) s p t count ready.most _ _ _ from begun weight sums ready.able _ fewer closed c b w now f h

        pub next_small : w * weight_at t c ≤ 2 ^ 24
        next_small = Turning.able-small _ _ _ _ _ _ _ _ _ _ able

        pub place : 2 * (s + key_at t c + l * ready.most) + 1 < length now
        place =
            let r = ready.places in
            let n : left * ready.most ≡ l * ready.most + ready.most = rw e (suc-mul l ready.most) in
            omega (arith, ready.able.good.keys c h, f.toward.long)

        module _ (k v : ℕ) (ke : k ≡ s + key_at t c) (ve : v ≡ w * weight_at t c) (turn : Bool) (te : turn ≡ eqb l second) (start began : ℕ)
            (se : start ≡ cond turn 0 c) (be : began ≡ cond turn second b) where
          pub next-ready : Ready t count outer second l start began k v now
          next-ready = record {
            most = ready.most;
            able = rw (se, be, ve) (next-able t count outer second l turn te ready.second_few ready.most c b (w * weight_at t c) now (rw e at able));
            total = let m = ready.total in omega arith;
            second_few = ready.second_few;
            places = rw ke place;
          }

          -- what the next argument added, from a net that owes what this argument's step owes
          pub one_more : (q : Net)
              → ((a b x y R : ℕ) → owing t count outer second l a b x y q R ≡ owing t count outer second l a b x y
              (step (term_of t (group_at outer second (suc l)) c).argument p) R)
              → (here : ℕ) → here ≡ of_group second left → (then : List ℤ)
              → Gained now then (owing t count outer second l start began k v q) (duty t count outer second l start began v)
              → Loop closed (c + 1) here closed then
          one_more q same here he then gained =
              rw he
              (Turning.one_more (read_at t count second left) s p t count ready.most _ _ _ from begun weight sums ready.able _ fewer closed c b w
              now f h then
              (rw e (gained-as
              (λ R. bridge t count outer second l turn te c b (s + key_at t c) (w * weight_at t c)
              (step (term_of t (group_at outer second (suc l)) c).argument p) R)
              (bridge-due t count outer second l turn te c b (w * weight_at t c))
              (rw (se, be, ke, ve) at (gained-as (same start began k v) (λ i. duty t count outer second l start began v) gained)))))

-- ---- the last argument: since when its run is open no longer matters
pub one_of : (t : List ℕ) (count outer second : ℕ) → of_group second 1 ≡ 1
one_of t count outer second = go (dec_lt second 1)
  where
    go : Dec (second < 1) → of_group second 1 ≡ 1
    go (yes h) = rw (first-of t count outer second 1 h) (omega arith)
    go (no n) = later_of t count outer second 1 (omega arith)

pub record Ending (t : List ℕ) (count outer second from begun s weight : ℕ) (sums : List ℤ) (p : Net) (closed c w : ℕ) (now : List ℤ) : Type 0 where
  pub since : ℕ
  pub sofar : Sofar (read_at t count second 1) (rest_at t count second 1) (terms_of t count (group_at outer second 1)) (of_group second 1) from begun
      weight s p sums closed c since w now

module _ (t : List ℕ) (count outer second from begun s weight : ℕ) (sums : List ℤ) (ready : Ready t count outer second 1 from begun s weight sums)
    (p : Net) where
  pub last-start : Ending t count outer second from begun s weight sums p (weight * begun) from weight sums
  last-start = record {
    since = begun;
    sofar = start t count outer second 1 from begun s weight sums ready p 1 begun (sym (one_of t count outer second)) (sym (choose_one begun));
  }

  module _ (closed c w : ℕ) (now : List ℤ) (f : Ending t count outer second from begun s weight sums p closed c w now) where
    pub last_done : count ≤ c → Gained sums now (owing t count outer second 1 from begun s weight p) (duty t count outer second 1 from begun weight)
    last_done h = all_done t count outer second 1 from begun s weight sums ready p 0 refl closed c f.since w now f.sofar h

    module _ (h : c < count) where
      pub last-small : w * weight_at t c ≤ 2 ^ 24
      last-small = next_small t count outer second 1 from begun s weight sums ready p 0 refl closed c f.since w now f.sofar h

      abbrev anew : Bool
      anew = eqb 0 second

      module _ (k v : ℕ) (ke : k ≡ s + key_at t c) (ve : v ≡ w * weight_at t c) where
        settling : Ready t count outer second 0 (cond anew 0 c) (cond anew second f.since) k v now
        settling = next-ready t count outer second 1 from begun s weight sums ready p 0 refl closed c f.since w now f.sofar h k v ke ve anew refl
            _ _ refl refl

        pub last-asks : (2 * k + 1 < length now) × Room now v
        last-asks = settle-asks t count outer second (cond anew 0 c) (cond anew second f.since) k v now settling

        pub last_more : (q : Net)
            → ((a b x y R : ℕ) → owing t count outer second 0 a b x y q R ≡ owing t count outer second 0 a b x y
            (step (term_of t (group_at outer second 1) c).argument p) R)
            → (z : ℤ) → z ≡ q 0 0 → (then : List ℤ) → Gained now then (only k (pos v *ℤ z)) v
            → Ending t count outer second from begun s weight sums p closed (c + 1) closed then
        last_more q same z e then gained = record {
          since = 1;
          sofar =
              one_more t count outer second 1 from begun s weight sums ready p 0 refl closed c f.since w now f.sofar h k v ke ve anew refl _ _ refl refl
              q same 1 (sym (one_of t count outer second)) then
              (settle-done t count outer second (cond anew 0 c) (cond anew second f.since) k v now q z e then gained);
        }
