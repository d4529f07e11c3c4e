-- What number 0 says of a net and a moment, and back; the place of any answer; and that a reading leaves no choice. Assumes
-- nothing.
use mathlib.Core.Path.{◌≡◌, refl}
use mathlib.Core.Bool.{Bool, true, false}
use mathlib.Core.List.{List}
use Prim.Native.Nat.{ℕ, ◌≤◌, ◌<◌}
use native.Mathlib.Omega.{arith}
use lib.Dec.{ltb}
use lib.IntN.{ℤ, pos}
use lib.ListN.{length, drop}
use borrow.Author.Tests.{le-ltb, ltb-false, eq-eqb, ne_eqb}
use Rattle.whole.proofs.Determined.{Determined}
use Rattle.request.specs.declared.Answer.{Answer}
use Rattle.request.specs.Cascade.{Test, first, refused, decided}
use Rattle.request.specs.Refusal.{value_place}
use Rattle.request.proofs.Bounds.{value-most}
use Rattle.request.proofs.Cascade.{Each, numbered, none-holds, last_word, here, past, decided-is}
use Rattle.request.proofs.Forms.{or-none}
use Rattle.tick.specs.declared.Tick.{Tick}
use Rattle.tick.specs.Reading.{moment_one, most_points, reading}
use Rattle.tick.specs.Told.{not_net, not_point, not_moment, refusals, judged, told}

-- a net and a moment that are read
pub record Readable (points : List ℤ) (k : ℕ) : Type 0 where
  pub some : 0 < length points
  pub few : length points ≤ most_points
  pub travels : value_place points ≡ length points
  pub early : k ≤ moment_one

module _ (points : List ℤ) (k : ℕ) where
  pub readable : (judged points k).number ≡ 0 → Readable points k
  unfolding judged refusals not_net not_point not_moment Each numbered
  readable zero_is =
      let n = none-holds (refusals points k) (record { number = 0; place = 0; count = 1 }) tt zero_is in
      let net = or-none _ _ n.0 in
      let value : length points ≤ value_place points = ltb-false _ _ n.1.0 in
      let most = value-most points in
      record { some = ltb-false _ _ net.0; few = ltb-false _ _ net.1; travels = omega arith; early = ltb-false _ _ n.1.1.0 }

  pub accepted : Readable points k → judged points k ≡ record { number = 0; place = 0; count = 1 }
  unfolding judged refusals not_net not_point not_moment Each
  accepted r =
      let value = r.travels in
      let net : not_net points ≡ false = rw (le-ltb (length points) 1 r.some, le-ltb most_points (length points) r.few) in
      let point : not_point points ≡ false = le-ltb (value_place points) (length points) (omega arith) in
      last_word (refusals points k) _ (net, (point, (le-ltb moment_one k r.early, tt)))

  -- where number 0 is answered the reading is the curve's
  pub reading-is : (told points k).number ≡ 0 → (told points k).reading ≡ reading points k
  unfolding told
  reading-is zero_is = rw (eq-eqb _ _ zero_is)

  pub read_at : Readable points k → told points k ≡ record { number = 0; place = 0; reading = reading points k }
  unfolding told
  read_at r = rw (accepted r)

  -- and where another is answered it is 0
  pub refused-at : (a : Answer) → a ≡ judged points k → (a.number ≡ 0 → ⊥)
      → ◌≡◌ {A = Tick} (record { number = a.number; place = a.place; reading = pos 0 }) (told points k)
  unfolding told
  refused-at a e some = rw (e, ne_eqb (judged points k).number 0 (rw e at some))

  -- a place is that of one of 25 points
  place-by : (b : Bool) → not_net points ≡ b → (judged points k).place ≤ most_points
  unfolding judged refusals not_net refused Each
  place-by true e =
      let is : judged points k ≡ refused 3 0 = here _ _ _ e in
      rw is (omega arith)
  place-by false e =
      let last : Answer = record { number = 0; place = 0; count = 1 } in
      let few : length points ≤ most_points = ltb-false _ _ (or-none (ltb (length points) 1) (ltb most_points (length points)) e).1 in
      let most = value-most points in
      let rest : List Test = drop 1 (refusals points k) in
      let is : judged points k ≡ decided (first rest) last = past _ _ last e in
      rw is (decided-is (λ (a : Answer). a.place ≤ most_points) rest last (omega arith, (omega arith, tt)) (λ n. omega arith))

  pub place-most : (told points k).place ≤ most_points
  unfolding told
  place-most = place-by (not_net points) refl

  pub determined : Determined (λ (t : Tick). t ≡ told points k)
  determined = record { value = told points k; only = λ t e. e }
