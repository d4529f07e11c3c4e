-- One place more of both arrays is written; and what an acceptance and a refusal come to. Assumes nothing.
use mathlib.Core.Path.{◌≡◌, refl, sym, ap, ap₂, ◌∙◌}
use mathlib.Core.Bool.{false}
use mathlib.Core.List.{List, [], ◌∷◌, map, append_assoc}
use Prim.Native.Nat.{ℕ, suc, ◌+◌, ◌*◌, ◌^◌, ◌≤◌, ◌<◌}
use native.Mathlib.Numerals.{add-one}
use native.Mathlib.Nat.{mul-le-mul, mul-pos, one-le-pow, pow-le-pow_right}
use native.Mathlib.Omega.{arith}
use lib.Dec.{ltb}
use lib.IntN.{ℤ, pos, nat_abs}
use lib.ListN.{length, get_or, take, drop, set, length-map, length-append, length-drop}
use lib.Seq.{take-suc, drop-cons, set_at, length-take-le}
use borrow.Author.Tests.{ltb-false}
use Rattle.whole.specs.Round.{nearest}
use Rattle.whole.proofs.Rounding.{nearest-size}
use Rattle.two_words.specs.Words.{Roundable}
use Rattle.request.specs.declared.Answer.{Answer}
use Rattle.request.proofs.Cascade.{Each, numbered, none-holds, last_word, refused_none}
use Rattle.request.proofs.Forms.{or-none}
use Rattle.request.proofs.Bounds.{value-most, parameter-most}
use Rattle.request.proofs.Least.{least-le}
use Rattle.request.specs.Refusal.{uneven, value_place, parameter_place}
use Rattle.patch_net.specs.Patch.{Patch, longest, places, Index, index, indices, index_at}
use Rattle.patch_net.specs.Refusal.{not_degree, not_room, not_value, not_parameter, not_balance, balance_place, refusals, accepted, answer}
use Rattle.patch_net.specs.Composed.{multinomial, numerator, denominator, point}
use Rattle.patch_net.specs.Afterwards.{afterwards, exact_after, points_after, Patched}
use Rattle.patch_net.specs.Sizes.{Composable}
use Rattle.patch_net.proofs.Standing.{Stands, stands_at, stands-all, indices-length}
use Rattle.patch_net.proofs.Half.{some-ways}
use Rattle.patch_net.proofs.Sizes.{numerator-size}
use Rattle.patch_net.proofs.Kept.{map_at, after_none}
use Rattle.patch.specs.patch_sums.Contract.{Summed}
use Rattle.patch.proofs.patch_sums.Summing.{longest-most}
use Rattle.patch.specs.Writing.{exact_at, point_at, Fits, Fitting, Put, Wrote}

-- ---- one place
module _ (sums : List ℤ) (n : ℕ) (t : Index) (f : Fits sums n t) where
  -- it fits one signed number
  pub fits_word : multinomial t ≤ 2 ^ 18 → nat_abs (exact_at sums t) < 2 ^ 63
  fits_word h =
      let power : 1024 ^ n ≤ 2 ^ 30 = pow-le-pow_right {n = 1024} (omega arith) f.few in
      omega (arith, f.within, mul-le-mul h power)

  -- and its point is a travel
  pub point-most : nat_abs (point_at sums n t) ≤ 4096
  point-most = nearest-size (exact_at sums t) (multinomial t * 1024 ^ n) 4096 (mul-pos (some-ways t) (one-le-pow n 1024 (omega arith))) f.within

  pub roundable : multinomial t ≤ 2 ^ 18 → Roundable (exact_at sums t) (multinomial t) n
  roundable h = record { few = let k = f.few in omega arith; some = some-ways t; most = omega arith; within = f.within }

-- ---- an array under way
map_same : (f g : Index → ℤ) (l : List Index) (d : Index) → ((c : ℕ) → c < length l → f (get_or l c d) ≡ g (get_or l c d)) → map f l ≡ map g l
map_same f g [] d h = refl
map_same f g (a ∷ l) d h = rw (h 0 (omega arith)) (ap (λ m. g a ∷ m) (map_same f g l d (λ c m. h (suc c) (omega arith))))

after-length : (k : ℕ) (values lent : List ℤ) → k ≤ length values → k ≤ length lent → length (afterwards k values lent) ≡ length lent
unfolding afterwards
after-length k values lent v m = rw (length-append, length-take-le k values v, length-drop) (omega arith)

after_more : (k : ℕ) (values lent : List ℤ) (v : ℤ) → k < length values → k < length lent → v ≡ get_or values k (pos 0)
    → set (afterwards k values lent) k v ≡ afterwards (k + 1) values lent
unfolding afterwards
after_more k values lent v h m e =
    rw (add-one k, drop-cons lent k (pos 0) m, take-suc values k (pos 0) h, append_assoc, ← e)
    (set_at (take k values) (get_or lent k (pos 0)) (drop (suc k) lent) v k (length-take-le k values (omega arith)))

module _ (sums : List ℤ) (n L count : ℕ) (fits : Fitting sums n L count) (exact points : List ℤ) (er : count ≤ length exact) (pr : count ≤ length points) where
  values : (f : Index → ℤ) → length (map f (indices L)) ≡ count
  values f = length-map (indices L) f ∙ indices-length L ∙ sym fits.all

  pub wrote_none : Wrote sums n L 0 exact points exact points
  wrote_none = record { exact_is = sym (after_none _ exact); points_is = sym (after_none _ points) }

  module _ (R : ℕ) (exact' points' : List ℤ) (w : Wrote sums n L R exact points exact' points') where
    pub exact-long : R ≤ count → length exact' ≡ length exact
    exact-long h = ap length w.exact_is ∙ after-length R (map (exact_at sums) (indices L)) exact (rw (values (exact_at sums)) h) (omega arith)

    pub points-long : R ≤ count → length points' ≡ length points
    points-long h = ap length w.points_is ∙ after-length R (map (point_at sums n) (indices L)) points (rw (values (point_at sums n)) h) (omega arith)

    module _ (h : R < count) (t : Index) (s : Stands L R t) where
      value : (f : Index → ℤ) → f t ≡ get_or (map f (indices L)) R (pos 0)
      unfolding index_at
      value f = ap f (sym (stands_at L R t s)) ∙ sym (map_at f (indices L) _ R (rw (indices-length L ∙ sym fits.all) h))

      pub wrote-more : (exact'' points'' : List ℤ) → Put sums n t R exact' points' exact'' points'' → Wrote sums n L (R + 1) exact points exact'' points''
      wrote-more exact'' points'' put = record {
        exact_is = put.exact_is ∙ ap (λ l. set l R (exact_at sums t)) w.exact_is
            ∙ after_more R _ exact (exact_at sums t) (rw (values (exact_at sums)) h) (omega arith) (value (exact_at sums));
        points_is = put.points_is ∙ ap (λ l. set l R (point_at sums n t)) w.points_is
            ∙ after_more R _ points (point_at sums n t) (rw (values (point_at sums n)) h) (omega arith) (value (point_at sums n));
      }

-- ---- what the judgement says
pub longest-is : (p : Patch) → p.outer * p.domain ≡ longest p
unfolding longest
longest-is p = refl

module _ (p : Patch) (exact points : List ℤ) (a : Answer) (ae : a ≡ answer p (length exact) (length points)) where
  pub refused-result : (a.number ≡ 0 → ⊥) → Patched p exact points a exact points
  unfolding answer exact_after points_after accepted
  refused-result some =
      let tests = refusals p (length exact) (length points) in
      let none : (answer p (length exact) (length points)).count ≡ 0 = refused_none tests (accepted p) refl (rw ae at some) in
      record { answered = ae; exact_is = rw none (sym (after_none _ exact)); points_is = rw none (sym (after_none _ points)) }

  module _ (zero_is : a.number ≡ 0) where
    none : Each (λ t. t.holds ≡ false) (refusals p (length exact) (length points))
    unfolding answer refusals numbered
    none = none-holds (refusals p (length exact) (length points)) (accepted p) tt (ap (λ (b : Answer). b.number) (sym ae) ∙ zero_is)

    pub count_is : a.count ≡ places (longest p)
    unfolding answer accepted
    count_is = ap (λ (b : Answer). b.count) (ae ∙ last_word (refusals p (length exact) (length points)) (accepted p) none)

    pub composable : Composable p
    unfolding refusals Each not_degree not_value not_parameter not_balance balance_place
    composable =
        let d = or-none _ _ none.0 in
        let v : length p.surface ≤ value_place p.surface = ltb-false _ _ none.1.1.1.1.0 in
        let m : length p.path ≤ parameter_place p.path = ltb-false _ _ none.1.1.1.1.1.0 in
        let b : places p.domain ≤ balance_place p = ltb-false _ _ none.1.1.1.1.1.1.0 in
        record {
          outer_most = ltb-false _ _ d.0;
          domain_most = ltb-false _ _ d.1;
          travels = omega (arith, value-most p.surface);
          numbers = omega (arith, parameter-most p.path);
          even = omega (arith, least-le (places p.domain) (uneven p.path));
        }

    pub exact-room : a.count ≤ length exact
    unfolding refusals Each not_room
    exact-room = rw count_is (ltb-false _ _ (or-none (ltb (length exact) (places (longest p))) _ none.1.1.1.0).0)

    pub points-room : a.count ≤ length points
    unfolding refusals Each not_room
    points-room = rw count_is (ltb-false _ _ (or-none (ltb (length exact) (places (longest p))) _ none.1.1.1.0).1)

    module _ (sums : List ℤ) (s : Summed p sums) where
      fit : (t : Index) → t.i + (t.j + t.k) ≡ longest p → Fits sums p.outer t
      unfolding denominator
      fit t h = record {
        whole = rw h (longest-most p composable);
        few = composable.outer_most;
        long = s.long;
        small = s.small;
        within = rw (s.each t h) (numerator-size p composable t h);
      }

      pub fitting : (L : ℕ) → L ≡ longest p → Fitting sums p.outer L a.count
      fitting L e = rw e (record { all = count_is; each = fit })

      -- what is written are the numerators and the points
      same : (f g : Index → ℤ) → ((t : Index) → t.i + (t.j + t.k) ≡ longest p → f t ≡ g t) → map f (indices (longest p)) ≡ map g (indices (longest p))
      unfolding index_at
      same f g each =
          map_same f g (indices (longest p)) (index 0 0 0)
          (λ c m. each _ (stands-all (longest p) c (rw (indices-length (longest p)) at m)).whole)

      written : (f g : Index → ℤ) (lent : List ℤ) → ((t : Index) → t.i + (t.j + t.k) ≡ longest p → f t ≡ g t)
          → afterwards a.count (map f (indices (longest p))) lent
          ≡ afterwards (answer p (length exact) (length points)).count (map g (indices (longest p))) lent
      written f g lent each = ap₂ (λ (n : ℕ) (l : List ℤ). afterwards n l lent) (ap (λ (b : Answer). b.count) ae) (same f g each)

      pub accepted-result : (L : ℕ) → L ≡ longest p → (exact' points' : List ℤ) → Wrote sums p.outer L a.count exact points exact' points'
          → Patched p exact points a exact' points'
      unfolding exact_after points_after point denominator
      accepted-result L e exact' points' w =
          let v : Wrote sums p.outer (longest p) a.count exact points exact' points' = rw e at w in
          record {
            answered = ae;
            exact_is = v.exact_is ∙ written (exact_at sums) (numerator p) exact s.each;
            points_is = v.points_is
                ∙ written (point_at sums p.outer) (point p) points (λ t h. ap (λ n. nearest n (multinomial t * 1024 ^ p.outer)) (s.each t h));
          }
