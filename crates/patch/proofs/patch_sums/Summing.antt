-- A patch from its table and its surface to its numerators: the table's terms are the patch's, the sum may begin, and what it leaves at
-- an index's key is the literal sum. Assumes nothing.
use mathlib.Core.Path.{◌≡◌, refl, sym, ◌∙◌, ap, ap₂, subst}
use mathlib.Core.List.{List, [], ◌∷◌, map}
use Prim.Native.Nat.{ℕ, zero, suc, ◌+◌, ◌*◌, ◌-◌, ◌^◌, ◌≤◌, ◌<◌}
use native.Mathlib.Nat.{add-zero, le_trans, mul-le-mul, pow-le-pow_left, pow-le-pow_right}
use native.Mathlib.Omega.{arith}
use lib.Dec.{lit≤}
use lib.IntN.{ℤ, pos, nat_abs, ◌*ℤ◌}
use lib.ListN.{length, get_or, replicate, length-replicate}
use Rattle.whole.proofs.Ring.{◌⊗◌, one-⊗}
use Rattle.whole.specs.Choose.{choose}
use Rattle.limbs.specs.Limbs.{only, Room, Gained}
use Rattle.limbs.proofs.Gaining.{room-less, zeros-room, summed}
use Rattle.request.proofs.Bounds.{path-numbers}
use Rattle.net.specs.Net.{row_start}
use Rattle.net.specs.Blossom.{within}
use Rattle.net.specs.runs.Terms.{Term}
use Rattle.net.specs.runs.Walk.{walk}
use Rattle.net.specs.runs.Ride.{leaf, below}
use Rattle.net.specs.runs.Budget.{weights}
use Rattle.net.proofs.runs.Walk.{walk-zero}
use Rattle.sums.specs.gather.Table.{share_at, argument_of, term_of, terms_of, Good, Even}
use Rattle.sums.specs.gather.Owed.{owing, duty, Ready}
use Rattle.sums.specs.Loaded.{stacked}
use Rattle.sums.proofs.Tabled.{triangle-owes, triangle-duty, triangle-ready, only-leaf}
use Rattle.patch_net.specs.Patch.{Patch, longest, places, Index, index, row, rows, indices, index_at, net_of, path_number}
use Rattle.patch_net.specs.Composed.{multinomial}
use Rattle.patch_net.specs.Sizes.{Composable}
use Rattle.patch_net.proofs.Half.{some-ways}
use Rattle.patch_net.proofs.Standing.{Stands, stands-all, indices-length, places-few, places-some}
use Rattle.patch_net.proofs.Sizes.{adds-up}
use Rattle.patch_walk.specs.PatchTerms.{key_of, patch_term, patch_terms}
use Rattle.patch_walk.proofs.Walked.{numerator-walk}
use Rattle.patch.specs.patch_sums.Contract.{most_longest, limb_count, Filled, Summed}

below-map : {A B : Type 0} (l : List A) (d : A) (f : ℕ → B) (g : A → B) → ((c : ℕ) → c < length l → f c ≡ g (get_or l c d)) → below (length l) f ≡ map g l
unfolding below
below-map [] d f g h = refl
below-map (a ∷ l) d f g h = ap₂ ◌∷◌ (h 0 (omega arith)) (below-map l d (λ c. f (suc c)) g (λ c m. h (suc c) (omega arith)))

-- the multinomials of a domain add up to 3^N
domain-weights : (p : Patch) (N : ℕ) → N ≤ 3 → weights (map (patch_term p) (indices N)) ≤ 27
unfolding weights patch_term indices rows row multinomial choose
domain-weights p zero h = lit≤ tt
domain-weights p (suc zero) h = lit≤ tt
domain-weights p (suc (suc zero)) h = lit≤ tt
domain-weights p (suc (suc (suc zero))) h = lit≤ tt
domain-weights p (suc (suc (suc (suc N)))) h = absurd (omega arith)

module _ (p : Patch) (fine : Composable p) where
  pub longest-most : longest p ≤ most_longest
  unfolding longest
  longest-most = mul-le-mul fine.outer_most fine.domain_most

  -- what the sums are worth, where what is owed is the walk over the patch's terms
  finished : (out : List ℤ) (f : ℕ → ℤ) (w : ℕ) → w ≤ 2 ^ 24 → ((R : ℕ) → f R ≡ walk (patch_terms p) p.outer p.outer (leaf R) 0 (net_of p))
      → Gained (replicate limb_count (pos 0)) out f w → Summed p out
  finished out f w light is gained =
      let all = summed limb_count out f w light gained in
      record {
        long = gained.long ∙ length-replicate limb_count (pos 0);
        each = λ t h. all.0 (key_of t) ∙ is (key_of t) ∙ sym (numerator-walk p t longest-most h);
        small = all.1;
      }

  -- no argument: the numerator is the one control value
  module _ (none : p.outer ≡ 0) (sums : List ℤ) (se : sums ≡ replicate limb_count (pos 0)) (v : ℤ) (ve : v ≡ get_or p.surface 0 (pos 0)) where
    pub first-asks : nat_abs v ≤ 4096 → (2 * 0 + 1 < length sums) × (nat_abs v ≤ 2 ^ 52) × Room sums 1
    first-asks few = rw se (
      rw (length-replicate limb_count (pos 0)) (omega arith),
      omega arith,
      room-less (replicate limb_count (pos 0)) (2 ^ 24) 1 (omega arith) (zeros-room limb_count),
    )

    corner : v ≡ net_of p 0 0
    unfolding net_of row_start
    corner = ve

    pub first-leaves : (out : List ℤ) → Gained sums out (only 0 (pos 1 *ℤ v)) 1 → Summed p out
    unfolding ◌⊗◌
    first-leaves out gained =
        finished out _ 1 (omega arith)
        (λ R. ap (λ v. only 0 (pos 1 *ℤ v) R) corner ∙ only-leaf 0 1 R (net_of p) ∙ one-⊗ (leaf R 0 (net_of p))
        ∙ sym (ap (λ n. walk (patch_terms p) n n (leaf R) 0 (net_of p)) none ∙ walk-zero (patch_terms p) 0 (leaf R) 0 (net_of p)))
        (rw se at gained)

  module _ (t : List ℕ) (filled : Filled p.domain p.path t) where
    abbrev N : ℕ
    N = p.domain

    -- ---- a term is its domain point
    module _ (c : ℕ) (m : c < places N) where
      abbrev at : Index
      at = index_at N c

      stands : Stands N c at
      stands = stands-all N c m

      number-at : (q : ℕ) → path_number p q at.i at.j ≡ get_or p.path (3 * c + q) (pos 0)
      unfolding path_number
      number-at q = ap (λ (n : ℕ). get_or p.path (3 * n + q) (pos 0)) stands.here

      -- the size of number q, as the table has it
      size-at : (q a : ℕ) → a ≡ nat_abs (get_or p.path (3 * c + q) (pos 0)) → pos a ≡ path_number p q at.i at.j
      size-at q a e = ap pos e ∙ sym (path-numbers p.path fine.numbers (3 * c + q)).size ∙ sym (number-at q)

      x : pos (share_at t c 2) ≡ path_number p 0 at.i at.j
      x = size-at 0 _ ((filled.each c m).first ∙ ap (λ (n : ℕ). nat_abs (get_or p.path n (pos 0))) (sym (add-zero (3 * c))))

      y : pos (share_at t c 3) ≡ path_number p 1 at.i at.j
      y = size-at 1 _ (filled.each c m).second

      whole-point : share_at t c 2 + share_at t c 3 + nat_abs (path_number p 2 at.i at.j) ≡ 1024
      whole-point =
          let a : share_at t c 2 ≡ nat_abs (path_number p 0 at.i at.j) = ap nat_abs x in
          let b : share_at t c 3 ≡ nat_abs (path_number p 1 at.i at.j) = ap nat_abs y in
          omega (arith, adds-up p fine at stands.whole)

      z : pos (1024 - share_at t c 2 - share_at t c 3) ≡ path_number p 2 at.i at.j
      z =
          let d : 1024 - share_at t c 2 - share_at t c 3 ≡ nat_abs (path_number p 2 at.i at.j) = omega (arith, whole-point) in
          size-at 2 _ (d ∙ ap nat_abs (number-at 2))

      term : term_of t 0 c ≡ patch_term p at
      unfolding term_of argument_of patch_term
      term = λ i. record { weight = (filled.each c m).weight i; key = (filled.each c m).key i; argument = within (x i) (y i) (z i) }

    terms : terms_of t (places N) 0 ≡ patch_terms p
    unfolding terms_of patch_terms index_at
    terms =
        subst (λ (n : ℕ). below n (term_of t 0) ≡ map (patch_term p) (indices N)) (indices-length N)
        (below-map (indices N) (index 0 0 0) (term_of t 0) (patch_term p) (λ c m. term c (rw (indices-length N) at m)))

    -- ---- the sum may begin
    good : Good t (places N) (10 * N)
    good = record {
      few = places-few N fine.domain_most;
      some = λ c m. rw (filled.each c m).weight (some-ways (index_at N c));
      keys = λ c m. rw (filled.each c m).key (let w = (stands c m).whole in omega arith);
    }

    pub even : (count : ℕ) → count ≡ places N → Even t count
    even count e = record { both = λ c m. omega (arith, whole-point c (rw e at m)) }

    light : weights (terms_of t (places N) 0) ^ p.outer ≤ 2 ^ 24
    unfolding patch_terms
    light =
        rw terms
        (le_trans (pow-le-pow_left {m = 27} (domain-weights p N fine.domain_most) p.outer)
        (le_trans (pow-le-pow_right {n = 27} (omega arith) fine.outer_most) (lit≤ tt)))

    module _ (count : ℕ) (ce : count ≡ places N) (some : 0 < p.outer) (sums : List ℤ) (se : sums ≡ replicate limb_count (pos 0)) where
      pub asks : Ready t count 0 0 p.outer 0 p.outer 0 1 sums
      asks =
          let o = fine.outer_most in
          let wide : 10 * N ≤ 30 = let d = fine.domain_most in omega arith in
          let inside : p.outer * (10 * N) ≤ 3 * 30 = mul-le-mul fine.outer_most wide in
          rw (se, ce)
          (triangle-ready t (places N) p.outer some (10 * N) limb_count good (places-some N) (omega arith) light (omega arith))

      pub leaves : (out : List ℤ) → Gained sums out (owing t count 0 0 p.outer 0 p.outer 0 1 (stacked p.outer p.surface))
          (duty t count 0 0 p.outer 0 p.outer 1) → Summed p out
      unfolding stacked net_of
      leaves out gained =
          finished out _ _ (rw (triangle-duty t (places N) p.outer some) light)
          (λ R. triangle-owes t (places N) p.outer some (net_of p) R ∙ ap (λ (T : List Term). walk T p.outer p.outer (leaf R) 0 (net_of p)) terms)
          (rw (se, ce) at gained)
