-- A ride from its table and its surface to its numerators: the sum may begin, what it owes is 01's literal sum (rule Composed
-- net), and what it leaves is far below 2^63 in every limb. Assumes nothing.
use mathlib.Core.Path.{◌≡◌, refl, sym, ◌∙◌, ap, ap₂, subst}
use mathlib.Core.Bool.{true, false, ◌||◌, true≢false}
use mathlib.Core.List.{List, ◌∷◌}
use Prim.Native.Nat.{ℕ, zero, suc, ◌+◌, ◌*◌, ◌-◌, ◌^◌, ◌≤◌, ◌<◌}
use native.Mathlib.Nat.{zero-add, add-zero, one-mul, mul-one, pow-zero, le_trans, pow-le-pow_left, pow-le-pow_right}
use native.Mathlib.Numerals.{add-one}
use native.Mathlib.Omega.{arith}
use native.Mathlib.Decide.{dec_lt, ℕ_discrete}
use lib.IntN.{ℤ, pos, nat_abs, ◌*ℤ◌}
use lib.Dec.{eqb}
use lib.ListN.{length, get_or, replicate, length-replicate}
use borrow.Author.Tests.{eqb-true, eq-eqb, ne_eqb, not-false}
use Rattle.whole.specs.Choose.{choose}
use Rattle.whole.proofs.Ring.{◌⊗◌, one-⊗, pos-mul, pow_pos}
use Rattle.whole.proofs.Ring as Ring
use Rattle.limbs.specs.Limbs.{worth, only, Room, Gained}
use Rattle.limbs.proofs.Gaining.{room-less, zeros-room, summed}
use Rattle.request.specs.declared.Head.{Head}
use Rattle.request.specs.Head.{most_degree, most_n, numbers, degree, longest}
use Rattle.request.specs.Request.{Request}
use Rattle.request.proofs.Forms.{small, longest-most, at-curve, at-tensor, at-triangle, at-outer}
use Rattle.request.proofs.Bounds.{path-numbers, uneven-is, even-points}
use Rattle.net.specs.Net.{Net, row_start, place_of, net_of, number_at, path_number}
use Rattle.net.specs.Blossom.{Argument, along_u, along_v, within}
use Rattle.net.specs.Composed.{numerator}
use Rattle.net.specs.Sizes.{Composable}
use Rattle.net.proofs.Rounded.{choose-some}
use Rattle.net.specs.runs.Terms.{Term, term_at, Reading}
use Rattle.net.specs.runs.Walk.{walk}
use Rattle.net.specs.runs.Ride.{leaf, below, path_term, path_terms}
use Rattle.net.specs.runs.Budget.{weights, budget}
use Rattle.net.specs.runs.Tree.{tree, entries}
use Rattle.net.proofs.runs.Walk.{walk-zero}
use Rattle.net.proofs.runs.Ride.{curve-walk, tensor-walk, triangle-walk}
use Rattle.net.proofs.runs.Budget.{budget-is, path-weights}
use Rattle.net.proofs.runs.Tree.{formed-entries}
use Rattle.sums.specs.steps.Layout.{boxed}
use Rattle.sums.specs.gather.Table.{key_at, weight_at, share_at, argument_of, term_of, terms_of, Good, Inside, Even}
use Rattle.sums.specs.gather.Owed.{owed, due, of_group, rest_at, owing, duty, Ready}
use Rattle.sums.specs.gather.Formed.{Counted}
use Rattle.sums.proofs.gather.Turn.{due-budget, due-some, length-terms, term-at, term-weight, only-leaf}
use Rattle.sums.proofs.gather.Grouped.{first_group, first-of, first_read, first_rest, later-group, later_of, later-read, later-rest, of-most}
use Rattle.sums.proofs.gather.Boxes.{box-reads}
use Rattle.sums.proofs.gather.Triangles.{all_of, triangle-reads}
use Rattle.sums.specs.Filled.{PointAt, Filled}
use Rattle.sums.specs.Loaded.{stacked}
use Rattle.sums.specs.Contract.{Summed, Formed}
use Rattle.sums.proofs.Filling.{triangle-numbers}

-- ---- terms, one by one
below-same : (n : ℕ) (f g : ℕ → Term) → ((c : ℕ) → c < n → f c ≡ g c) → below n f ≡ below n g
unfolding below
below-same zero f g h = refl
below-same (suc n) f g h = ap₂ ◌∷◌ (h 0 (omega arith)) (below-same n (λ c. f (suc c)) (λ c. g (suc c)) (λ c m. h (suc c) (omega arith)))

below-weights : (n : ℕ) (f g : ℕ → Term) → ((c : ℕ) → c < n → (f c).weight ≡ (g c).weight) → weights (below n f) ≡ weights (below n g)
unfolding below weights
below-weights zero f g h = refl
below-weights (suc n) f g h = ap₂ ◌+◌ (h 0 (omega arith)) (below-weights n (λ c. f (suc c)) (λ c. g (suc c)) (λ c m. h (suc c) (omega arith)))

-- a table's term is a path's: its key, its weight and its argument are
u-term : (t : List ℕ) (N : ℕ) (read : ℕ → Argument) (c : ℕ) → key_at t c ≡ c → weight_at t c ≡ choose N c → along_u (pos (share_at t c 2)) ≡ read c
    → term_of t 2 c ≡ path_term N read c
unfolding term_of argument_of path_term
u-term t N read c k w a = λ i. record { weight = w i; key = k i; argument = a i }

v-term : (t : List ℕ) (N : ℕ) (read : ℕ → Argument) (c : ℕ) → key_at t c ≡ c → weight_at t c ≡ choose N c → along_v (pos (share_at t c 3)) ≡ read c
    → term_of t 3 c ≡ path_term N read c
unfolding term_of argument_of path_term
v-term t N read c k w a = λ i. record { weight = w i; key = k i; argument = a i }

xyz-term : (t : List ℕ) (N : ℕ) (read : ℕ → Argument) (c : ℕ) → key_at t c ≡ c → weight_at t c ≡ choose N c
    → within (pos (share_at t c 2)) (pos (share_at t c 3)) (pos (1024 - share_at t c 2 - share_at t c 3)) ≡ read c → term_of t 0 c ≡ path_term N read c
unfolding term_of argument_of path_term
xyz-term t N read c k w a = λ i. record { weight = w i; key = k i; argument = a i }

-- ---- what is owed from the start of a ride of l arguments and then m
owed-one : (F : ℕ → Reading) (T : List Term) (left b s : ℕ) (p : Net) (R : ℕ) → owed F T 1 left b s p R ≡ walk T left b (F R) s p
unfolding owed ◌⊗◌
owed-one F T left b s p R = one-⊗ (walk T left b (F R) s p)

module _ (t : List ℕ) (count outer m : ℕ) where
  abbrev U : List Term
  U = terms_of t count outer

  abbrev W : List Term
  W = terms_of t count 3

  owing-walk : (l : ℕ) (p : Net) (R : ℕ) → owing t count outer m (l + m) 0 (of_group m (l + m)) 0 1 p R ≡ walk U l l (λ s p. walk W m m (leaf R) s p) 0 p
  owing-walk zero p R =
      let h : 0 + m ≤ m = omega arith in
      rw (later-read t count outer m (0 + m) h, later-group t count outer m (0 + m) h, later_of t count outer m (0 + m) h, zero-add m)
      (owed-one leaf W m m 0 p R ∙ sym (walk-zero U 0 (λ s p. walk W m m (leaf R) s p) 0 p))
  owing-walk (suc l) p R =
      let h : m < suc l + m = omega arith in
      let d : suc l + m - m ≡ suc l = omega arith in
      rw (first_read t count outer m (suc l + m) h, first_group t count outer m (suc l + m) h, first-of t count outer m (suc l + m) h, d)
      (owed-one (λ R. walk W m m (leaf R)) U (suc l) (suc l) 0 p R)

  -- and by how much weight: the power of all weights, for each group
  due-one : (rest : ℕ) (T : List Term) (r : ℕ) → due rest T 1 r r ≡ weights T ^ r * rest
  due-one rest T r = due-budget rest T 1 r r ∙ one-mul _ ∙ budget-is T r rest

  pub duty-is : (l : ℕ) → duty t count outer m (l + m) 0 (of_group m (l + m)) 1 ≡ weights U ^ l * (weights W ^ m * 1)
  duty-is zero =
      let h : 0 + m ≤ m = omega arith in
      rw (later-rest t count outer m (0 + m) h, later-group t count outer m (0 + m) h, later_of t count outer m (0 + m) h, zero-add m)
      (due-one 1 W m ∙ sym (ap (λ x. x * (weights W ^ m * 1)) (pow-zero (weights U)) ∙ one-mul _))
  duty-is (suc l) =
      let h : m < suc l + m = omega arith in
      let d : suc l + m - m ≡ suc l = omega arith in
      rw (first_rest t count outer m (suc l + m) h, first_group t count outer m (suc l + m) h, first-of t count outer m (suc l + m) h, d)
      (due-one (budget W m m 1) U (suc l) ∙ ap (λ x. weights U ^ suc l * x) (budget-is W m 1))

  -- where there is no second group
  pub owing-single : (l : ℕ) (p : Net) (R : ℕ) → m ≡ 0 → owing t count outer m (l + m) 0 (of_group m (l + m)) 0 1 p R ≡ walk U l l (leaf R) 0 p
  owing-single l p R e = owing-walk l p R ∙ (λ i. walk U l l (λ s p. none-later s p i) 0 p)
    where
      none-later : (s : ℕ) (p : Net) → walk W m m (leaf R) s p ≡ leaf R s p
      none-later s p = ap (λ n. walk W n n (leaf R) s p) e ∙ walk-zero W 0 (leaf R) s p

-- ---- all the weight of a ride
pow-add : (a m n : ℕ) → a ^ m * a ^ n ≡ a ^ (m + n)
pow-add a m n = ap nat_abs (pos-mul (a ^ m) (a ^ n) ∙ ap₂ ◌⊗◌ (sym (pow_pos a m)) (sym (pow_pos a n)) ∙ sym (Ring.pow-add (pos a) m n) ∙ pow_pos a (m + n))

-- (2^N)^r is within the budget of the limbs
light : (N l m : ℕ) → N ≤ 6 → l + m ≤ 4 → (2 ^ N) ^ l * ((2 ^ N) ^ m * 1) ≤ 2 ^ 24
light N l m n r =
    rw (mul-one ((2 ^ N) ^ m), pow-add (2 ^ N) l m)
    (le_trans (pow-le-pow_left {m = 2 ^ 6} (pow-le-pow_right (omega arith) n) (l + m)) (pow-le-pow_right {n = 64} (omega arith) r))

-- no argument is left
none_left : (T : List Term) (n : ℕ) (F : Reading) (s : ℕ) (p : Net) → n ≡ 0 → walk T n n F s p ≡ F s p
none_left T n F s p e = ap (λ n. walk T n n F s p) e ∙ walk-zero T 0 F s p

-- ---- what is left in the places
module _ (rq : Request) (fine : Composable rq) where
  pub finished : (out : List ℤ) (f : ℕ → ℤ) (w : ℕ) → w ≤ 2 ^ 24 → ((R : ℕ) → f R ≡ numerator rq R) → Gained (replicate 50 (pos 0)) out f w → Summed rq out
  finished out f w light is gained =
      let all = summed 50 out f w light gained in
      let worths : (R : ℕ) → worth out R ≡ numerator rq R = λ R. all.0 R ∙ is R in record {
        long = gained.long ∙ length-replicate 50 (pos 0);
        each = worths;
        small = all.1;
      }

  abbrev h : Head
  h = rq.head

  -- ---- no argument: the numerator is the one control value
  module _ (zero_is : degree h ≡ 0) where
    first-zero : h.first ≡ 0
    first-zero = omega (arith, (small h fine.small).r_is)

    second-zero : h.second ≡ 0
    second-zero = omega (arith, (small h fine.small).r_is)

    value-is : (R : ℕ) → numerator rq R ≡ leaf R 0 (net_of rq)
    value-is R = go (ℕ_discrete h.form 1) (ℕ_discrete h.form 2)
      where
        go : Dec (h.form ≡ 1) → Dec (h.form ≡ 2) → numerator rq R ≡ leaf R 0 (net_of rq)
        go (yes f) b = curve-walk rq R f ∙ none_left _ _ (leaf R) 0 (net_of rq) first-zero
        go (no a) (yes f) = tensor-walk rq R f ∙ none_left _ _ _ 0 (net_of rq) first-zero ∙ none_left _ _ (leaf R) 0 (net_of rq) second-zero
        go (no a) (no b) = triangle-walk rq R a b ∙ none_left _ _ (leaf R) 0 (net_of rq) first-zero

    first-place : place_of h 0 0 ≡ 0
    unfolding place_of row_start
    first-place = go (ℕ_discrete h.form 1) (ℕ_discrete h.form 2)
      where
        go : Dec (h.form ≡ 1) → Dec (h.form ≡ 2) → place_of h 0 0 ≡ 0
        go (yes f) b = at-curve h _ _ _ f
        go (no n) (yes f) = at-tensor h _ _ _ f ∙ omega arith
        go (no n) (no m) = at-triangle h _ _ _ n m

    pub only-value : (v : ℤ) → v ≡ get_or rq.surface 0 (pos 0) → (R : ℕ) → only 0 (pos 1 *ℤ v) R ≡ numerator rq R
    unfolding net_of ◌⊗◌
    only-value v e R =
        let is : v ≡ net_of rq 0 0 = e ∙ ap (λ k. get_or rq.surface k (pos 0)) (sym first-place) in
        ap (λ v. only 0 (pos 1 *ℤ v) R) is ∙ only-leaf 0 1 R (net_of rq) ∙ one-⊗ (leaf R 0 (net_of rq)) ∙ sym (value-is R)

    pub none-formed : Formed h 0
    unfolding tree entries
    none-formed = record { curve = λ f. rw zero_is; triangle = λ a b. rw zero_is }

  -- ---- a table of its terms
  module _ (t : List ℕ) (filled : Filled h rq.path t) (r : ℕ) (e : r ≡ degree h) where
    abbrev N : ℕ
    N = rq.head.N

    abbrev l : ℕ
    l = rq.head.first

    abbrev m : ℕ
    m = rq.head.second

    together : r ≡ l + m
    together = e ∙ (small h fine.small).r_is

    few : l + m ≤ 4
    few = (small h fine.small).r_most

    N_most : N ≤ most_n
    N_most = (small h fine.small).N_most

    point : (c : ℕ) → c < suc N → PointAt h rq.path t c
    point c k = filled.each c (omega arith)

    -- ---- the sum may begin
    some-weight : (c : ℕ) → c < suc N → 0 < weight_at t c
    some-weight c k =
        let s : c + (N - c) ≡ N = omega arith in
        rw (point c k).weight (subst (λ n. 0 < choose n c) s (choose-some c (N - c)))

    all-weights : (g : ℕ) → weights (terms_of t (suc N) g) ≡ 2 ^ N
    unfolding terms_of path_terms path_term
    all-weights g =
        below-weights (suc N) (term_of t g) (path_term N (λ c. along_u (pos 0))) (λ c k. term-weight t g c ∙ (point c k).weight ∙ path-weight c)
        ∙ path-weights N (λ c. along_u (pos 0))
      where
        path-weight : (c : ℕ) → choose N c ≡ (path_term N (λ c. along_u (pos 0)) c).weight
        path-weight c = refl

    good : Good t (suc N) N
    good = record { few = let n = N_most in omega arith; some = some-weight; keys = λ c k. rw (point c k).key (omega arith) }

    pub inside : Inside t (N + 1)
    inside = record { first = λ c k. (filled.each c (omega arith)).first_most; second = λ c k. (filled.each c (omega arith)).second_most }

    module _ (outer : ℕ) where
      duty-most : duty t (suc N) outer m (l + m) 0 (of_group m (l + m)) 1 ≤ 2 ^ 24
      duty-most = rw (duty-is t (suc N) outer m l, all-weights outer, all-weights 3) (light N l m (let n = N_most in omega arith) few)

      rest_some : 0 < rest_at t (suc N) m (l + m)
      rest_some = go (dec_lt m (l + m))
        where
          within-list : 0 < length (terms_of t (suc N) 3)
          within-list = rw (length-terms t (suc N) 3) (omega arith)

          weighty : 0 < (term_at (terms_of t (suc N) 3) 0).weight
          weighty = rw (term-at t (suc N) 3 0 (omega arith), term-weight t 3 0) (some-weight 0 (omega arith))

          go : Dec (m < l + m) → 0 < rest_at t (suc N) m (l + m)
          go (yes h) =
              rw (first_rest t (suc N) outer m (l + m) h)
              (omega (arith, due-some 1 (terms_of t (suc N) 3) m 0 m 1 within-list weighty (omega arith), due-budget 1 (terms_of t (suc N) 3) 1 m m))
          go (no h) = rw (later-rest t (suc N) outer m (l + m) (omega arith)) (omega arith)

      L-most : (l + m) * N ≤ most_degree * most_n
      unfolding longest
      L-most = rw (← together, e) (longest-most h fine.small)

      ready_at : Ready t (suc N) outer m (l + m) 0 (of_group m (l + m)) 0 1 (replicate 50 (pos 0))
      ready_at = record {
        most = N;
        able = record {
          good = good;
          here = omega arith;
          few = omega (arith, of-most t (suc N) outer m (l + m), few);
          open_few = omega arith;
          some = rest_some;
          room = room-less (replicate 50 (pos 0)) (2 ^ 24) _ duty-most (zeros-room 50);
        };
        total = few;
        second_few = let k = few in omega arith;
        places = let k = L-most in omega arith;
      }

      pub ready : Ready t (N + 1) outer m r 0 (of_group m r) 0 1 (replicate 50 (pos 0))
      ready = rw (add-one N, together) ready_at

      -- what was gained from the start is the numerators, where what is owed is
      pub done : (p : Net) → ((R : ℕ) → owing t (suc N) outer m (l + m) 0 (of_group m (l + m)) 0 1 p R ≡ numerator rq R) → (out : List ℤ)
          → Gained (replicate 50 (pos 0)) out (owing t (N + 1) outer m r 0 (of_group m r) 0 1 p) (duty t (N + 1) outer m r 0 (of_group m r) 1) → Summed rq out
      done p is out gained = finished out _ _ duty-most is (rw (add-one N, together) at gained)

    no_second : (h.form ≡ 2 → ⊥) → m ≡ 0
    unfolding degree
    no_second n = omega (arith, (small h fine.small).r_is, at-outer h l (l + m) n)

    -- ---- forms 1 and 2
    abbrev u : ℕ → Argument
    u c = along_u (path_number rq c 0)

    abbrev v : ℕ → Argument
    v c = along_v (path_number rq c 1)

    u-terms : terms_of t (suc N) 2 ≡ path_terms N u
    unfolding terms_of path_terms path_number
    u-terms = below-same (suc N) (term_of t 2) (path_term N u) (λ c k. term c k)
      where
        term : (c : ℕ) → c < suc N → term_of t 2 c ≡ path_term N u c
        term c k = u-term t N u c (point c k).key (point c k).weight (ap along_u (point c k).first)

    v-terms : (h.form ≡ 1 → ⊥) → terms_of t (suc N) 3 ≡ path_terms N v
    unfolding terms_of path_terms path_number
    v-terms no1 = below-same (suc N) (term_of t 3) (path_term N v) (λ c k. term c k)
      where
        term : (c : ℕ) → c < suc N → term_of t 3 c ≡ path_term N v c
        term c k = v-term t N v c (point c k).key (point c k).weight (ap along_v ((point c k).second no1))

    curve-net : h.form ≡ 1 → (i j : ℕ) → i ≤ l + m - m → j ≤ m → j ≤ l + m → boxed (m + 1) rq.surface i j ≡ net_of rq i j
    unfolding boxed net_of place_of
    curve-net f i j a b d =
        let z : m ≡ 0 = no_second (λ g. omega arith) in
        let k : i * (m + 1) + j ≡ i = rw z (omega arith) in
        ap (λ n. get_or rq.surface n (pos 0)) (k ∙ sym (at-curve h _ _ _ f))

    tensor-net : h.form ≡ 2 → (i j : ℕ) → boxed (m + 1) rq.surface i j ≡ net_of rq i j
    unfolding boxed net_of place_of
    tensor-net f i j = ap (λ n. get_or rq.surface n (pos 0)) (sym (at-tensor h _ _ _ f))

    pub curve-owed : h.form ≡ 1 → (R : ℕ) → owing t (suc N) 2 m (l + m) 0 (of_group m (l + m)) 0 1 (boxed (m + 1) rq.surface) R ≡ numerator rq R
    curve-owed f R =
        box-reads t (suc N) m (l + m) 0 (of_group m (l + m)) 0 1 (boxed (m + 1) rq.surface) (net_of rq) (curve-net f) R
        ∙ owing-single t (suc N) 2 m l (net_of rq) R (no_second (λ g. omega arith))
        ∙ ap (λ T. walk T l l (leaf R) 0 (net_of rq)) u-terms
        ∙ sym (curve-walk rq R f)

    pub tensor-owed : h.form ≡ 2 → (R : ℕ) → owing t (suc N) 2 m (l + m) 0 (of_group m (l + m)) 0 1 (boxed (m + 1) rq.surface) R ≡ numerator rq R
    tensor-owed f R =
        box-reads t (suc N) m (l + m) 0 (of_group m (l + m)) 0 1 (boxed (m + 1) rq.surface) (net_of rq) (λ i j a b d. tensor-net f i j) R
        ∙ owing-walk t (suc N) 2 m l (net_of rq) R
        ∙ ap₂ (λ T Y. walk T l l (λ s p. walk Y m m (leaf R) s p) 0 (net_of rq)) u-terms (v-terms (λ g. omega arith))
        ∙ sym (tensor-walk rq R f)

    -- ---- form 3
    module _ (no1 : h.form ≡ 1 → ⊥) (no2 : h.form ≡ 2 → ⊥) where
      -- the numbers of a point add up to 1024
      sum_is : (c : ℕ) → c < suc N → (share_at t c 2 + share_at t c 3 ≤ 1024) × (pos (1024 - share_at t c 2 - share_at t c 3) ≡ path_number rq c 2)
      unfolding path_number number_at
      sum_is c k =
          let p = path-numbers rq.path fine.good.numbers in
          let n : numbers h ≡ 3 = sym (triangle-numbers h no1 no2) in
          let x : pos (share_at t c 2) ≡ get_or rq.path (3 * c) (pos 0) = (point c k).first ∙ ap (λ n. get_or rq.path n (pos 0))
          (ap (λ n. n * c + 0) n ∙ add-zero (3 * c)) in
          let y : pos (share_at t c 3) ≡ get_or rq.path (3 * c + 1) (pos 0) = (point c k).second no1 ∙ ap (λ (n : ℕ). get_or rq.path (n * c + 1) (pos 0)) n in
          let s : nat_abs (get_or rq.path (3 * c) (pos 0)) + nat_abs (get_or rq.path (3 * c + 1) (pos 0)) + nat_abs
          (get_or rq.path (3 * c + 2) (pos 0)) ≡ 1024 = eqb-true _ _ (not-false _ (sym (uneven-is rq.path c fine.good.numbers) ∙ even-points
          rq.path N (fine.good.even no1 no2) c (omega arith))) in
          let a : share_at t c 2 ≡ nat_abs (get_or rq.path (3 * c) (pos 0)) = ap nat_abs x in
          let b : share_at t c 3 ≡ nat_abs (get_or rq.path (3 * c + 1) (pos 0)) = ap nat_abs y in
          let d : 1024 - share_at t c 2 - share_at t c 3 ≡ nat_abs (get_or rq.path (3 * c + 2) (pos 0)) = omega arith in
          (omega arith, ap pos d ∙ sym (p (3 * c + 2)).size ∙ ap (λ (n : ℕ). get_or rq.path (n * c + 2) (pos 0)) (sym n))

      pub even : Even t (N + 1)
      even = record { both = λ c k. (sum_is c (omega arith)).0 }

      abbrev xyz : ℕ → Argument
      xyz c = within (path_number rq c 0) (path_number rq c 1) (path_number rq c 2)

      xyz-terms : terms_of t (suc N) 0 ≡ path_terms N xyz
      unfolding terms_of path_terms path_number
      xyz-terms = below-same (suc N) (term_of t 0) (path_term N xyz) (λ c k. term c k)
        where
          term : (c : ℕ) → c < suc N → term_of t 0 c ≡ path_term N xyz c
          term c k = xyz-term t N xyz c (point c k).key (point c k).weight (λ i. within ((point c k).first i) ((point c k).second no1 i) ((sum_is c k).1 i))

      pub no-later : m ≡ 0
      no-later = no_second no2

      triangle-net : (i j : ℕ) → i + j ≤ l + m → stacked r rq.surface i j ≡ net_of rq i j
      unfolding stacked net_of place_of
      triangle-net i j d =
          let z : r ≡ l = together ∙ rw no-later (add-zero l) in
          ap (λ n. get_or rq.surface n (pos 0)) (ap (λ n. row_start n i + j) z ∙ sym (at-triangle h _ _ _ no1 no2))

      triangle-read : (R : ℕ) → owing t (suc N) 0 m (l + m) 0 (of_group m (l + m)) 0 1 (stacked r rq.surface) R
          ≡ owing t (suc N) 0 m (l + m) 0 (of_group m (l + m)) 0 1 (net_of rq) R
      triangle-read R =
          subst (λ n. owing t (suc N) 0 n (l + m) 0 (of_group m (l + m)) 0 1 (stacked r rq.surface) R ≡ owing t (suc N) 0 n (l + m) 0
          (of_group m (l + m)) 0 1 (net_of rq) R) (sym no-later)
          (triangle-reads t (suc N) (l + m) 0 (of_group m (l + m)) 0 1 (stacked r rq.surface) (net_of rq) triangle-net R)

      pub triangle-owed : (R : ℕ) → owing t (suc N) 0 m (l + m) 0 (of_group m (l + m)) 0 1 (stacked r rq.surface) R ≡ numerator rq R
      triangle-owed R =
          triangle-read R
          ∙ owing-single t (suc N) 0 m l (net_of rq) R no-later
          ∙ ap (λ T. walk T l l (leaf R) 0 (net_of rq)) xyz-terms
          ∙ sym (triangle-walk rq R no1 no2)

    -- ---- the entries formed
    entries-are : (K n : ℕ) → m ≡ 0 → Counted t (N + 1) K m r 0 n → n ≡ entries K (tree (degree h) 0 (N + 1))
    entries-are K n z counted =
        counted.one z ∙ formed-entries K (terms_of t (N + 1) 0) r 0
        ∙ ap₂ (λ a b. entries K (tree a 0 b)) e (length-terms t (N + 1) 0)

    pub row-formed : (n : ℕ) → ((h.form ≡ 1 → ⊥) → h.form ≡ 2) → Counted t (N + 1) 1 m r 0 n → Formed h n
    row-formed n flat counted = record {
      curve = λ f. entries-are 1 n (no_second (λ g. omega arith)) counted;
      triangle = λ a b. absurd (b (flat a));
    }

    pub triangle-formed : (h.form ≡ 1 → ⊥) → (h.form ≡ 2 → ⊥) → (n : ℕ) → Counted t (N + 1) 2 m r 0 n → Formed h n
    triangle-formed no1 no2 n counted = record { curve = λ f. absurd (no1 f); triangle = λ a b. entries-are 2 n (no_second no2) counted }

    -- ---- what the code asks and leaves
    module _ (sums : List ℤ) (se : sums ≡ replicate 50 (pos 0)) where
      pub row-asks : Ready t (N + 1) 2 m r 0 (of_group m r) 0 1 sums
      row-asks = rw se (ready 2)

      pub row-leaves : ((h.form ≡ 1 → ⊥) → h.form ≡ 2) → (n : ℕ) (out : List ℤ)
          → Counted t (N + 1) 1 m r 0 n
          × Gained sums out (owing t (N + 1) 2 m r 0 (of_group m r) 0 1 (boxed (m + 1) rq.surface)) (duty t (N + 1) 2 m r 0 (of_group m r) 1)
          → Summed rq out × Formed h n
      row-leaves flat n out q = (done 2 (boxed (m + 1) rq.surface) owes out (rw se at q.1), row-formed n flat q.0)
        where
          owes : (R : ℕ) → owing t (suc N) 2 m (l + m) 0 (of_group m (l + m)) 0 1 (boxed (m + 1) rq.surface) R ≡ numerator rq R
          owes R = go (ℕ_discrete h.form 1)
            where
              go : Dec (h.form ≡ 1) → owing t (suc N) 2 m (l + m) 0 (of_group m (l + m)) 0 1 (boxed (m + 1) rq.surface) R ≡ numerator rq R
              go (yes f) = curve-owed f R
              go (no f) = tensor-owed (flat f) R

      module _ (some : 0 < r) (no1 : h.form ≡ 1 → ⊥) (no2 : h.form ≡ 2 → ⊥) where
        pub triangle-asks : Ready t (N + 1) 0 0 r 0 r 0 1 sums
        triangle-asks =
            rw se
            (subst (λ b. Ready t (N + 1) 0 0 r 0 b 0 1 (replicate 50 (pos 0))) (sym (all_of t (N + 1) r some))
            (subst (λ k. Ready t (N + 1) 0 k r 0 (of_group k r) 0 1 (replicate 50 (pos 0))) (no-later no1 no2) (ready 0)))

        pub triangle-leaves : (n : ℕ) (out : List ℤ)
            → Counted t (N + 1) 2 0 r 0 n × Gained sums out (owing t (N + 1) 0 0 r 0 r 0 1 (stacked r rq.surface)) (duty t (N + 1) 0 0 r 0 r 1)
            → Summed rq out × Formed h n
        triangle-leaves n out q =
            (done 0 (stacked r rq.surface) (triangle-owed no1 no2) out again.1, triangle-formed no1 no2 n again.0)
          where
            again : Counted t (N + 1) 2 m r 0 n × Gained (replicate 50 (pos 0)) out
                (owing t (N + 1) 0 m r 0 (of_group m r) 0 1 (stacked r rq.surface)) (duty t (N + 1) 0 m r 0 (of_group m r) 1)
            again =
                subst
                (λ k. Counted t (N + 1) 2 k r 0 n × Gained (replicate 50 (pos 0)) out
                (owing t (N + 1) 0 k r 0 (of_group k r) 0 1 (stacked r rq.surface)) (duty t (N + 1) 0 k r 0 (of_group k r) 1))
                (sym (no-later no1 no2))
                (subst (λ b. Counted t (N + 1) 2 0 r 0 n × Gained (replicate 50 (pos 0)) out (owing t (N + 1) 0 0 r 0 b 0 1 (stacked r rq.surface))
                (duty t (N + 1) 0 0 r 0 b 1))
                (all_of t (N + 1) r some) (rw se at q))

  -- where there is no argument
  pub first-asks : (sums : List ℤ) → sums ≡ replicate 50 (pos 0) → (v : ℤ) → nat_abs v ≤ 4096 → (2 * 0 + 1 < length sums) × (nat_abs v ≤ 2 ^ 52) × Room sums 1
  first-asks sums se v few = rw se (
    rw (length-replicate 50 (pos 0)) (omega arith),
    omega arith,
    room-less (replicate 50 (pos 0)) (2 ^ 24) 1
        (omega arith) (zeros-room 50),
  )

  pub first-leaves : degree h ≡ 0 → (sums : List ℤ) → sums ≡ replicate 50 (pos 0) → (v : ℤ) → v ≡ get_or rq.surface 0 (pos 0) → (out : List ℤ)
      → Gained sums out (only 0 (pos 1 *ℤ v)) 1 → Summed rq out × Formed h 0
  first-leaves zero_is sums se v e out gained = (finished out _ 1 (omega arith) (only-value zero_is v e) (rw se at gained), none-formed zero_is)

-- ---- which form it is
pub flat-form : (f : ℕ) → (eqb f 1 || eqb f 2) ≡ true → (f ≡ 1 → ⊥) → f ≡ 2
flat-form f e no1 = eqb-true f 2 (rw (ne_eqb f 1 no1) at e)

pub other-form : (f k : ℕ) → eqb f k ≡ false → f ≡ k → ⊥
other-form f k e q = true≢false (sym (eq-eqb f k q) ∙ e)
