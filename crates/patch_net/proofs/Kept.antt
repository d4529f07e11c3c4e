-- The demands hold of every result that the contract allows. Assumes nothing.
use mathlib.Core.Path.{◌≡◌, refl, sym, ◌∙◌, ap}
use mathlib.Core.List.{List, [], ◌∷◌, ◌++◌, map}
use Prim.Native.Nat.{ℕ, zero, suc, ◌+◌, ◌-◌, ◌≤◌, ◌<◌}
use native.Mathlib.Omega.{arith}
use lib.IntN.{ℤ, pos}
use lib.ListN.{length, get_or, take, drop, length-map, get_or-append}
use lib.Seq.{length-take-le, get_or-take, get_or-append-add, get_or-drop}
use Rattle.request.specs.declared.Answer.{Answer}
use Rattle.request.specs.Cascade.{refused, decided}
use Rattle.request.proofs.Cascade.{numbered, none-holds, last_word}
use Rattle.net.specs.Net.{row_start}
use Rattle.patch_net.specs.Patch.{Patch, longest, places, Index, indices, index_at}
use Rattle.patch_net.specs.Refusal.{refusals, accepted, answer}
use Rattle.patch_net.specs.Composed.{numerator, denominator, point}
use Rattle.patch_net.specs.Afterwards.{afterwards, exact_after, points_after}
use Rattle.patch_net.specs.Reading.{drawn}
use Rattle.patch_net.specs.Demands.{Result, Allowed, Demand1, Demand2, Demand3}
use Rattle.patch_net.proofs.Half.{at_place}
use Rattle.patch_net.proofs.Standing.{index-at, indices-length, place_inside}

-- ---- an array afterwards
pub map_at : (f : Index → ℤ) (l : List Index) (d : Index) (R : ℕ) → R < length l → get_or (map f l) R (pos 0) ≡ f (get_or l R d)
map_at f [] d R h = absurd (omega arith)
map_at f (a ∷ l) d zero h = refl
map_at f (a ∷ l) d (suc R) h = map_at f l d R (omega arith)

pub after_none : (values lent : List ℤ) → afterwards 0 values lent ≡ lent
unfolding afterwards
after_none values lent = refl

after-at : (count : ℕ) (values lent : List ℤ) (R : ℕ) → length values ≡ count → R < count
    → get_or (afterwards count values lent) R (pos 0) ≡ get_or values R (pos 0)
unfolding afterwards
after-at count values lent R e h =
    let long : length (take count values) ≡ count = length-take-le count values (omega arith) in
    get_or-append (take count values) (drop count lent) (pos 0) R (omega arith) ∙ get_or-take count values R (pos 0) h

after-rest : (count : ℕ) (values lent : List ℤ) (R : ℕ) → length values ≡ count → count ≤ R
    → get_or (afterwards count values lent) R (pos 0) ≡ get_or lent R (pos 0)
unfolding afterwards
after-rest count values lent R e h =
    let long : length (take count values) ≡ count = length-take-le count values (omega arith) in
    let there : R ≡ length (take count values) + (R - count) = omega arith in
    let back : count + (R - count) ≡ R = omega arith in
    ap (λ (n : ℕ). get_or (take count values ++ drop count lent) n (pos 0)) there
    ∙ get_or-append-add (take count values) (drop count lent) (R - count) (pos 0) ∙ get_or-drop count lent (R - count) (pos 0)
    ∙ ap (λ (n : ℕ). get_or lent n (pos 0)) back

module _ (p : Patch) (exact points : List ℤ) (r : Result) (allowed : Allowed p exact points r) where
  pub demand1 : Demand1 p exact points r
  unfolding answer decided refused accepted exact_after points_after
  demand1 = record {
    refusal = λ t e. (
      allowed.answered ∙ rw e,
      allowed.exact_is ∙ rw e (after_none (map (numerator p) (indices (longest p))) exact),
      allowed.points_is ∙ rw e (after_none (map (point p) (indices (longest p))) points),
    );
    acceptance = λ e. allowed.answered ∙ rw e;
  }

  -- an acceptance writes every place of the answer
  all : r.answer.number ≡ 0 → (answer p (length exact) (length points)).count ≡ places (longest p)
  unfolding answer refusals accepted numbered
  all e =
      let tests = refusals p (length exact) (length points) in
      let zero_is : (answer p (length exact) (length points)).number ≡ 0 = ap (λ (a : Answer). a.number) (sym allowed.answered) ∙ e in
      ap (λ (a : Answer). a.count) (last_word tests (accepted p) (none-holds tests (accepted p) tt zero_is))

  count-values : (f : Index → ℤ) → length (map f (indices (longest p))) ≡ places (longest p)
  count-values f = length-map (indices (longest p)) f ∙ indices-length (longest p)

  written : (f : Index → ℤ) (lent : List ℤ) → r.answer.number ≡ 0 → (R : ℕ) → R < places (longest p)
      → get_or (afterwards (answer p (length exact) (length points)).count (map f (indices (longest p))) lent) R (pos 0) ≡ f (index_at (longest p) R)
  unfolding index_at
  written f lent e R m =
      rw (all e)
      (after-at (places (longest p)) (map f (indices (longest p))) lent R (count-values f) m
      ∙ map_at f (indices (longest p)) _ R (rw (indices-length (longest p)) m))

  rest : (f : Index → ℤ) (lent : List ℤ) → r.answer.number ≡ 0 → (R : ℕ) → places (longest p) ≤ R
      → get_or (afterwards (answer p (length exact) (length points)).count (map f (indices (longest p))) lent) R (pos 0) ≡ get_or lent R (pos 0)
  rest f lent e R m = rw (all e) (after-rest (places (longest p)) (map f (indices (longest p))) lent R (count-values f) m)

  pub demand2 : Demand2 p exact points r
  unfolding exact_after points_after point denominator
  demand2 = record {
    numerators = λ e R m. rw allowed.exact_is (written (numerator p) exact e R m);
    rounded = λ e R m. rw allowed.points_is (written (point p) points e R m);
    exact_rest = λ e R m. rw allowed.exact_is (rest (numerator p) exact e R m);
    points_rest = λ e R m. rw allowed.points_is (rest (point p) points e R m);
  }

  pub demand3 : Demand3 p r
  unfolding drawn points_after
  demand3 = record {
    within_half = λ e a b c q some whole.
        at_place p (λ i j. get_or r.points (row_start (longest p) i + j) (pos 0)) a b c q whole
        (λ t h. rw allowed.points_is (written (point p) points e _ (place_inside (longest p) t h)) ∙ ap (point p) (index-at (longest p) t h));
  }
