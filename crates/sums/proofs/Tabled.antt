-- A triangle's sum over any table of terms, from places that are 0: when it may begin, and what it owes. Assumes nothing.
use mathlib.Core.Path.{◌≡◌, refl, sym, ◌∙◌, subst}
use mathlib.Core.List.{List}
use Prim.Native.Nat.{ℕ, ◌+◌, ◌*◌, ◌^◌, ◌≤◌, ◌<◌}
use native.Mathlib.Nat.{add-zero, mul-one, pow-zero}
use native.Mathlib.Omega.{arith}
use lib.IntN.{pos}
use lib.ListN.{replicate, length-replicate}
use Rattle.limbs.proofs.Gaining.{room-less, zeros-room}
use Rattle.net.specs.Net.{Net}
use Rattle.net.specs.runs.Terms.{Term}
use Rattle.net.specs.runs.Walk.{walk}
use Rattle.net.specs.runs.Ride.{leaf}
use Rattle.net.specs.runs.Budget.{weights}
use Rattle.net.proofs.runs.Budget.{budget-is}
use Rattle.sums.specs.gather.Table.{terms_of, Good}
use Rattle.sums.specs.gather.Owed.{of_group, rest_at, owing, duty, Ready}
pub use Rattle.sums.proofs.gather.Turn.{only-leaf}
use Rattle.sums.proofs.gather.Grouped.{first_rest}
use Rattle.sums.proofs.gather.Triangles.{all_of}
use Rattle.sums.proofs.Riding.{owing-single, duty-is}

module _ (t : List ℕ) (count r : ℕ) (some : 0 < r) where
  abbrev T : List Term
  T = terms_of t count 0

  pub triangle-owes : (p : Net) (R : ℕ) → owing t count 0 0 r 0 r 0 1 p R ≡ walk T r r (leaf R) 0 p
  triangle-owes p R =
      subst (λ b. owing t count 0 0 r 0 b 0 1 p R ≡ walk T r r (leaf R) 0 p) (sym (all_of t count r some))
      (subst (λ l. owing t count 0 0 l 0 (of_group 0 l) 0 1 p R ≡ walk T r r (leaf R) 0 p) (add-zero r) (owing-single t count 0 0 r p R refl))

  pub triangle-duty : duty t count 0 0 r 0 r 1 ≡ weights T ^ r
  triangle-duty =
      subst (λ b. duty t count 0 0 r 0 b 1 ≡ weights T ^ r) (sym (all_of t count r some))
      (subst (λ l. duty t count 0 0 l 0 (of_group 0 l) 1 ≡ weights T ^ r) (add-zero r)
      (duty-is t count 0 0 r ∙ rw (pow-zero (weights (terms_of t count 3))) (mul-one (weights T ^ r))))

  -- all arguments are of one group, and behind them nothing is left
  rest-one : rest_at t count 0 r ≡ 1
  rest-one = first_rest t count 0 0 r some ∙ budget-is (terms_of t count 3) 0 1 ∙ rw (pow-zero (weights (terms_of t count 3)))

  pub triangle-ready : (most n : ℕ) → Good t count most → 0 < count → r ≤ 4 → weights T ^ r ≤ 2 ^ 24 → 2 * (r * most) + 1 < n
      → Ready t count 0 0 r 0 r 0 1 (replicate n (pos 0))
  triangle-ready most n good here few light inside = record {
    most = most;
    able = record {
      good = good;
      here = here;
      few = few;
      open_few = omega (arith, all_of t count r some);
      some = omega (arith, rest-one);
      room = room-less (replicate n (pos 0)) (2 ^ 24) _ (rw triangle-duty light) (zeros-room n);
    };
    total = few;
    second_few = omega arith;
    places = rw (length-replicate n (pos 0)) (omega arith);
  }
