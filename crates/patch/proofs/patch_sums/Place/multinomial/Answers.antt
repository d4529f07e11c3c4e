-- `patch::patch_sums::Place::multinomial` meets its contract: two binomials of the table, whose product fits. Assumes nothing.
use mathlib.Core.Path.{◌≡◌, sym, ap, ap₂, ◌∙◌}
use Prim.Native.Nat.{ℕ, ◌+◌, ◌*◌, ◌^◌, ◌≤◌}
use native.Mathlib.Nat.{add_assoc, mul-le-mul}
use native.Mathlib.Omega.{arith}
use Rattle.whole.specs.Choose.{choose}
use Rattle.pascal.proofs.Entries.{entry_in}
use Rattle.patch_net.specs.Composed.{multinomial}
use Rattle.patch.proofs.patch_sums.Filling.{choose-few}
use Rattle.patch.proofs.patch_sums.Place.multinomial.Goals as goal

pub returns : goal.returns
unfolding multinomial
returns c =
    let p = c.args.self in
    let few = c.requires in
    let a : c.binomial.result ≡ choose (p.i + (p.j + p.k)) p.i = c.binomial.ensures ∙ entry_in _ _ _ (omega arith) in
    let b : c.binomial-2.result ≡ choose (p.j + p.k) p.j = c.binomial-2.ensures ∙ entry_in _ _ _ (omega arith) in
    let most_a : c.binomial.result ≤ 2 ^ 9 = rw a (choose-few _ _ (omega arith)) in
    let most_b : c.binomial-2.result ≤ 2 ^ 9 = rw b (choose-few _ _ (omega arith)) in
    let most : c.binomial.result * c.binomial-2.result ≤ 2 ^ 9 * 2 ^ 9 = mul-le-mul most_a most_b in
    (ap₂ ◌*◌ (a ∙ ap (λ (n : ℕ). choose n p.i) (sym (add_assoc p.i p.j p.k))) b, most)

pub overflow_mul-result : goal.overflow_mul-result
overflow_mul-result c =
    let p = c.args.self in
    let few = c.requires in
    let a : c.binomial.result ≡ choose (p.i + (p.j + p.k)) p.i = c.binomial.ensures ∙ entry_in _ _ _ (omega arith) in
    let b : c.binomial-2.result ≡ choose (p.j + p.k) p.j = c.binomial-2.ensures ∙ entry_in _ _ _ (omega arith) in
    let most_a : c.binomial.result ≤ 2 ^ 9 = rw a (choose-few _ _ (omega arith)) in
    let most_b : c.binomial-2.result ≤ 2 ^ 9 = rw b (choose-few _ _ (omega arith)) in
    let most : c.binomial.result * c.binomial-2.result ≤ 2 ^ 9 * 2 ^ 9 = mul-le-mul most_a most_b in
    omega arith
