-- `patch::write_place` meets its contract: the words of the index's place are worth its numerator, which is rounded. Assumes nothing.
use mathlib.Core.Path.{◌≡◌, sym, ap, ap₂, ◌∙◌, subst}
use Prim.Native.Nat.{ℕ, ◌*◌, ◌^◌, ◌≤◌}
use native.Mathlib.Omega.{arith}
use lib.IntN.{ℤ}
use lib.ListN.{set}
use Rattle.std.proofs.Common.{rules, w32, w64, SFits}
use Rattle.std.proofs.lemmas.Int.{to_z-of_z}
use Rattle.whole.specs.Round.{nearest}
use Rattle.limbs.specs.Limbs.{worth}
use Rattle.two_words.specs.Words.{two_words, Roundable}
use Rattle.two_words.proofs.Only.{words-worth}
use Rattle.patch_net.specs.Composed.{multinomial}
use Rattle.patch.specs.patch_sums.Contract.{index_of}
use Rattle.patch.specs.Writing.{exact_at, point_at}
use Rattle.patch.proofs.Placing.{fits_word, point-most, roundable}
use Rattle.patch.proofs.write_place.Goals as goal

pub key-requires : goal.key-requires
key-requires c = c.requires.0.whole

pub joined-v-requires : goal.joined-v-requires
joined-v-requires c =
    let f = c.requires.0 in
    let w = f.whole in
    let l = f.long in
    record { here = omega (arith, c.key.ensures); small = f.small }

pub multinomial-requires : goal.multinomial-requires
multinomial-requires c = c.requires.0.whole

pub rounded-point-requires : goal.rounded-point-requires
rounded-point-requires c =
    let e : two_words c.joined-v.result.high.0 c.joined-v.result.low ≡ exact_at c.args.sums.now (index_of c.args.at) =
    words-worth _ _ _ c.joined-v.ensures.0 c.joined-v.ensures.1 ∙ ap (λ (k : ℕ). worth c.args.sums.now k) c.key.ensures in
    let few : multinomial (index_of c.args.at) ≤ 2 ^ 18 = omega (arith, c.multinomial.ensures) in
    subst (λ (x : ℤ). Roundable x c.multinomial.result c.args.n) (sym e)
    (subst (λ (d : ℕ). Roundable (exact_at c.args.sums.now (index_of c.args.at)) d c.args.n) (sym c.multinomial.ensures.0) (roundable _ _ _ c.requires.0 few))

pub single-requires : goal.single-requires
single-requires c =
    let e : two_words c.joined-v.result.high.0 c.joined-v.result.low ≡ exact_at c.args.sums.now (index_of c.args.at) =
    words-worth _ _ _ c.joined-v.ensures.0 c.joined-v.ensures.1 ∙ ap (λ (k : ℕ). worth c.args.sums.now k) c.key.ensures in
    let few : multinomial (index_of c.args.at) ≤ 2 ^ 18 = omega (arith, c.multinomial.ensures) in
    rw e (fits_word _ _ _ c.requires.0 few)

pub travel_of-requires : goal.travel_of-requires
travel_of-requires c =
    let e : two_words c.joined-v.result.high.0 c.joined-v.result.low ≡ exact_at c.args.sums.now (index_of c.args.at) =
    words-worth _ _ _ c.joined-v.ensures.0 c.joined-v.ensures.1 ∙ ap (λ (k : ℕ). worth c.args.sums.now k) c.key.ensures in
    let p : c.rounded-point.result.0 ≡ point_at c.args.sums.now c.args.n (index_of c.args.at) =
    c.rounded-point.ensures ∙ ap₂ (λ (x : ℤ) (d : ℕ). nearest x (d * 1024 ^ c.args.n)) e c.multinomial.ensures.0 in
    rw p (point-most _ _ _ c.requires.0)

pub returns : goal.returns
returns c =
    let a = c.args in
    let e : two_words c.joined-v.result.high.0 c.joined-v.result.low ≡ exact_at c.args.sums.now (index_of c.args.at) =
    words-worth _ _ _ c.joined-v.ensures.0 c.joined-v.ensures.1 ∙ ap (λ (k : ℕ). worth c.args.sums.now k) c.key.ensures in
    let p : c.rounded-point.result.0 ≡ point_at c.args.sums.now c.args.n (index_of c.args.at) =
    c.rounded-point.ensures ∙ ap₂ (λ (x : ℤ) (d : ℕ). nearest x (d * 1024 ^ c.args.n)) e c.multinomial.ensures.0 in
    let f : SFits w64 c.single.result.0 = search rules in
    let g : SFits w32 c.travel_of.result.0 = search rules in
    record {
      exact_is = ap (set a.exact.now a.R) (to_z-of_z w64 _ f ∙ c.single.ensures ∙ e);
      points_is = ap (set a.points.now a.R) (to_z-of_z w32 _ g ∙ c.travel_of.ensures ∙ p);
    }
