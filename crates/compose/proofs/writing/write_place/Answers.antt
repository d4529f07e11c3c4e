-- `writing::write_place` meets its contract: the words of the place are worth its numerator, which is rounded. Assumes nothing.
use mathlib.Core.Path.{◌≡◌, sym, ap, ◌∙◌, subst}
use Prim.Native.Nat.{◌*◌, ◌-◌, ◌^◌}
use native.Mathlib.Omega.{arith}
use lib.ListN.{set}
use Rattle.std.proofs.Common.{rules, w32, w64, SFits}
use Rattle.std.proofs.lemmas.Int.{to_z-of_z}
use Rattle.whole.specs.Choose.{choose}
use Rattle.whole.specs.Round.{nearest}
use Rattle.limbs.specs.Limbs.{worth}
use Rattle.two_words.specs.Words.{two_words}
use Rattle.two_words.proofs.Only.{words-worth}
use Rattle.compose.specs.writing.Placed.{PointAt, rounded_at}
use Rattle.compose.proofs.writing.write_place.Goals as goal

pub joined-n-requires : goal.joined-n-requires
joined-n-requires c =
    let p = c.requires in
    record { here = let l = p.0.long in omega arith; small = p.0.small }

pub rounded-requires : goal.rounded-requires
rounded-requires c =
    let p = c.requires.0 in
    let row = p.row in
    let e : two_words c.joined-n.result.high.0 c.joined-n.result.low ≡ worth c.args.sums.now c.args.R = words-worth _ _ _ c.joined-n.ensures.0 c.joined-n.ensures.1 in
    subst (λ n. PointAt n (c.args.count - 1) c.args.r c.args.R) (sym e)
    (record { row = omega arith; here = omega arith; few = p.few; within = p.within _ c.requires.1 })

pub returns : goal.returns
unfolding rounded_at
returns c =
    let a = c.args in
    let e : two_words c.joined-n.result.high.0 c.joined-n.result.low ≡ worth a.sums.now a.R = words-worth _ _ _ c.joined-n.ensures.0 c.joined-n.ensures.1 in
    let h : SFits w64 c.joined-n.result.high.0 = search rules in
    let p : SFits w32 c.rounded.result.0 = search rules in
    record {
      high_is = ap (set a.high.now a.R) (to_z-of_z w64 _ h ∙ c.joined-n.ensures.0);
      low_is = ap (set a.low.now a.R) c.joined-n.ensures.1;
      points_is = ap (set a.points.now a.R)
          (to_z-of_z w32 _ p ∙ c.rounded.ensures ∙ ap (λ n. nearest n (choose (a.count - 1) a.R * 1024 ^ a.r)) e);
    }
