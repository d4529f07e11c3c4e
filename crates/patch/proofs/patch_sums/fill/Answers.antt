-- `patch::patch_sums::fill` meets its contract: the points passed are in the table, and the index is that of the next. Assumes nothing.
use mathlib.Core.Path.{sym, ap, ◌∙◌, subst}
use Prim.Native.Nat.{◌+◌, ◌*◌, ◌≤◌, ◌<◌}
use native.Mathlib.Omega.{arith}
use borrow.Author.Count.{below_none, below_more}
use Rattle.request.proofs.Bounds.{path-numbers}
use Rattle.patch_net.specs.Composed.{multinomial}
use Rattle.patch_net.proofs.Standing.{Stands, stands_at, stands-first, stands-next, places-few}
use Rattle.patch_walk.specs.PatchTerms.{key_of}
use Rattle.patch.specs.patch_sums.Contract.{index_of, whole, PointAt}
use Rattle.patch.proofs.patch_sums.Filling.{here, still, still-long}
use Rattle.patch.proofs.patch_sums.fill.Goals as goal

pub store_term-requires : goal.store_term-requires
store_term-requires c =
    let path = c.args.path.now in
    let good = c.requires.1 in
    let stands : Stands c.args.N c.loop-c.c (index_of c.loop-c.at) = c.loop-c.invariant.3 c.loop-c-test.true in
    let few : c.loop-c.c < 10 = omega (arith, places-few _ c.requires.0, c.places-count.ensures) in
    let w : whole c.loop-c.at ≤ 9 = let w = stands.whole in let n = c.requires.0 in omega arith in (
      few,
      omega (arith, c.key.ensures),
      omega (arith, c.multinomial.ensures.1),
      rw c.path_size_at-a.ensures (path-numbers path good (3 * c.loop-c.c)).most,
      rw c.path_size_at-b.ensures (path-numbers path good (3 * c.loop-c.c + 1)).most,
    )

pub loop-c-init : goal.loop-c-init
loop-c-init c = (omega arith, c.requires.2, below_none _, λ h. stands-first _)

pub overflow_mul-c : goal.overflow_mul-c
overflow_mul-c c =
    let few : c.loop-c.c < 10 = omega (arith, places-few _ c.requires.0, c.places-count.ensures) in
    omega arith

pub overflow_add-c : goal.overflow_add-c
overflow_add-c c =
    let few : c.loop-c.c < 10 = omega (arith, places-few _ c.requires.0, c.places-count.ensures) in
    omega arith

pub overflow_mul-c-in-loop-c : goal.overflow_mul-c-in-loop-c
overflow_mul-c-in-loop-c c =
    let few : c.loop-c.c < 10 = omega (arith, places-few _ c.requires.0, c.places-count.ensures) in
    omega arith

pub key-requires : goal.key-requires
key-requires c =
    let stands : Stands c.args.N c.loop-c.c (index_of c.loop-c.at) = c.loop-c.invariant.3 c.loop-c-test.true in
    let w : whole c.loop-c.at ≤ 9 = let w = stands.whole in let n = c.requires.0 in omega arith in
    w

pub multinomial-requires : goal.multinomial-requires
multinomial-requires c =
    let stands : Stands c.args.N c.loop-c.c (index_of c.loop-c.at) = c.loop-c.invariant.3 c.loop-c-test.true in
    let w : whole c.loop-c.at ≤ 9 = let w = stands.whole in let n = c.requires.0 in omega arith in
    w

pub next-at-requires : goal.next-at-requires
next-at-requires c =
    let stands : Stands c.args.N c.loop-c.c (index_of c.loop-c.at) = c.loop-c.invariant.3 c.loop-c-test.true in
    let w : whole c.loop-c.at ≤ 9 = let w = stands.whole in let n = c.requires.0 in omega arith in
    w

pub loop-c-preserved : goal.loop-c-preserved
loop-c-preserved c =
    let N = c.args.N in
    let path = c.args.path.now in
    let stands : Stands c.args.N c.loop-c.c (index_of c.loop-c.at) = c.loop-c.invariant.3 c.loop-c-test.true in
    let few : c.loop-c.c < 10 = omega (arith, places-few _ c.requires.0, c.places-count.ensures) in
    let at = stands_at N c.loop-c.c (index_of c.loop-c.at) stands in
    let v = c.loop-c.invariant in
    let e = c.store_term.ensures in
    let t = c.loop-c-test.true in (
      omega arith,
      rw e (still-long N path c.loop-c.t c.loop-c.c few v.1 _ _ _ _),
      rw e
          (below_more (PointAt N path _) c.loop-c.c
          (λ d h. still N path c.loop-c.t c.loop-c.c few v.1 _ _ _ _ d h (v.2 d h))
          (here N path c.loop-c.t c.loop-c.c few v.1 _ _ _ _ (c.key.ensures ∙ ap key_of (sym at))
          (c.multinomial.ensures.0 ∙ ap multinomial (sym at)) c.path_size_at-a.ensures c.path_size_at-b.ensures)),
      λ h. subst (Stands N (c.loop-c.c + 1)) (sym c.next-at.ensures) (stands-next N c.loop-c.c _ stands (rw c.places-count.ensures at h)),
    )

pub returns : goal.returns
returns c =
    record { each = λ d h. c.loop-c.invariant.2 d (let t = c.loop-c-test.false in omega (arith, c.places-count.ensures)) }
