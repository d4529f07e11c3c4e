-- `patch::patch` meets its contract: a refusal leaves both arrays; an acceptance writes the literal sums and their rounded points.
-- Assumes nothing.
use mathlib.Core.Path.{◌≡◌, refl}
use Rattle.std.proofs.Common.{rules}
use mathlib.Core.List.{List}
use lib.IntN.{ℤ}
use native.Mathlib.Omega.{arith}
use Rattle.patch_net.specs.Patch.{Patch, patch_of}
use Rattle.patch.proofs.patch_sums.Summing.{longest-most}
use Rattle.patch.proofs.Placing.{longest-is, refused-result, composable, exact-room, points-room, fitting, accepted-result}
use Rattle.patch.proofs.patch.Goals as goal

pub returns-then-is_refused : goal.returns-then-is_refused
returns-then-is_refused c =
    let p : Patch = patch_of c.args.n c.args.N c.args.surface.now c.args.path.now in
    let exact : List ℤ = c.args.exact.now in
    let points : List ℤ = c.args.points.now in
    refused-result p exact points _ c.judge-answer.ensures (search rules)

pub numerators-requires : goal.numerators-requires
numerators-requires c =
    let p : Patch = patch_of c.args.n c.args.N c.args.surface.now c.args.path.now in
    let exact : List ℤ = c.args.exact.now in
    let points : List ℤ = c.args.points.now in
    let no : c.judge-answer.result.number ≡ 0 = search rules in
    (composable p exact points _ c.judge-answer.ensures no, refl)

pub overflow_mul-outer : goal.overflow_mul-outer
overflow_mul-outer c =
    let p : Patch = patch_of c.args.n c.args.N c.args.surface.now c.args.path.now in
    let exact : List ℤ = c.args.exact.now in
    let points : List ℤ = c.args.points.now in
    let no : c.judge-answer.result.number ≡ 0 = search rules in
    omega (arith, longest-most p (composable p exact points _ c.judge-answer.ensures no), longest-is p)

pub write_all-requires : goal.write_all-requires
write_all-requires c =
    let p : Patch = patch_of c.args.n c.args.N c.args.surface.now c.args.path.now in
    let exact : List ℤ = c.args.exact.now in
    let points : List ℤ = c.args.points.now in
    let e = c.judge-answer.ensures in
    let z : c.judge-answer.result.number ≡ 0 = search rules in
    (fitting p exact points _ e z _ c.numerators.ensures _ (longest-is p), exact-room p exact points _ e z, points-room p exact points _ e z)

pub returns : goal.returns
returns c =
    let p : Patch = patch_of c.args.n c.args.N c.args.surface.now c.args.path.now in
    let exact : List ℤ = c.args.exact.now in
    let points : List ℤ = c.args.points.now in
    let is_accepted : c.judge-answer.result.number ≡ 0 = search rules in
    accepted-result p exact points _ c.judge-answer.ensures is_accepted _ c.numerators.ensures _ (longest-is p) _ _ c.write_all.ensures
