-- `day::sheet_lines::write_lines` meets its contract: fourteen lines, one after the other. Assumes nothing.
use mathlib.Core.Path.{◌≡◌}
use mir.Syntax.{w64}
use mir.Val.{to_z, of_z}
use lib.ListN.{length}
use borrow.Author.Rules.{rules}
use native.Mathlib.Omega.{arith}
use Rattle.spell.proofs.Writing.{written-within, written_then}
use Rattle.day.specs.sheet_lines.Lines.{sheet_lines}
use Rattle.day.proofs.sheet_lines.write_lines.Goals as goal

pub write_refusals-b-requires : goal.write_refusals-b-requires
write_refusals-b-requires c =
    let eleven : length c.args.sheet.refusals ≡ 11 = search rules in
    omega (arith, eleven, c.write_named-a.ensures.small)

pub write_point-c-requires : goal.write_point-c-requires
write_point-c-requires c =
    let eleven : length c.args.sheet.refusals ≡ 11 = search rules in
    omega (
      arith,
      eleven,
      c.write_refusals-b.ensures.small,
      c.write_named-a.ensures.small,
    )

pub write_point-requires : goal.write_point-requires
write_point-requires c =
    let eleven : length c.args.sheet.refusals ≡ 11 = search rules in
    omega (
      arith,
      eleven,
      c.write_point-c.ensures.small,
      c.write_refusals-b.ensures.small,
      c.write_named-a.ensures.small,
    )

pub returns : goal.returns
unfolding sheet_lines
returns c =
    let eleven : length c.args.sheet.refusals ≡ 11 = search rules in
    let span = c.args.sheet.span in
    let least : to_z w64 (of_z w64 span.least) ≡ span.least = search rules in
    let most : to_z w64 (of_z w64 span.most) ≡ span.most = search rules in
    let a = c.write_named-a.ensures in
    let b = written_then _ _ _ _ _ _ _ _ _ _ a c.write_refusals-b.ensures in
    let d = written_then _ _ _ _ _ _ _ _ _ _ b (rw least at c.write_point-c.ensures) in
    let e = written_then _ _ _ _ _ _ _ _ _ _ d (rw most at c.write_point.ensures) in
    written-within _ _ _ _ _ _ e _ (omega (arith, eleven))
