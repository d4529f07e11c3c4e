-- `lean_sheet::put_span` meets its contract. Assumes nothing.
use mathlib.Core.Path.{◌≡◌}
use mir.Syntax.{w64}
use mir.Val.{to_z, of_z}
use Rattle.lean_sheet.proofs.Arrays.{span_is}
use borrow.Author.Rules.{rules}
use Rattle.lean_sheet.proofs.put_span.Goals as goal

pub returns : goal.returns
returns c =
    let s = c.args.span in
    let least : to_z w64 (of_z w64 s.least) ≡ s.least = search rules in
    let most : to_z w64 (of_z w64 s.most) ≡ s.most = search rules in
    span_is s (to_z w64 (of_z w64 s.least)) (to_z w64 (of_z w64 s.most)) least most
