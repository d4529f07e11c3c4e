-- `page::Paper::put` meets its contract. Assumes nothing.
use mathlib.Core.Path.{◌∙◌, ap, refl}
use lib.ListN.{take}
use native.Mathlib.Omega.{arith}
use Rattle.std.proofs.lemmas.Bool.Decides.{nat_tests}
use Rattle.page.proofs.Putting.{puts-nowhere, puts-copied}
use Rattle.page.proofs.Paper.put.Goals as goal

pub returns-then-is_empty : goal.returns-then-is_empty
returns-then-is_empty c = record {
  same = refl;
  put = puts-nowhere _ _ _ _ (c.front-fits.ensures ∙ ap (λ n. take n c.args.text.now) c.saturating_sub.ensures) (grind (arith, nat_tests));
}

pub returns : goal.returns
returns c = record {
  same = refl;
  put =
      puts-copied _ _ _ _ (c.front-fits.ensures ∙ ap (λ n. take n c.args.text.now) c.saturating_sub.ensures) _ (λ z. grind (arith, nat_tests))
      c.copy_from_slice.ensures.after;
}
