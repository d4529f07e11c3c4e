-- `text::words::skip` meets its contract: all bytes passed pass the test. Assumes nothing.
use mathlib.Core.Bool.{not}
use Rattle.std.proofs.Common.{rules}
use Rattle.std.proofs.lemmas.Iterator.{YieldsList-from_slice}
use Rattle.std.proofs.lemmas.Iterator.Search.{position_from_yields_List}
use Rattle.text.proofs.words.Runs.{skips_to}
use Rattle.text.proofs.words.skip.Goals as goal

pub returns-clause-passed : goal.returns-clause-passed
returns-clause-passed g c = λ p h.
    let place = position_from_yields_List (λ b. not (p b)) _ _ c.position.result c.position.ensures.ran
    (YieldsList-from_slice _ c.iter.ensures.rest) (λ x b q k. search (rules, h)) in
    skips_to p _ _ _ _ c.requires.within place c.unwrap_or.ensures
