-- `page::Paper::put_form` meets its contract. Assumes nothing.
use mathlib.Core.Path.{◌≡◌}
use mathlib.Core.Bool.{true}
use lib.ListN.{drop}
use Rattle.std.specs.Prelude.{IfSome}
use Rattle.page.specs.Form.{told, formed, is_mark}
use Rattle.page.proofs.Putting.{Onward}
use Rattle.page.proofs.Forming.{state_of}
use Rattle.page.proofs.Paper.put_form.Given as goal

abbrev pub invariant-loop-c : goal.invariant-loop-c
invariant-loop-c l = record {
  so_far : Onward (formed l.k l.forms l.a l.b l.n l.m) l.initial.self l.self (told (state_of l.before l.mark) (drop l.c-index l.forms) l.a l.b l.n l.m);
  waits : IfSome l.mark (λ sign. is_mark sign ≡ true);
}
