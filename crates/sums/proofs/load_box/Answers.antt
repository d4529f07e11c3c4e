-- `sums::load_box` meets its contract: each number is the control value of its place. Assumes nothing.
use mathlib.Core.Path.{sym, subst}
use Rattle.sums.specs.Loaded.{LoadedBox}
use Rattle.sums.proofs.steps.Fronts.{front, by-five}
use Rattle.sums.proofs.Loading.{box-loaded}
use Rattle.sums.proofs.load_box.Goals as goal

pub returns : goal.returns
unfolding front
returns c =
    let o = c.none-none.ensures in
    subst (LoadedBox c.args.surface.now) (sym (by-five c.net_of.ensures c.travels-p.ensures c.travels-q.ensures c.travels-r.ensures o o))
    (box-loaded c.args.surface.now c.requires)
