-- `card::answered` meets its contract: the net holds the control values, and each place is exact. Assumes nothing.
use mathlib.Core.Path.{refl}
use Rattle.card.specs.Steps.{curve}
use Rattle.card.proofs.Places.{loaded-holds, filled-bits}
use Rattle.card.proofs.answered.Goals as goal

pub returns : goal.returns
returns c =
    let pre = c.requires in
    let surface = c.args.surface.now in
    record {
      number_is = refl;
      place_is = refl;
      count_is = refl;
      bits_are = filled-bits (curve surface) c.filled-numerators.ensures (loaded-holds surface _ c.args.m pre.0 pre.2 c.loaded-net.ensures)
          (record { is = c.of_path-u.ensures; path = pre.3 })
          (record { is = c.of_path-v.ensures; path = pre.4 });
    }
