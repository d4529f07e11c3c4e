-- `text::numbers::read_values` meets its contract: the values so far lie at the front of the array. Assumes nothing.
use mathlib.Core.Path.{◌≡◌, refl, ◌∙◌}
use native.Mathlib.Omega.{arith}
use mir.Syntax.{w32}
use mir.Facts.{to_z-of_z}
use Rattle.text.specs.numbers.Numbers.{value, after_values, values}
use Rattle.text.proofs.numbers.Values.{values-next, values-put}
use Rattle.text.proofs.numbers.read_values.Goals as goal

pub loop-k-init : goal.loop-k-init
unfolding after_values values
loop-k-init c = (refl, c.requires.0, refl)

pub number-read-requires : goal.number-read-requires
number-read-requires c = (c.loop-k.invariant.1, omega arith, omega arith)

pub value_of-requires : goal.value_of-requires
value_of-requires c = c.number-read.ensures.small

pub loop-k-preserved : goal.loop-k-preserved
unfolding value
loop-k-preserved c =
    let inv = c.loop-k.invariant in
    let is = c.number-read.ensures.is in (
      values-next _ _ _ _ _ inv.0 is,
      c.number-read.ensures.inside,
      rw (to_z-of_z {w = w32} (record { sfits = c.value_of.type_inv }), c.value_of.ensures, inv.2)
          (values-put _ _ _ _ _ inv.0 is _),
    )

pub returns : goal.returns
returns c =
    let inv = c.loop-k.invariant in
    let k : c.loop-k.k ≡ c.args.count = omega arith in
    record { is = inv.0 ∙ rw k; inside = inv.1; holds = inv.2 ∙ rw k }
