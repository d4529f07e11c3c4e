-- What DEGREE, VALUE, PARAMETER and BALANCE leave of a patch. Assumes nothing.
use Rattle.std.specs.Prelude.{◌≡◌, ◌≤◌, length}
use Rattle.request.specs.Refusal.{value_place, parameter_place}
use Rattle.patch_net.specs.Patch.{Patch, most_degree, places}
use Rattle.patch_net.specs.Refusal.{balance_place}

pub record Composable (p : Patch) : Type 0 where
  pub outer_most : p.outer ≤ most_degree
  pub domain_most : p.domain ≤ most_degree
  pub travels : value_place p.surface ≡ length p.surface
  pub numbers : parameter_place p.path ≡ length p.path
  pub even : balance_place p ≡ places p.domain
