-- "Inside these every blossom value is at most 2^52 in size and every numerator at most 2704156·2^52": which requests are inside,
-- and the two bounds. That they hold is proofs/Bounds.antt. Assumes nothing.
use Rattle.std.specs.Prelude.{◌≡◌, false, List, ℕ, ◌+◌, ◌*◌, ◌^◌, ℤ, length}
use Rattle.pascal.specs.Entry.{largest}
use Rattle.request.specs.declared.Head.{Head}
use Rattle.request.specs.Request.{Request}
use Rattle.request.specs.Refusal.{not_degree, value_place, parameter_place, balance_place}

-- what PARAMETER and BALANCE leave of a path
pub record GoodPath (h : Head) (path : List ℤ) : Type 0 where
  pub numbers : parameter_place path ≡ length path
  pub even : (h.form ≡ 1 → ⊥) → (h.form ≡ 2 → ⊥) → balance_place path h.N ≡ h.N + 1

-- what DEGREE, VALUE, PARAMETER and BALANCE leave of a request
pub record Composable (rq : Request) : Type 0 where
  pub small : not_degree rq.head ≡ false
  pub travels : value_place rq.surface ≡ length rq.surface
  pub good : GoodPath rq.head rq.path

-- four arguments, each of 1024, of the greatest travel
abbrev pub blossom_most : ℕ
blossom_most = 2 ^ 52

-- as often as the greatest binomial of the table
abbrev pub numerator_most : ℕ
numerator_most = largest * blossom_most
