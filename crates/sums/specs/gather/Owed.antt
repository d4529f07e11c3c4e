-- What a walk has still to add, place by place, and by how much weight; when it may. `F R` is what is read for place R where the
-- arguments of the walk are used up, `rest` the weight of what is read. Assumes nothing.
use Rattle.std.specs.Prelude.{cond, List, ℕ, ◌+◌, ◌*◌, ◌-◌, ◌≤◌, ◌<◌, ℤ, pos, ◌*ℤ◌, ltb, length, drop}
use Rattle.limbs.specs.Limbs.{Room}
use Rattle.net.specs.Net.{Net}
use Rattle.net.specs.runs.Terms.{Term, Reading}
use Rattle.net.specs.runs.Walk.{walk}
use Rattle.net.specs.runs.Ride.{leaf}
use Rattle.net.specs.runs.Budget.{budget}
use Rattle.sums.specs.gather.Table.{terms_of, Good}

unfoldable pub owed : (ℕ → Reading) → List Term → ℕ → ℕ → ℕ → ℕ → Net → ℕ → ℤ
owed F T weight left begun s p R = pos weight *ℤ walk T left begun (F R) s p

unfoldable pub due : ℕ → List Term → ℕ → ℕ → ℕ → ℕ
due rest T weight left begun = weight * budget T left begun rest

-- a walk over group g of a table may begin: its weight is within the room
pub record Able (t : List ℕ) (count most g rest left from begun weight : ℕ) (sums : List ℤ) : Type 0 where
  pub good : Good t count most
  pub here : from < count
  pub few : begun ≤ 4
  pub open_few : left ≤ begun
  pub some : 0 < rest
  pub room : Room sums (due rest (drop from (terms_of t count g)) weight left begun)

-- ---- two groups: the last `second` arguments are those of the second, 3; the others are of group `outer`
unfoldable pub group_at : ℕ → ℕ → ℕ → ℕ
group_at outer second left = cond (ltb second left) outer 3

-- how many arguments of its group are left
unfoldable pub of_group : ℕ → ℕ → ℕ
of_group second left = cond (ltb second left) (left - second) left

-- form 2: how far apart the neighbours of an argument stand in the request's order
unfoldable pub gap_at : ℕ → ℕ → ℕ
gap_at second left = cond (ltb second left) (second + 1) 1

-- where a group is used up the next begins; where the last is, the number that is left is read
unfoldable pub read_at : List ℕ → ℕ → ℕ → ℕ → ℕ → Reading
read_at t count second left = cond (ltb second left) (λ R. walk (terms_of t count 3) second second (leaf R)) leaf

unfoldable pub rest_at : List ℕ → ℕ → ℕ → ℕ → ℕ
rest_at t count second left = cond (ltb second left) (budget (terms_of t count 3) second second 1) 1

abbrev pub owing : List ℕ → ℕ → ℕ → ℕ → ℕ → ℕ → ℕ → ℕ → ℕ → Net → ℕ → ℤ
owing t count outer second left from begun s weight p =
    owed (read_at t count second left) (drop from (terms_of t count (group_at outer second left))) weight (of_group second left) begun s p

abbrev pub duty : List ℕ → ℕ → ℕ → ℕ → ℕ → ℕ → ℕ → ℕ → ℕ
duty t count outer second left from begun weight =
    due (rest_at t count second left) (drop from (terms_of t count (group_at outer second left))) weight (of_group second left) begun

-- the sum over `left` arguments may begin at place s
pub record Ready (t : List ℕ) (count outer second left from begun s weight : ℕ) (sums : List ℤ) : Type 0 where
  pub most : ℕ
  pub able : Able t count most (group_at outer second left) (rest_at t count second left) (of_group second left) from begun weight sums
  pub total : left ≤ 4
  pub second_few : second ≤ 4
  pub places : 2 * (s + left * most) + 1 < length sums
