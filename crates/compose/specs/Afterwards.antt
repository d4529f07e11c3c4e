-- What the three output arrays hold afterwards, and how many net entries are reported, for every input. Assumes nothing.
use Rattle.std.specs.Prelude.{cond, List, ℕ, ◌+◌, eqb, ℤ, length}
unfoldable pub use Rattle.lists.specs.Lists.{list_below, afterwards}
pub use Rattle.compose.specs.writing.Arrays.{Arrays, arrays}
use Rattle.two_words.specs.Words.{high_word, low_word}
use Rattle.request.specs.declared.Head.{Head}
use Rattle.request.specs.declared.Rooms.{Rooms}
use Rattle.request.specs.Head.{by_form, degree}
use Rattle.request.specs.Request.{Request}
use Rattle.request.specs.Refusal.{answer}
use Rattle.net.specs.Composed.{numerator, point}
use Rattle.net.specs.runs.Tree.{Tree, tree, entries}

-- how many places each of them has
abbrev pub rooms_of : Arrays → Rooms
rooms_of lent = record { high = length lent.high; low = length lent.low; points = length lent.points }

-- "A refusal changes none of them" (rule What stays; 02, ticket 6). "On acceptance the first L+1 places of each are written and
-- all later places stay."
unfoldable pub high_after : Request → ℕ → Arrays → List ℤ
high_after rq age lent = afterwards (answer rq age (rooms_of lent)).count (λ R. high_word (numerator rq R)) lent.high

unfoldable pub low_after : Request → ℕ → Arrays → List ℕ
low_after rq age lent = afterwards (answer rq age (rooms_of lent)).count (λ R. low_word (numerator rq R)) lent.low

unfoldable pub points_after : Request → ℕ → Arrays → List ℤ
points_after rq age lent = afterwards (answer rq age (rooms_of lent)).count (point rq) lent.points

-- "For forms 1 and 3 the answer also carries how many net entries were formed" (rule Counting; 02, ticket 7): those of the tree of
-- runs of r of the N + 1 path points; "A refused request reports 0, and so does form 2."
unfoldable pub ride_tree : Head → Tree
ride_tree h = tree (degree h) 0 (h.N + 1)

unfoldable pub entries_of : Head → ℕ
entries_of h = by_form h (entries 1 (ride_tree h)) 0 (entries 2 (ride_tree h))

unfoldable pub entries_after : Request → ℕ → Arrays → ℕ
entries_after rq age lent = cond (eqb (answer rq age (rooms_of lent)).number 0) (entries_of rq.head) 0
