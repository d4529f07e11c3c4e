-- The reply record of ticket 1 (rule Records), the room that the longest one needs, and what writing it leaves of a slice. Assumes nothing.
use Rattle.std.specs.Prelude.{List, [], ◌∷◌, ◌++◌, ℕ, ◌+◌, ◌*◌, ℤ, length, drop}
use Rattle.request.specs.declared.Answer.{Answer}
use Rattle.request.specs.Head.{most_points}
use Rattle.wire.specs.Words.{number_bytes}
use Rattle.wire.specs.Start.{start, record_of}

abbrev pub reply_kind : ℕ
reply_kind = 0x8001

-- "Reply kind 0x8001: number, place, count, a zero byte, then the rounded points, two bytes signed each."
unfoldable pub answer_bytes : Answer → List ℕ
answer_bytes a = a.number ∷ a.place ∷ a.count ∷ 0 ∷ []

unfoldable pub reply_record : Answer → List ℤ → List ℕ
reply_record a points = record_of reply_kind (answer_bytes a ++ number_bytes points)

-- "At the door the reply room is 58 bytes" (rule Reply room; 02, ticket 6): 8 and two for each of the most points
abbrev pub room : ℕ
room = start + 2 * most_points

-- what is written, and "the slice beyond the reply stays"
unfoldable pub over {ℓ} : {A : Type ℓ} → List A → List A → List A
over written lent = written ++ drop (length written) lent
