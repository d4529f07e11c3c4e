-- The contract of `lean_compose`, for every input: the composer's own, with the answer and the entries in four words. Assumes nothing.
use Rattle.std.specs.Prelude.{◌≡◌, cond, List, ℕ, ltb, ℤ, length, set}
use Rattle.request.specs.declared.Answer.{Answer}
use Rattle.request.specs.Request.{Request}
use Rattle.request.specs.Refusal.{answer}
use Rattle.crossing.specs.Answered.{with_answer}
use Rattle.compose.specs.Afterwards.{Arrays, rooms_of, high_after, low_after, points_after, entries_after}

-- the request that a call's form, degrees, N, surface and path are
abbrev pub request_of : ℕ → ℕ → ℕ → ℕ → List ℤ → List ℤ → Request
request_of form first second N surface path =
    record { head = record { form = form; first = first; second = second; N = N }; surface = surface; path = path }

-- the answer, behind it the entries, and every later word as it was
unfoldable pub with_entries : Answer → ℕ → List ℕ → List ℕ
with_entries a entries words = set (with_answer a words) 3 entries

-- lent and words are the arrays as they were lent; where there is no room for the answer nothing is written
pub record Exported (rq : Request) (age : ℕ) (lent : Arrays) (words : List ℕ) (code : ℕ) (left : Arrays) (words' : List ℕ) : Type 0 where
  pub code_is : code ≡ cond (ltb (length words) 4) 1 0
  pub high_is : left.high ≡ cond (ltb (length words) 4) lent.high (high_after rq age lent)
  pub low_is : left.low ≡ cond (ltb (length words) 4) lent.low (low_after rq age lent)
  pub points_is : left.points ≡ cond (ltb (length words) 4) lent.points (points_after rq age lent)
  pub words_is : words' ≡ cond (ltb (length words) 4) words (with_entries (answer rq age (rooms_of lent)) (entries_after rq age lent) words)
