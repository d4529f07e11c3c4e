-- What is told of an input, a byte at a time: the answers to its lines, and what is said of lines that cannot be read, each after
-- the input's name. Assumes nothing.
use Rattle.std.specs.Prelude.{Bool, true, false, cond, List, [], ◌++◌, ℕ, ◌+◌, eqb, length}
use Rattle.text.specs.pieces.Kept.{kept_byte}
use Rattle.feed.specs.Parts.{fed}
use Rattle.feed.specs.Feed.{capped}
use Rattle.names.specs.Names.{by_name}
use Rattle.asking.specs.answers.Answer.{answer_of, complaint_of}

-- what is kept of the line that is not whole yet, its number, what was answered and complained so far, and whether a line was
-- unreadable
pub record Told : Type 0 where
  pub kept : List ℕ
  pub row : ℕ
  pub answers : List ℕ
  pub complaints : List ℕ
  pub unreadable : Bool

-- how it is told: the input's name, and whether refusals are told by name
pub record How : Type 0 where
  pub name : List ℕ
  pub by_names : Bool

abbrev pub telling : List ℕ → Bool → How
telling name by_names = record { name = name; by_names = by_names }

-- an answer line, with its refusal by name where that is wished
unfoldable pub shown_by : Bool → List ℕ → List ℕ
shown_by by_names line = cond by_names (by_name line) line

-- a complaint after the input's name; none where there is nothing to complain of
unfoldable pub blamed : List ℕ → List ℕ → List ℕ
blamed name complaint = cond (eqb (length complaint) 0) [] (name ++ complaint)

-- another line is kept; and the line that is kept has ended
unfoldable pub keeping : Told → List ℕ → Told
keeping t kept =
    record { kept = kept; row = t.row; answers = t.answers; complaints = t.complaints; unreadable = t.unreadable }

unfoldable pub line_ended : How → Told → Told
line_ended how t =
    record {
      kept = [];
      row = capped (t.row + 1);
      answers = t.answers ++ shown_by how.by_names (answer_of t.kept);
      complaints = t.complaints ++ blamed how.name (complaint_of t.row t.kept);
      unreadable = cond (eqb (length (complaint_of t.row t.kept)) 0) t.unreadable true;
    }

-- a byte more, where a line is kept in so much room
unfoldable pub after : ℕ → How → Told → ℕ → Told
after room how t b = cond (eqb b 10) (line_ended how t) (keeping t (kept_byte room t.kept b))

abbrev pub untold : Told
untold = record { kept = []; row = 1; answers = []; complaints = []; unreadable = false }

-- what is told of the bytes of an input
unfoldable pub told_of : How → List ℕ → Told
told_of how bytes = fed (after 4097 how) untold bytes
