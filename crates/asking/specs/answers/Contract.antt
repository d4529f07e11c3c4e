-- What the answers' functions promise: every byte of the lent buffers, for every line and every part. Assumes nothing.
use Rattle.std.specs.Prelude.{◌≡◌, cond, List, [], ℕ, ◌+◌, ◌≤◌, ltb, length, take, drop}
use Rattle.std.proofs.lemmas.List.Edits.{sets}
use Rattle.capped.specs.Capped.{capped}
use Rattle.text.specs.pieces.Kept.{Cut, cut_at}
use Rattle.spell.specs.Decimal.{Front}
use Rattle.asking.specs.answers.Answer.{answer_of, complaint_of}
use Rattle.asking.specs.declared.answers.Lengths.{Lengths}
use Rattle.asking.specs.declared.answers.lines.Lines.{Lines}
use Rattle.asking.specs.declared.answers.lines.Taken.{Taken}

-- so many bytes are enough for every answer and every complaint
abbrev pub room : ℕ
room = 8192

-- an answer and a complaint were written to the front of two buffers, up to ends within them
pub record Says (answer complaint out err out' err' : List ℕ) (m n : ℕ) : Type 0 where
  pub answered : Front answer out out' m
  pub complained : Front complaint err err' n
  pub answer_fits : m ≤ length out
  pub complaint_fits : n ≤ length err

-- nothing is written unless both buffers are large enough
unfoldable pub enough : List ℕ → List ℕ → List ℕ → List ℕ
enough out err bytes = cond (ltb (length out) room) [] (cond (ltb (length err) room) [] bytes)

-- a line was answered; and the same where both buffers are large enough
abbrev pub Answers : (line : List ℕ) (row : ℕ) (out err out' err' : List ℕ) (r : Lengths) → Type 0
Answers line row out err out' err' r =
    Says (enough out err (answer_of line)) (enough out err (complaint_of row line)) out err out' err' r.answer r.complaint

abbrev pub SaysAll : (line : List ℕ) (row : ℕ) (out err out' err' : List ℕ) (r : Lengths) → Type 0
SaysAll line row out err out' err' r = Says (answer_of line) (complaint_of row line) out err out' err' r.answer r.complaint

-- behind a line that ended: nothing is kept, and the next line has the next number
unfoldable pub behind_line : (at row answer complaint : ℕ) → Taken
behind_line at row answer complaint = record {
  at = at;
  lines = record { kept = 0; row = capped (row + 1) };
  answer = answer;
  complaint = complaint;
}

-- what a part, cut at its next newline, gives: the line that ended is answered, and the next one begins
pub record Gives (c : Cut) (at row : ℕ) (line out err line' out' err' : List ℕ) (r : Taken) : Type 0 where
  pub next : r.at ≡ at + c.read
  pub kept : r.lines.kept ≡ cond c.ended 0 (length c.kept)
  pub row_is : r.lines.row ≡ cond c.ended (capped (row + 1)) row
  pub holds : line' ≡ sets line 0 c.kept
  pub says : Says (cond c.ended (enough out err (answer_of c.kept)) []) (cond c.ended
      (enough out err (complaint_of row c.kept)) []) out err out' err' r.answer r.complaint

-- the part from `at` on was taken
abbrev pub Takes : (part : List ℕ) (at : ℕ) (l : Lines) (line out err line' out' err' : List ℕ) (r : Taken) → Type 0
Takes part at l line out err line' out' err' r =
    Gives (cut_at (length line) (take l.kept line) (drop at part)) at l.row line out err line' out' err' r
