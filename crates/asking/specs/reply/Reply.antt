-- The answer line of a request: 01's answer to it (rule Request line), in the places that are shown. Assumes nothing.
use Rattle.std.specs.Prelude.{Bool, List, ℕ, ◌≤◌, ℤ, negsuc, length, take, replicate}
use Rattle.two_words.specs.Words.{numbers_of}
use Rattle.request.specs.Refusal.{answer}
use Rattle.request.specs.Request.{Request, request_of}
use Rattle.compose.specs.Afterwards.{Arrays, arrays, rooms_of, high_after, low_after, points_after, entries_after}
use Rattle.text.specs.kinds.Kinds.{Spoken}
use Rattle.text.specs.rooms.Shown.{shown}
use Rattle.text.specs.Line.{Said, said}
use Rattle.text.specs.declared.Reading.{Reading}
use Rattle.answer_line.specs.Answer.{answer_line}

-- the answer line of a request on a tilt sample of some age, whose arrays for words and points are lent
unfoldable pub reply_of : Request → ℕ → Bool → Arrays → List ℕ
reply_of rq age given lent =
    let a = answer rq age (rooms_of lent) in
    let c = shown given a.count (length lent.high) in
    let d = shown given a.count (length lent.points) in
    answer_line a.number a.place a.count (entries_after rq age lent)
    (numbers_of (take c (high_after rq age lent)) (take c (low_after rq age lent)))
    (take d (points_after rq age lent))

-- what the places hold beforehand: −7, by its words, and −9; the first room is that of both words' arrays
abbrev pub low_seven : ℕ
low_seven = 18446744073709551609

abbrev pub arrays_lent : ℕ → ℕ → Arrays
arrays_lent exact points = arrays (replicate exact (negsuc 0)) (replicate exact low_seven) (replicate points (negsuc 8))

-- what was read, with its numbers at the front of two arrays, has an answer that fits
pub record Fits (r : Reading) (surface path : List ℤ) (out : List ℕ) : Type 0 where
  pub values : r.surface ≤ length surface
  pub numbers : r.path ≤ length path
  pub exact : r.rooms.exact ≤ 64
  pub points : r.rooms.points ≤ 64
  pub enough : 4096 ≤ length out

-- its answer line
unfoldable pub line_in : Reading → List ℤ → List ℤ → List ℕ
line_in r surface path =
    reply_of (request_of r.head (take r.surface surface) (take r.path path)) r.age r.rooms.given
    (arrays_lent r.rooms.exact r.rooms.points)

-- the answer line of the request that a line says
unfoldable pub line_of : Said → List ℕ
line_of s =
    reply_of (request_of s.head s.surface s.path) s.age s.rooms.given
    (arrays_lent s.rooms.exact s.rooms.points)

abbrev pub spoken_as : Said → Spoken
spoken_as s = record { cursor = s.cursor; answer = line_of s }

-- what a ride's line says
unfoldable pub spoken : List ℕ → Spoken
spoken line = spoken_as (said line)
