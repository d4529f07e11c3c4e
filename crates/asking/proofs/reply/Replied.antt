-- The composer's answer as a line, and the places that are lent to it. Assumes nothing.
use mathlib.Core.Path.{◌≡◌}
use mathlib.Core.Bool.{Bool}
use mathlib.Core.List.{List}
use Prim.Native.Nat.{ℕ, ◌≤◌}
use native.Mathlib.Omega.{arith}
use lib.IntN.{ℤ}
use lib.ListN.{length, take}
use Rattle.two_words.specs.Words.{numbers_of}
use Rattle.request.specs.Request.{Request}
use Rattle.text.proofs.numbers.Zeros.{zeros, list-size, list_read}
use Rattle.text.specs.rooms.Shown.{shown}
use Rattle.text.specs.Line.{said}
use Rattle.text.specs.Read.{ReadsLine}
use Rattle.text.specs.declared.Reading.{Reading}
use Rattle.compose.specs.declared.Composition.{Composition}
use Rattle.compose.specs.Afterwards.{Arrays}
use Rattle.compose.specs.Contract.{Composed}
use Rattle.answer_line.specs.Answer.{answer_line}
use Rattle.asking.specs.reply.Reply.{reply_of, Fits, line_in, line_of}

-- the composer's answer, with the arrays as it leaves them, in the places that are shown
pub replied : (rq : Request) (age : ℕ) (given : Bool) (lent left : Arrays) (k : Composition) (c d : ℕ)
    → Composed rq age lent k left
    → length left.high ≡ length lent.high → length left.points ≡ length lent.points
    → c ≡ shown given k.answer.count (length left.high) → d ≡ shown given k.answer.count (length left.points)
    → answer_line k.answer.number k.answer.place k.answer.count k.entries (numbers_of (take c left.high) (take c left.low))
    (take d left.points)
    ≡ reply_of rq age given lent
unfolding reply_of
replied rq age given lent left k c d is e f p q = rw (p, q, e, f, is.high_is, is.low_is, is.points_is, is.answered, is.counted)

-- what was read as a request
module _ (line : List ℕ) (surface path : List ℤ) (r : Reading) (is : ReadsLine line zeros zeros surface path r) where
  pub surface-size : 64 ≡ length surface
  surface-size = list-size (said line).surface surface is.surface_is

  pub path-size : 64 ≡ length path
  path-size = list-size (said line).path path is.path_is

  pub fits : (out : List ℕ) → 4096 ≤ length out → Fits r surface path out
  fits out m = record {
    values = omega (arith, surface-size, is.few_values);
    numbers = omega (arith, path-size, is.few_numbers);
    exact = is.few_exact;
    points = is.few_points;
    enough = m;
  }

  pub line_is : line_in r surface path ≡ line_of (said line)
  unfolding line_in line_of
  line_is =
      let surface_is = list_read (said line).surface surface is.surface_is r.surface is.surface_count is.few_values in
      let path_is = list_read (said line).path path is.path_is r.path is.path_count is.few_numbers in
      rw (surface_is, path_is, is.head, is.age, is.rooms)
