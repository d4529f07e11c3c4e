-- What is read one after the other behind the word `patch`, and what is answered to it. Assumes nothing.
use mathlib.Core.Path.{◌≡◌}
use mathlib.Core.Bool.{Bool}
use mathlib.Core.List.{List}
use Prim.Native.Nat.{ℕ, ◌≤◌}
use native.Mathlib.Omega.{arith}
use lib.IntN.{ℤ}
use lib.ListN.{length, take}
use Rattle.request.specs.declared.Answer.{Answer}
use Rattle.text.specs.declared.words.Cursor.{Cursor}
use Rattle.text.specs.kinds.Kinds.{ended}
use Rattle.text.specs.kinds.Read.{answer_most}
use Rattle.text.specs.numbers.Numbers.{most, largest, natural, listed}
use Rattle.text.specs.declared.words.After.{After}
use Rattle.text.specs.declared.words.Whole.{Whole}
use Rattle.text.proofs.numbers.Zeros.{zeros, list-size, list_read}
use Rattle.text.specs.rooms.Shown.{roomed, shown}
use Rattle.text.specs.declared.rooms.Rooms.{Rooms}
use Rattle.patch_net.specs.Patch.{Patch}
use Rattle.patch_net.specs.Afterwards.{Patched}
use Rattle.answer_line.specs.Answer.{patch_line}
use Rattle.asking.specs.patch_line.Line.{most_places, asked, reply_of, line_of}
use Rattle.asking.specs.patch_line.Read.{ReadsPatch, Fits, line_in}
use Rattle.asking.specs.declared.patch_line.Reading.{Reading}

pub asked_is : (line : List ℕ) (c : Cursor) (n N : After Whole) (a b : Cursor) (m : After Rooms) (e : Cursor) → n ≡ natural line c largest
    → N ≡ natural line n.cursor largest → a ≡ (listed line N.cursor).cursor → b ≡ (listed line a).cursor
    → m ≡ roomed most_places line b → e ≡ ended line m.cursor
    → asked line c ≡ record {
      cursor = e;
      n = n.value.size;
      N = N.value.size;
      surface = (listed line N.cursor).numbers;
      path = (listed line a).numbers;
      rooms = m.value;
    }
unfolding asked
asked_is line c n N a b m e o p q r s t = rw (← o, ← p, ← q, ← r, ← s, ← t)

-- what was read as a patch
module _ (line : List ℕ) (c : Cursor) (surface path : List ℤ) (r : Reading) (is : ReadsPatch line c zeros zeros surface path r) where
  pub surface-size : most ≡ length surface
  surface-size = list-size (asked line c).surface surface is.surface_is

  pub path-size : most ≡ length path
  path-size = list-size (asked line c).path path is.path_is

  pub fits : (out : List ℕ) → answer_most ≤ length out → Fits r surface path out
  fits out m = record {
    values = omega (arith, surface-size, is.few_values);
    numbers = omega (arith, path-size, is.few_numbers);
    exact = is.few_exact;
    points = is.few_points;
    enough = m;
  }

  pub line_is : line_in r surface path ≡ line_of (asked line c)
  unfolding line_in line_of
  line_is =
      let surface-read = list_read (asked line c).surface surface is.surface_is r.surface is.surface_count is.few_values in
      let path-read = list_read (asked line c).path path is.path_is r.path is.path_count is.few_numbers in
      rw (surface-read, path-read, is.n, is.N, is.rooms)

-- the answer, with the arrays as they are left, in the places that are shown
pub replied : (p : Patch) (given : Bool) (exact points exact' points' : List ℤ) (a : Answer) (c d : ℕ)
    → Patched p exact points a exact' points' → length exact' ≡ length exact → length points' ≡ length points
    → c ≡ shown given a.count (length exact') → d ≡ shown given a.count (length points')
    → patch_line a.number a.place a.count (take c exact') (take d points') ≡ reply_of p given exact points
unfolding reply_of
replied p given exact points exact' points' a c d is e f q r = rw (q, r, e, f, is.exact_is, is.points_is, is.answered)
