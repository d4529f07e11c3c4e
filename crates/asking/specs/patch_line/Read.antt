-- What the readers of a patch line promise: each value is that of its definition, and stays within its bounds. Assumes nothing.
use Rattle.std.specs.Prelude.{◌≡◌, List, ℕ, ◌≤◌, ℤ, negsuc, length, take, replicate}
use Rattle.std.proofs.lemmas.List.Edits.{sets}
use Rattle.text.specs.words.Read.{Inside}
use Rattle.text.specs.declared.words.Cursor.{Cursor}
use Rattle.text.specs.kinds.Read.{answer_most}
use Rattle.text.specs.numbers.Numbers.{most}
use Rattle.patch_net.specs.Patch.{patch_of}
use Rattle.asking.specs.patch_line.Line.{asked, reply_of}
use Rattle.asking.specs.declared.patch_line.Reading.{Reading}

-- what a line says from a cursor on, with the numbers of its two lists at the front of two arrays
pub record ReadsPatch (line : List ℕ) (c : Cursor) (surface path surface' path' : List ℤ) (r : Reading) : Type 0 where
  pub cursor : r.cursor ≡ (asked line c).cursor
  pub n : r.n ≡ (asked line c).n
  pub N : r.N ≡ (asked line c).N
  pub surface_count : r.surface ≡ length (asked line c).surface
  pub path_count : r.path ≡ length (asked line c).path
  pub rooms : r.rooms ≡ (asked line c).rooms
  pub surface_is : surface' ≡ sets surface 0 (asked line c).surface
  pub path_is : path' ≡ sets path 0 (asked line c).path
  pub few_values : r.surface ≤ most
  pub few_numbers : r.path ≤ most
  pub few_exact : r.rooms.exact ≤ most
  pub few_points : r.rooms.points ≤ most
  pub inside : Inside line r.cursor

-- what was read, with its numbers at the front of two arrays, has an answer that fits
pub record Fits (r : Reading) (surface path : List ℤ) (out : List ℕ) : Type 0 where
  pub values : r.surface ≤ length surface
  pub numbers : r.path ≤ length path
  pub exact : r.rooms.exact ≤ most
  pub points : r.rooms.points ≤ most
  pub enough : answer_most ≤ length out

-- its answer line
unfoldable pub line_in : Reading → List ℤ → List ℤ → List ℕ
line_in r surface path =
    reply_of (patch_of r.n r.N (take r.surface surface) (take r.path path)) r.rooms.given
    (replicate r.rooms.exact (negsuc 6)) (replicate r.rooms.points (negsuc 8))
