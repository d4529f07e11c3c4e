-- The readers one after the other, and a line that is too long. Assumes nothing.
use mathlib.Core.Path.{◌≡◌, refl, ap, ◌∙◌}
use mathlib.Core.Bool.{Bool, true, false}
use mathlib.Core.List.{List, []}
use Prim.Native.Nat.{ℕ, ◌≤◌, ◌<◌}
use native.Mathlib.Omega.{arith}
use lib.Dec.{ltb}
use lib.ListN.{length}
use borrow.Author.Tests.{ltb-true, ltb-false}
use Rattle.text.specs.words.Words.{next}
use Rattle.text.specs.words.Read.{Inside}
use Rattle.text.specs.declared.words.Cursor.{Cursor}
use Rattle.text.specs.numbers.Numbers.{number, headed, after_values, values, listed}
use Rattle.text.specs.declared.words.After.{After}
use Rattle.request.specs.declared.Head.{Head}
use Rattle.text.specs.declared.rooms.Rooms.{Rooms}
use Rattle.text.specs.kinds.Kinds.{longest_line, overlong, begun, ended}
use Rattle.text.proofs.kinds.Owed.{begun-overlong}
use Rattle.request.specs.Head.{most_points}
use Rattle.text.specs.rooms.Shown.{roomed}
use Rattle.text.specs.Line.{aged, request, said}

pub said-is : (line : List ℕ) (o : Cursor) (h : After Head) (a b : Cursor) (m : After Rooms) (g : After ℕ) (e : Cursor) → o ≡ begun line
    → h ≡ headed line o → a ≡ (listed line h.cursor).cursor → b ≡ (listed line a).cursor → m ≡ roomed most_points line b
    → g ≡ aged line m.cursor → e ≡ ended line g.cursor
    → said line ≡ record {
      cursor = e;
      head = h.value;
      surface = (listed line h.cursor).numbers;
      path = (listed line a).numbers;
      rooms = m.value;
      age = g.value;
    }
unfolding said request
said-is line o h a b m g e n p q r s t u = rw (← n, ← p, ← q, ← r, ← s, ← t, ← u)

-- of a line that is too long nothing is read, so all such lines say the same
nothing_read : (line : List ℕ) → request line overlong ≡ request [] overlong
unfolding request headed listed values after_values number roomed aged ended next
nothing_read line = refl

pub said-overlong : (line : List ℕ) → longest_line < length line → said line ≡ request [] overlong
unfolding said
said-overlong line l = ap (request line) (begun-overlong line l) ∙ nothing_read line

-- where the wrong word stands is never far
overlong-end : (request [] overlong).cursor.end ≡ longest_line
unfolding request headed listed values after_values number roomed aged ended next
overlong-end = refl

pub said-short : (line : List ℕ) (c : Cursor) → c ≡ (said line).cursor → Inside line c → c.end ≤ longest_line
said-short line c e i = go (ltb longest_line (length line)) refl
  where
    go : (b : Bool) → ltb longest_line (length line) ≡ b → c.end ≤ longest_line
    go true t = omega (arith, ap (λ d. d.end) e, ap (λ s. s.cursor.end) (said-overlong line (ltb-true longest_line (length line) t)), overlong-end)
    go false f = omega (arith, i.end, ltb-false longest_line (length line) f)
