-- The line of a pair whose replies differ: its number, the byte at which it begins, what was asked, and what differs first.
-- Assumes nothing.
use Rattle.std.specs.Prelude.{cond, List, [], ◌∷◌, ◌++◌, ℕ, suc, ◌-◌, ◌/◌, eqb, ltb, length, get_or}
use Rattle.wire.specs.Words.{number_at}
use Rattle.wire.specs.Start.{kind_field, start}
use Rattle.page.specs.Page.{counted, numbered, hexed}
use Rattle.shown.specs.entries.Text.{pair_is, at_byte, request_kind, form_is, colon, newline, today, today_kind, kind_is, number_is, place_is, count_is}
use Rattle.shown.specs.entries.Text.{length_is, byte_is, point_is, is}

-- `pair N at byte M`
unfoldable pub title_of : ℕ → ℕ → List ℕ
title_of number offset = counted pair_is number ++ counted at_byte offset

-- `: request kind 0xKKKK form F: `
unfoldable pub asked_of : List ℕ → List ℕ
asked_of request = hexed request_kind (kind_field request) ++ counted form_is (get_or request 4 0) ++ colon

-- the first byte at which two records differ, or where the shorter ends
unfoldable pub first_difference : List ℕ → List ℕ → ℕ
first_difference [] b = 0
first_difference (x ∷ a) [] = 0
first_difference (x ∷ a) (y ∷ b) = cond (eqb x y) (suc (first_difference a b)) 0

-- `WORD A, today B`
unfoldable pub change_of : List ℕ → ℕ → ℕ → List ℕ
change_of word a b = counted word a ++ counted today b

unfoldable pub kind_change : ℕ → ℕ → List ℕ
kind_change a b = hexed kind_is a ++ hexed today_kind b

-- `point K is A, today B`, of the point that holds byte d; or `byte D`, before the points
unfoldable pub point_change : List ℕ → List ℕ → ℕ → List ℕ
point_change a b d =
    cond (ltb d start) (counted byte_is d)
    (let k = (d - start) / 2 in counted point_is k ++ numbered is (number_at a start k) ++ numbered today (number_at b start k))

-- of replies that differ neither in number nor in place or count: the length, or a point
unfoldable pub behind_change : List ℕ → List ℕ → List ℕ
behind_change a b = cond (eqb (length a) (length b)) (point_change a b (first_difference a b)) (change_of length_is (length a) (length b))

-- what differs first: the kind, the number, the place, the count, the length, a point
unfoldable pub what_differs : List ℕ → List ℕ → List ℕ
what_differs a b =
    cond (eqb (kind_field a) (kind_field b))
    (cond (eqb (get_or a 4 0) (get_or b 4 0))
    (cond (eqb (get_or a 5 0) (get_or b 5 0))
    (cond (eqb (get_or a 6 0) (get_or b 6 0)) (behind_change a b) (change_of count_is (get_or a 6 0) (get_or b 6 0)))
    (change_of place_is (get_or a 5 0) (get_or b 5 0))) (change_of number_is (get_or a 4 0) (get_or b 4 0))) (kind_change (kind_field a) (kind_field b))

-- the line
unfoldable pub entry_line : ℕ → ℕ → List ℕ → List ℕ → List ℕ → List ℕ
entry_line number offset request recorded now = title_of number offset ++ asked_of request ++ what_differs recorded now ++ newline
