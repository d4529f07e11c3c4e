-- The words of the lines, as bytes. Assumes nothing.
use Rattle.std.specs.Prelude.{List, [], ◌∷◌, ℕ}

-- `pair `
abbrev pub pair_is : List ℕ
pair_is = 112 ∷ 97 ∷ 105 ∷ 114 ∷ 32 ∷ []

-- ` at byte `
abbrev pub at_byte : List ℕ
at_byte = 32 ∷ 97 ∷ 116 ∷ 32 ∷ 98 ∷ 121 ∷ 116 ∷ 101 ∷ 32 ∷ []

-- `: request kind 0x`
abbrev pub request_kind : List ℕ
request_kind = 58 ∷ 32 ∷ 114 ∷ 101 ∷ 113 ∷ 117 ∷ 101 ∷ 115 ∷ 116 ∷ 32 ∷ 107 ∷ 105 ∷ 110 ∷ 100 ∷ 32 ∷ 48 ∷ 120 ∷ []

-- ` form `
abbrev pub form_is : List ℕ
form_is = 32 ∷ 102 ∷ 111 ∷ 114 ∷ 109 ∷ 32 ∷ []

-- `: `
abbrev pub colon : List ℕ
colon = 58 ∷ 32 ∷ []

-- `\n`
abbrev pub newline : List ℕ
newline = 10 ∷ []

-- `, today `
abbrev pub today : List ℕ
today = 44 ∷ 32 ∷ 116 ∷ 111 ∷ 100 ∷ 97 ∷ 121 ∷ 32 ∷ []

-- `, today 0x`
abbrev pub today_kind : List ℕ
today_kind = 44 ∷ 32 ∷ 116 ∷ 111 ∷ 100 ∷ 97 ∷ 121 ∷ 32 ∷ 48 ∷ 120 ∷ []

-- `kind 0x`
abbrev pub kind_is : List ℕ
kind_is = 107 ∷ 105 ∷ 110 ∷ 100 ∷ 32 ∷ 48 ∷ 120 ∷ []

-- `number `
abbrev pub number_is : List ℕ
number_is = 110 ∷ 117 ∷ 109 ∷ 98 ∷ 101 ∷ 114 ∷ 32 ∷ []

-- `place `
abbrev pub place_is : List ℕ
place_is = 112 ∷ 108 ∷ 97 ∷ 99 ∷ 101 ∷ 32 ∷ []

-- `count `
abbrev pub count_is : List ℕ
count_is = 99 ∷ 111 ∷ 117 ∷ 110 ∷ 116 ∷ 32 ∷ []

-- `length `
abbrev pub length_is : List ℕ
length_is = 108 ∷ 101 ∷ 110 ∷ 103 ∷ 116 ∷ 104 ∷ 32 ∷ []

-- `byte `
abbrev pub byte_is : List ℕ
byte_is = 98 ∷ 121 ∷ 116 ∷ 101 ∷ 32 ∷ []

-- `point `
abbrev pub point_is : List ℕ
point_is = 112 ∷ 111 ∷ 105 ∷ 110 ∷ 116 ∷ 32 ∷ []

-- ` is `
abbrev pub is : List ℕ
is = 32 ∷ 105 ∷ 115 ∷ 32 ∷ []

-- `the trace ends at byte `
abbrev pub ends_at : List ℕ
ends_at = 116 ∷ 104 ∷ 101 ∷ 32 ∷ 116 ∷ 114 ∷ 97 ∷ 99 ∷ 101 ∷ 32 ∷ 101 ∷ 110 ∷ 100 ∷ 115 ∷ 32 ∷ 97 ∷ 116 ∷ 32 ∷ 98 ∷ 121 ∷ 116 ∷ 101 ∷ 32 ∷ []

-- `cut off at byte `
abbrev pub cut_off_at : List ℕ
cut_off_at = 99 ∷ 117 ∷ 116 ∷ 32 ∷ 111 ∷ 102 ∷ 102 ∷ 32 ∷ 97 ∷ 116 ∷ 32 ∷ 98 ∷ 121 ∷ 116 ∷ 101 ∷ 32 ∷ []

-- `, in the pair that begins at byte `
abbrev pub begins_at : List ℕ
begins_at =
    44 ∷ 32 ∷ 105 ∷ 110 ∷ 32 ∷ 116 ∷ 104 ∷ 101 ∷ 32 ∷ 112 ∷ 97 ∷ 105 ∷ 114 ∷ 32 ∷ 116 ∷ 104 ∷ 97 ∷ 116 ∷ 32 ∷ 98 ∷ 101 ∷ 103 ∷ 105 ∷ 110
    ∷ 115 ∷ 32 ∷ 97 ∷ 116 ∷ 32 ∷ 98 ∷ 121 ∷ 116 ∷ 101 ∷ 32 ∷ []

-- The forms (crates/page/specs/Form.antt) of the title, of a line up to what differs, of what differs first, and of the closing line. No reader
-- has to believe them: that their texts are the lines above is proved.
-- `pair !1 at byte !A`
abbrev pub title_form : List ℕ
title_form =
    112 ∷ 97 ∷ 105 ∷ 114 ∷ 32 ∷ 33 ∷ 49 ∷ 32 ∷ 97 ∷ 116 ∷ 32 ∷ 98 ∷ 121 ∷ 116 ∷ 101 ∷ 32 ∷ 33 ∷ 65 ∷ []

-- `pair !1 at byte !A: request kind 0x$2 form #4: `
abbrev pub opening_form : List ℕ
opening_form =
    112 ∷ 97 ∷ 105 ∷ 114 ∷ 32 ∷ 33 ∷ 49 ∷ 32 ∷ 97 ∷ 116 ∷ 32 ∷ 98 ∷ 121 ∷ 116 ∷ 101 ∷ 32 ∷ 33 ∷ 65 ∷ 58 ∷ 32 ∷ 114 ∷ 101 ∷ 113 ∷ 117 ∷ 101 ∷ 115
    ∷ 116 ∷ 32 ∷ 107 ∷ 105 ∷ 110 ∷ 100 ∷ 32 ∷ 48 ∷ 120 ∷ 36 ∷ 50 ∷ 32 ∷ 102 ∷ 111 ∷ 114 ∷ 109 ∷ 32 ∷ 35 ∷ 52 ∷ 58 ∷ 32 ∷ []

-- `kind 0x$2, today 0x$B\n;number #4, today #D\n;place #5, today #E\n;count #6, today #F\n;length &1, today &A\n;byte !1\n;point !1 is %1, today %A\n`
abbrev pub changes : List ℕ
changes =
    107 ∷ 105 ∷ 110 ∷ 100 ∷ 32 ∷ 48 ∷ 120 ∷ 36 ∷ 50 ∷ 44 ∷ 32 ∷ 116 ∷ 111 ∷ 100 ∷ 97 ∷ 121 ∷ 32 ∷ 48 ∷ 120 ∷ 36 ∷ 66 ∷ 10 ∷ 59 ∷ 110 ∷ 117 ∷ 109
    ∷ 98 ∷ 101 ∷ 114 ∷ 32 ∷ 35 ∷ 52 ∷ 44 ∷ 32 ∷ 116 ∷ 111 ∷ 100 ∷ 97 ∷ 121 ∷ 32 ∷ 35 ∷ 68 ∷ 10 ∷ 59 ∷ 112 ∷ 108 ∷ 97 ∷ 99 ∷ 101 ∷ 32 ∷ 35 ∷ 53
    ∷ 44 ∷ 32 ∷ 116 ∷ 111 ∷ 100 ∷ 97 ∷ 121 ∷ 32 ∷ 35 ∷ 69 ∷ 10 ∷ 59 ∷ 99 ∷ 111 ∷ 117 ∷ 110 ∷ 116 ∷ 32 ∷ 35 ∷ 54 ∷ 44 ∷ 32 ∷ 116 ∷ 111 ∷ 100 ∷ 97
    ∷ 121 ∷ 32 ∷ 35 ∷ 70 ∷ 10 ∷ 59 ∷ 108 ∷ 101 ∷ 110 ∷ 103 ∷ 116 ∷ 104 ∷ 32 ∷ 38 ∷ 49 ∷ 44 ∷ 32 ∷ 116 ∷ 111 ∷ 100 ∷ 97 ∷ 121 ∷ 32 ∷ 38 ∷ 65 ∷ 10
    ∷ 59 ∷ 98 ∷ 121 ∷ 116 ∷ 101 ∷ 32 ∷ 33 ∷ 49 ∷ 10 ∷ 59 ∷ 112 ∷ 111 ∷ 105 ∷ 110 ∷ 116 ∷ 32 ∷ 33 ∷ 49 ∷ 32 ∷ 105 ∷ 115 ∷ 32 ∷ 37 ∷ 49 ∷ 44 ∷ 32
    ∷ 116 ∷ 111 ∷ 100 ∷ 97 ∷ 121 ∷ 32 ∷ 37 ∷ 65 ∷ 10 ∷ []

-- `the trace ends at byte !A\n;cut off at byte !1, in the pair that begins at byte !A\n;length !1 at byte !A\n`
abbrev pub endings : List ℕ
endings =
    116 ∷ 104 ∷ 101 ∷ 32 ∷ 116 ∷ 114 ∷ 97 ∷ 99 ∷ 101 ∷ 32 ∷ 101 ∷ 110 ∷ 100 ∷ 115 ∷ 32 ∷ 97 ∷ 116 ∷ 32 ∷ 98 ∷ 121 ∷ 116 ∷ 101 ∷ 32 ∷ 33 ∷ 65 ∷ 10
    ∷ 59 ∷ 99 ∷ 117 ∷ 116 ∷ 32 ∷ 111 ∷ 102 ∷ 102 ∷ 32 ∷ 97 ∷ 116 ∷ 32 ∷ 98 ∷ 121 ∷ 116 ∷ 101 ∷ 32 ∷ 33 ∷ 49 ∷ 44 ∷ 32 ∷ 105 ∷ 110 ∷ 32 ∷ 116 ∷ 104
    ∷ 101 ∷ 32 ∷ 112 ∷ 97 ∷ 105 ∷ 114 ∷ 32 ∷ 116 ∷ 104 ∷ 97 ∷ 116 ∷ 32 ∷ 98 ∷ 101 ∷ 103 ∷ 105 ∷ 110 ∷ 115 ∷ 32 ∷ 97 ∷ 116 ∷ 32 ∷ 98 ∷ 121 ∷ 116
    ∷ 101 ∷ 32 ∷ 33 ∷ 65 ∷ 10 ∷ 59 ∷ 108 ∷ 101 ∷ 110 ∷ 103 ∷ 116 ∷ 104 ∷ 32 ∷ 33 ∷ 49 ∷ 32 ∷ 97 ∷ 116 ∷ 32 ∷ 98 ∷ 121 ∷ 116 ∷ 101 ∷ 32 ∷ 33 ∷ 65
    ∷ 10 ∷ []
