-- The page's forms (crates/page/specs/Form.antt), and which of several is put. No reader has to believe them: that their texts are those that
-- Asked.antt and Replied.antt say is proved. Assumes nothing.
use Rattle.std.specs.Prelude.{cond, List, [], ◌∷◌, ℕ, eqb, ltb, length}
use Rattle.request.specs.declared.Head.{Head}
use Rattle.request.specs.Refusal.{not_kind, not_degree}
use Rattle.wire.specs.Start.{kind_field}
use Rattle.judgement.specs.Record.{request_kind, aged_kind, aged_start, body_end}
use Rattle.shown.specs.declared.asked.Kind.{Kind}
use Rattle.shown.specs.declared.asked.Kind.TheVariants.{Plain, Aged, Short, Other}
use Rattle.shown.specs.declared.asked.Wish.{Wish}
use Rattle.shown.specs.declared.asked.Wish.TheVariants.{NoForm, NoDegree, OtherBody, Whole}
use Rattle.shown.specs.Replied.{point_count}

unfoldable pub kind_of : List ℕ → ℕ
kind_of r = cond (eqb (kind_field r) request_kind) 0 (cond (eqb (kind_field r) aged_kind) (cond (ltb (length r) aged_start) 2 1) 3)

-- the form of each
abbrev pub kind_form : Kind → ℕ
kind_form Plain = 0
kind_form Aged = 1
kind_form Short = 2
kind_form Other = 3

unfoldable pub wish_of : List ℕ → ℕ → Head → ℕ
wish_of r from h = cond (not_kind h) 0 (cond (not_degree h) 1 (cond (eqb (body_end from h) (length r)) 3 2))

abbrev pub wish_form : Wish → ℕ
wish_form NoForm = 0
wish_form NoDegree = 1
wish_form OtherBody = 2
wish_form Whole = 3

-- whether a reply lacks a point
unfoldable pub lacks : List ℕ → ℕ → ℕ
lacks r k = cond (ltb k (point_count r)) 0 1

-- `\n  there is no such form;\n  a degree or N is beyond its bounds;\n  the body is not as long as the degrees say;\n  control values in 0.01 mm:`
abbrev pub wish_forms : List ℕ
wish_forms =
    10 ∷ 32 ∷ 32 ∷ 116 ∷ 104 ∷ 101 ∷ 114 ∷ 101 ∷ 32 ∷ 105 ∷ 115 ∷ 32 ∷ 110 ∷ 111 ∷ 32 ∷ 115 ∷ 117 ∷ 99 ∷ 104 ∷ 32 ∷ 102 ∷ 111 ∷ 114 ∷ 109 ∷ 59
    ∷ 10 ∷ 32 ∷ 32 ∷ 97 ∷ 32 ∷ 100 ∷ 101 ∷ 103 ∷ 114 ∷ 101 ∷ 101 ∷ 32 ∷ 111 ∷ 114 ∷ 32 ∷ 78 ∷ 32 ∷ 105 ∷ 115 ∷ 32 ∷ 98 ∷ 101 ∷ 121 ∷ 111 ∷ 110
    ∷ 100 ∷ 32 ∷ 105 ∷ 116 ∷ 115 ∷ 32 ∷ 98 ∷ 111 ∷ 117 ∷ 110 ∷ 100 ∷ 115 ∷ 59 ∷ 10 ∷ 32 ∷ 32 ∷ 116 ∷ 104 ∷ 101 ∷ 32 ∷ 98 ∷ 111 ∷ 100 ∷ 121 ∷ 32
    ∷ 105 ∷ 115 ∷ 32 ∷ 110 ∷ 111 ∷ 116 ∷ 32 ∷ 97 ∷ 115 ∷ 32 ∷ 108 ∷ 111 ∷ 110 ∷ 103 ∷ 32 ∷ 97 ∷ 115 ∷ 32 ∷ 116 ∷ 104 ∷ 101 ∷ 32 ∷ 100 ∷ 101 ∷ 103
    ∷ 114 ∷ 101 ∷ 101 ∷ 115 ∷ 32 ∷ 115 ∷ 97 ∷ 121 ∷ 59 ∷ 10 ∷ 32 ∷ 32 ∷ 99 ∷ 111 ∷ 110 ∷ 116 ∷ 114 ∷ 111 ∷ 108 ∷ 32 ∷ 118 ∷ 97 ∷ 108 ∷ 117 ∷ 101
    ∷ 115 ∷ 32 ∷ 105 ∷ 110 ∷ 32 ∷ 48 ∷ 46 ∷ 48 ∷ 49 ∷ 32 ∷ 109 ∷ 109 ∷ 58 ∷ []

-- `reply      recorded | today (points in 0.01 mm)\n  bytes    &1 | &A\n  kind     0x$2 | 0x$B\n  answer   `
abbrev pub table_form : List ℕ
table_form =
    114 ∷ 101 ∷ 112 ∷ 108 ∷ 121 ∷ 32 ∷ 32 ∷ 32 ∷ 32 ∷ 32 ∷ 32 ∷ 114 ∷ 101 ∷ 99 ∷ 111 ∷ 114 ∷ 100 ∷ 101 ∷ 100 ∷ 32 ∷ 124 ∷ 32 ∷ 116 ∷ 111 ∷ 100
    ∷ 97 ∷ 121 ∷ 32 ∷ 40 ∷ 112 ∷ 111 ∷ 105 ∷ 110 ∷ 116 ∷ 115 ∷ 32 ∷ 105 ∷ 110 ∷ 32 ∷ 48 ∷ 46 ∷ 48 ∷ 49 ∷ 32 ∷ 109 ∷ 109 ∷ 41 ∷ 10 ∷ 32 ∷ 32 ∷ 98
    ∷ 121 ∷ 116 ∷ 101 ∷ 115 ∷ 32 ∷ 32 ∷ 32 ∷ 32 ∷ 38 ∷ 49 ∷ 32 ∷ 124 ∷ 32 ∷ 38 ∷ 65 ∷ 10 ∷ 32 ∷ 32 ∷ 107 ∷ 105 ∷ 110 ∷ 100 ∷ 32 ∷ 32 ∷ 32 ∷ 32
    ∷ 32 ∷ 48 ∷ 120 ∷ 36 ∷ 50 ∷ 32 ∷ 124 ∷ 32 ∷ 48 ∷ 120 ∷ 36 ∷ 66 ∷ 10 ∷ 32 ∷ 32 ∷ 97 ∷ 110 ∷ 115 ∷ 119 ∷ 101 ∷ 114 ∷ 32 ∷ 32 ∷ 32 ∷ []

-- `\n  place    #5 | #E\n  count    #6 | #F`
abbrev pub places_form : List ℕ
places_form =
    10 ∷ 32 ∷ 32 ∷ 112 ∷ 108 ∷ 97 ∷ 99 ∷ 101 ∷ 32 ∷ 32 ∷ 32 ∷ 32 ∷ 35 ∷ 53 ∷ 32 ∷ 124 ∷ 32 ∷ 35 ∷ 69 ∷ 10 ∷ 32 ∷ 32 ∷ 99 ∷ 111 ∷ 117 ∷ 110 ∷ 116
    ∷ 32 ∷ 32 ∷ 32 ∷ 32 ∷ 35 ∷ 54 ∷ 32 ∷ 124 ∷ 32 ∷ 35 ∷ 70 ∷ []

-- `they differ at byte !1, counted from 0\n`
abbrev pub differ_form : List ℕ
differ_form =
    116 ∷ 104 ∷ 101 ∷ 121 ∷ 32 ∷ 100 ∷ 105 ∷ 102 ∷ 102 ∷ 101 ∷ 114 ∷ 32 ∷ 97 ∷ 116 ∷ 32 ∷ 98 ∷ 121 ∷ 116 ∷ 101 ∷ 32 ∷ 33 ∷ 49 ∷ 44 ∷ 32 ∷ 99 ∷ 111
    ∷ 117 ∷ 110 ∷ 116 ∷ 101 ∷ 100 ∷ 32 ∷ 102 ∷ 114 ∷ 111 ∷ 109 ∷ 32 ∷ 48 ∷ 10 ∷ []

-- `\nrequest   &1 bytes, kind 0x$2: form #4, degrees #5 #6, N #7, no age;\nrequest   &1 bytes, kind 0x$2: form #4, degrees #5 #6, N #7, age !1 ms;\nrequest   &1 bytes, kind 0x$2: too short for an age;\nrequest   &1 bytes, kind 0x$2: not a request's`
abbrev pub kind_forms : List ℕ
kind_forms =
    10 ∷ 114 ∷ 101 ∷ 113 ∷ 117 ∷ 101 ∷ 115 ∷ 116 ∷ 32 ∷ 32 ∷ 32 ∷ 38 ∷ 49 ∷ 32 ∷ 98 ∷ 121 ∷ 116 ∷ 101 ∷ 115 ∷ 44 ∷ 32 ∷ 107 ∷ 105 ∷ 110 ∷ 100 ∷ 32
    ∷ 48 ∷ 120 ∷ 36 ∷ 50 ∷ 58 ∷ 32 ∷ 102 ∷ 111 ∷ 114 ∷ 109 ∷ 32 ∷ 35 ∷ 52 ∷ 44 ∷ 32 ∷ 100 ∷ 101 ∷ 103 ∷ 114 ∷ 101 ∷ 101 ∷ 115 ∷ 32 ∷ 35 ∷ 53 ∷ 32
    ∷ 35 ∷ 54 ∷ 44 ∷ 32 ∷ 78 ∷ 32 ∷ 35 ∷ 55 ∷ 44 ∷ 32 ∷ 110 ∷ 111 ∷ 32 ∷ 97 ∷ 103 ∷ 101 ∷ 59 ∷ 10 ∷ 114 ∷ 101 ∷ 113 ∷ 117 ∷ 101 ∷ 115 ∷ 116 ∷ 32
    ∷ 32 ∷ 32 ∷ 38 ∷ 49 ∷ 32 ∷ 98 ∷ 121 ∷ 116 ∷ 101 ∷ 115 ∷ 44 ∷ 32 ∷ 107 ∷ 105 ∷ 110 ∷ 100 ∷ 32 ∷ 48 ∷ 120 ∷ 36 ∷ 50 ∷ 58 ∷ 32 ∷ 102 ∷ 111 ∷ 114
    ∷ 109 ∷ 32 ∷ 35 ∷ 52 ∷ 44 ∷ 32 ∷ 100 ∷ 101 ∷ 103 ∷ 114 ∷ 101 ∷ 101 ∷ 115 ∷ 32 ∷ 35 ∷ 53 ∷ 32 ∷ 35 ∷ 54 ∷ 44 ∷ 32 ∷ 78 ∷ 32 ∷ 35 ∷ 55 ∷ 44 ∷ 32
    ∷ 97 ∷ 103 ∷ 101 ∷ 32 ∷ 33 ∷ 49 ∷ 32 ∷ 109 ∷ 115 ∷ 59 ∷ 10 ∷ 114 ∷ 101 ∷ 113 ∷ 117 ∷ 101 ∷ 115 ∷ 116 ∷ 32 ∷ 32 ∷ 32 ∷ 38 ∷ 49 ∷ 32 ∷ 98 ∷ 121
    ∷ 116 ∷ 101 ∷ 115 ∷ 44 ∷ 32 ∷ 107 ∷ 105 ∷ 110 ∷ 100 ∷ 32 ∷ 48 ∷ 120 ∷ 36 ∷ 50 ∷ 58 ∷ 32 ∷ 116 ∷ 111 ∷ 111 ∷ 32 ∷ 115 ∷ 104 ∷ 111 ∷ 114 ∷ 116
    ∷ 32 ∷ 102 ∷ 111 ∷ 114 ∷ 32 ∷ 97 ∷ 110 ∷ 32 ∷ 97 ∷ 103 ∷ 101 ∷ 59 ∷ 10 ∷ 114 ∷ 101 ∷ 113 ∷ 117 ∷ 101 ∷ 115 ∷ 116 ∷ 32 ∷ 32 ∷ 32 ∷ 38 ∷ 49 ∷ 32
    ∷ 98 ∷ 121 ∷ 116 ∷ 101 ∷ 115 ∷ 44 ∷ 32 ∷ 107 ∷ 105 ∷ 110 ∷ 100 ∷ 32 ∷ 48 ∷ 120 ∷ 36 ∷ 50 ∷ 58 ∷ 32 ∷ 110 ∷ 111 ∷ 116 ∷ 32 ∷ 97 ∷ 32 ∷ 114
    ∷ 101 ∷ 113 ∷ 117 ∷ 101 ∷ 115 ∷ 116 ∷ 39 ∷ 115 ∷ []

-- `\n  point !1  %1 | %A;\n  point !1  - | %A;\n  point !1  %1 | -;\n  point !1  - | -`
abbrev pub row_forms : List ℕ
row_forms =
    10 ∷ 32 ∷ 32 ∷ 112 ∷ 111 ∷ 105 ∷ 110 ∷ 116 ∷ 32 ∷ 33 ∷ 49 ∷ 32 ∷ 32 ∷ 37 ∷ 49 ∷ 32 ∷ 124 ∷ 32 ∷ 37 ∷ 65 ∷ 59 ∷ 10 ∷ 32 ∷ 32 ∷ 112 ∷ 111 ∷ 105
    ∷ 110 ∷ 116 ∷ 32 ∷ 33 ∷ 49 ∷ 32 ∷ 32 ∷ 45 ∷ 32 ∷ 124 ∷ 32 ∷ 37 ∷ 65 ∷ 59 ∷ 10 ∷ 32 ∷ 32 ∷ 112 ∷ 111 ∷ 105 ∷ 110 ∷ 116 ∷ 32 ∷ 33 ∷ 49 ∷ 32 ∷ 32
    ∷ 37 ∷ 49 ∷ 32 ∷ 124 ∷ 32 ∷ 45 ∷ 59 ∷ 10 ∷ 32 ∷ 32 ∷ 112 ∷ 111 ∷ 105 ∷ 110 ∷ 116 ∷ 32 ∷ 33 ∷ 49 ∷ 32 ∷ 32 ∷ 45 ∷ 32 ∷ 124 ∷ 32 ∷ 45 ∷ []
