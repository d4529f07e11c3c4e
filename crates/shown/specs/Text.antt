-- The words of the page, as bytes. Assumes nothing.
use Rattle.std.specs.Prelude.{List, [], ◌∷◌, ℕ}

-- `\n`
abbrev pub newline : List ℕ
newline = 10 ∷ []

-- ` `
abbrev pub blank : List ℕ
blank = 32 ∷ []

-- ` | `
abbrev pub bar : List ℕ
bar = 32 ∷ 124 ∷ 32 ∷ []

-- `-`
abbrev pub dash : List ℕ
dash = 45 ∷ []

-- `request   `
abbrev pub request_is : List ℕ
request_is = 114 ∷ 101 ∷ 113 ∷ 117 ∷ 101 ∷ 115 ∷ 116 ∷ 32 ∷ 32 ∷ 32 ∷ []

-- ` bytes, kind 0x`
abbrev pub bytes_kind : List ℕ
bytes_kind = 32 ∷ 98 ∷ 121 ∷ 116 ∷ 101 ∷ 115 ∷ 44 ∷ 32 ∷ 107 ∷ 105 ∷ 110 ∷ 100 ∷ 32 ∷ 48 ∷ 120 ∷ []

-- `: form `
abbrev pub form_is : List ℕ
form_is = 58 ∷ 32 ∷ 102 ∷ 111 ∷ 114 ∷ 109 ∷ 32 ∷ []

-- `, degrees `
abbrev pub degrees_are : List ℕ
degrees_are = 44 ∷ 32 ∷ 100 ∷ 101 ∷ 103 ∷ 114 ∷ 101 ∷ 101 ∷ 115 ∷ 32 ∷ []

-- `, N `
abbrev pub NIs : List ℕ
NIs = 44 ∷ 32 ∷ 78 ∷ 32 ∷ []

-- `, age `
abbrev pub age_is : List ℕ
age_is = 44 ∷ 32 ∷ 97 ∷ 103 ∷ 101 ∷ 32 ∷ []

-- ` ms`
abbrev pub milliseconds : List ℕ
milliseconds = 32 ∷ 109 ∷ 115 ∷ []

-- `, no age`
abbrev pub no_age : List ℕ
no_age = 44 ∷ 32 ∷ 110 ∷ 111 ∷ 32 ∷ 97 ∷ 103 ∷ 101 ∷ []

-- `: too short for an age`
abbrev pub too_short : List ℕ
too_short = 58 ∷ 32 ∷ 116 ∷ 111 ∷ 111 ∷ 32 ∷ 115 ∷ 104 ∷ 111 ∷ 114 ∷ 116 ∷ 32 ∷ 102 ∷ 111 ∷ 114 ∷ 32 ∷ 97 ∷ 110 ∷ 32 ∷ 97 ∷ 103 ∷ 101 ∷ []

-- `: not a request's`
abbrev pub no_request : List ℕ
no_request = 58 ∷ 32 ∷ 110 ∷ 111 ∷ 116 ∷ 32 ∷ 97 ∷ 32 ∷ 114 ∷ 101 ∷ 113 ∷ 117 ∷ 101 ∷ 115 ∷ 116 ∷ 39 ∷ 115 ∷ []

-- `\n  there is no such form`
abbrev pub no_form : List ℕ
no_form = 10 ∷ 32 ∷ 32 ∷ 116 ∷ 104 ∷ 101 ∷ 114 ∷ 101 ∷ 32 ∷ 105 ∷ 115 ∷ 32 ∷ 110 ∷ 111 ∷ 32 ∷ 115 ∷ 117 ∷ 99 ∷ 104 ∷ 32 ∷ 102 ∷ 111 ∷ 114 ∷ 109 ∷ []

-- `\n  a degree or N is beyond its bounds`
abbrev pub no_degree : List ℕ
no_degree =
    10 ∷ 32 ∷ 32 ∷ 97 ∷ 32 ∷ 100 ∷ 101 ∷ 103 ∷ 114 ∷ 101 ∷ 101 ∷ 32 ∷ 111 ∷ 114 ∷ 32 ∷ 78 ∷ 32 ∷ 105 ∷ 115 ∷ 32 ∷ 98 ∷ 101 ∷ 121 ∷ 111 ∷ 110
    ∷ 100 ∷ 32 ∷ 105 ∷ 116 ∷ 115 ∷ 32 ∷ 98 ∷ 111 ∷ 117 ∷ 110 ∷ 100 ∷ 115 ∷ []

-- `\n  the body is not as long as the degrees say`
abbrev pub other_body : List ℕ
other_body =
    10 ∷ 32 ∷ 32 ∷ 116 ∷ 104 ∷ 101 ∷ 32 ∷ 98 ∷ 111 ∷ 100 ∷ 121 ∷ 32 ∷ 105 ∷ 115 ∷ 32 ∷ 110 ∷ 111 ∷ 116 ∷ 32 ∷ 97 ∷ 115 ∷ 32 ∷ 108 ∷ 111 ∷ 110
    ∷ 103 ∷ 32 ∷ 97 ∷ 115 ∷ 32 ∷ 116 ∷ 104 ∷ 101 ∷ 32 ∷ 100 ∷ 101 ∷ 103 ∷ 114 ∷ 101 ∷ 101 ∷ 115 ∷ 32 ∷ 115 ∷ 97 ∷ 121 ∷ []

-- `\n  control values in 0.01 mm:`
abbrev pub values_are : List ℕ
values_are =
    10 ∷ 32 ∷ 32 ∷ 99 ∷ 111 ∷ 110 ∷ 116 ∷ 114 ∷ 111 ∷ 108 ∷ 32 ∷ 118 ∷ 97 ∷ 108 ∷ 117 ∷ 101 ∷ 115 ∷ 32 ∷ 105 ∷ 110 ∷ 32 ∷ 48 ∷ 46 ∷ 48 ∷ 49
    ∷ 32 ∷ 109 ∷ 109 ∷ 58 ∷ []

-- `\n  path in 1/1024:`
abbrev pub path_is : List ℕ
path_is = 10 ∷ 32 ∷ 32 ∷ 112 ∷ 97 ∷ 116 ∷ 104 ∷ 32 ∷ 105 ∷ 110 ∷ 32 ∷ 49 ∷ 47 ∷ 49 ∷ 48 ∷ 50 ∷ 52 ∷ 58 ∷ []

-- `\n  bytes:`
abbrev pub bytes_are : List ℕ
bytes_are = 10 ∷ 32 ∷ 32 ∷ 98 ∷ 121 ∷ 116 ∷ 101 ∷ 115 ∷ 58 ∷ []

-- `reply      recorded | today (points in 0.01 mm)`
abbrev pub reply_is : List ℕ
reply_is =
    114 ∷ 101 ∷ 112 ∷ 108 ∷ 121 ∷ 32 ∷ 32 ∷ 32 ∷ 32 ∷ 32 ∷ 32 ∷ 114 ∷ 101 ∷ 99 ∷ 111 ∷ 114 ∷ 100 ∷ 101 ∷ 100 ∷ 32 ∷ 124 ∷ 32 ∷ 116 ∷ 111
    ∷ 100 ∷ 97 ∷ 121 ∷ 32 ∷ 40 ∷ 112 ∷ 111 ∷ 105 ∷ 110 ∷ 116 ∷ 115 ∷ 32 ∷ 105 ∷ 110 ∷ 32 ∷ 48 ∷ 46 ∷ 48 ∷ 49 ∷ 32 ∷ 109 ∷ 109 ∷ 41 ∷ []

-- `\n  bytes    `
abbrev pub sizes : List ℕ
sizes = 10 ∷ 32 ∷ 32 ∷ 98 ∷ 121 ∷ 116 ∷ 101 ∷ 115 ∷ 32 ∷ 32 ∷ 32 ∷ 32 ∷ []

-- `\n  kind     0x`
abbrev pub kinds : List ℕ
kinds = 10 ∷ 32 ∷ 32 ∷ 107 ∷ 105 ∷ 110 ∷ 100 ∷ 32 ∷ 32 ∷ 32 ∷ 32 ∷ 32 ∷ 48 ∷ 120 ∷ []

-- ` | 0x`
abbrev pub bar_kind : List ℕ
bar_kind = 32 ∷ 124 ∷ 32 ∷ 48 ∷ 120 ∷ []

-- `\n  answer   `
abbrev pub answers_are : List ℕ
answers_are = 10 ∷ 32 ∷ 32 ∷ 97 ∷ 110 ∷ 115 ∷ 119 ∷ 101 ∷ 114 ∷ 32 ∷ 32 ∷ 32 ∷ []

-- `\n  place    `
abbrev pub places_are : List ℕ
places_are = 10 ∷ 32 ∷ 32 ∷ 112 ∷ 108 ∷ 97 ∷ 99 ∷ 101 ∷ 32 ∷ 32 ∷ 32 ∷ 32 ∷ []

-- `\n  count    `
abbrev pub counts_are : List ℕ
counts_are = 10 ∷ 32 ∷ 32 ∷ 99 ∷ 111 ∷ 117 ∷ 110 ∷ 116 ∷ 32 ∷ 32 ∷ 32 ∷ 32 ∷ []

-- `\n  point `
abbrev pub point_is : List ℕ
point_is = 10 ∷ 32 ∷ 32 ∷ 112 ∷ 111 ∷ 105 ∷ 110 ∷ 116 ∷ 32 ∷ []

-- `  `
abbrev pub gap : List ℕ
gap = 32 ∷ 32 ∷ []

-- `accepted`
abbrev pub accepted : List ℕ
accepted = 97 ∷ 99 ∷ 99 ∷ 101 ∷ 112 ∷ 116 ∷ 101 ∷ 100 ∷ []

-- `refused `
abbrev pub refused_by : List ℕ
refused_by = 114 ∷ 101 ∷ 102 ∷ 117 ∷ 115 ∷ 101 ∷ 100 ∷ 32 ∷ []

-- `not a reply`
abbrev pub no_reply : List ℕ
no_reply = 110 ∷ 111 ∷ 116 ∷ 32 ∷ 97 ∷ 32 ∷ 114 ∷ 101 ∷ 112 ∷ 108 ∷ 121 ∷ []

-- `the same, byte for byte\n`
abbrev pub the_same : List ℕ
the_same = 116 ∷ 104 ∷ 101 ∷ 32 ∷ 115 ∷ 97 ∷ 109 ∷ 101 ∷ 44 ∷ 32 ∷ 98 ∷ 121 ∷ 116 ∷ 101 ∷ 32 ∷ 102 ∷ 111 ∷ 114 ∷ 32 ∷ 98 ∷ 121 ∷ 116 ∷ 101 ∷ 10 ∷ []

-- `recorded `
abbrev pub recorded_is : List ℕ
recorded_is = 114 ∷ 101 ∷ 99 ∷ 111 ∷ 114 ∷ 100 ∷ 101 ∷ 100 ∷ 32 ∷ []

-- `today    `
abbrev pub today_is : List ℕ
today_is = 116 ∷ 111 ∷ 100 ∷ 97 ∷ 121 ∷ 32 ∷ 32 ∷ 32 ∷ 32 ∷ []

-- `they differ at byte `
abbrev pub differ_at : List ℕ
differ_at = 116 ∷ 104 ∷ 101 ∷ 121 ∷ 32 ∷ 100 ∷ 105 ∷ 102 ∷ 102 ∷ 101 ∷ 114 ∷ 32 ∷ 97 ∷ 116 ∷ 32 ∷ 98 ∷ 121 ∷ 116 ∷ 101 ∷ 32 ∷ []

-- `, counted from 0\n`
abbrev pub from_nought : List ℕ
from_nought = 44 ∷ 32 ∷ 99 ∷ 111 ∷ 117 ∷ 110 ∷ 116 ∷ 101 ∷ 100 ∷ 32 ∷ 102 ∷ 114 ∷ 111 ∷ 109 ∷ 32 ∷ 48 ∷ 10 ∷ []

-- `]`
abbrev pub close_mark : List ℕ
close_mark = 93 ∷ []

-- `[]`
abbrev pub empty_mark : List ℕ
empty_mark = 91 ∷ 93 ∷ []
