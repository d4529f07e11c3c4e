-- Blanks, words and the whole number of a word: what the bytes of a line spell, and where. Assumes nothing.
use Rattle.std.specs.Prelude.{Some, None, is_some, Result, Ok, Err, Bool, true, false, not, cond, ◌&&◌, ◌||◌, List, [], ◌∷◌, ℕ, zero, suc, ◌+◌, ◌-◌, ◌*◌, leb, ltb, eqb, ℤ, pos, neg_ℤ, length, get_or, take, drop}
use Rattle.text.specs.declared.words.Cursor.{Cursor}
use Rattle.text.specs.declared.words.Whole.{Whole}
use Rattle.text.specs.declared.words.Wrong.{Wrong}
use Rattle.text.specs.declared.words.Wrong.TheVariants.{NotNumber, Outside, TooFew, LeftOver}

-- a space, a tab or a carriage return
unfoldable pub is_blank : ℕ → Bool
is_blank b = eqb b 32 || eqb b 9 || eqb b 13

unfoldable pub is_solid : ℕ → Bool
is_solid b = not (is_blank b)

-- 0 to 9
unfoldable pub is_digit : ℕ → Bool
is_digit b = leb 48 b && leb b 57

-- how many bytes at the front pass the test, and whether all of them do
unfoldable pub run : (ℕ → Bool) → List ℕ → ℕ
run p [] = zero
run p (b ∷ s) = cond (p b) (suc (run p s)) zero

unfoldable pub every : (ℕ → Bool) → List ℕ → Bool
every p [] = true
every p (b ∷ s) = p b && every p s

-- the first place from `at` on whose byte does not pass the test
abbrev pub past : (ℕ → Bool) → List ℕ → ℕ → ℕ
past p line at = at + run p (drop at line)

-- the bytes from a place to before another
abbrev pub between : List ℕ → ℕ → ℕ → List ℕ
between line start end = take (end - start) (drop start line)

-- the next word of a line from `at` on: after the blanks, all before the next blank; too few where there is none
unfoldable pub word_after : List ℕ → ℕ → Cursor
word_after line at =
    let start = past is_blank line at in
    let end = past is_solid line start in
    record { start = start; end = end; wrong = cond (eqb start end) (Some TooFew) None }

-- the next word; from a cursor that is refused nothing more is read
unfoldable pub next : List ℕ → Cursor → Cursor
next line c = cond (is_some c.wrong) c (word_after line c.end)

-- the bytes of a cursor's word, and the cursor with something wrong
abbrev pub word_at : List ℕ → Cursor → List ℕ
word_at line c = between line c.start c.end

abbrev pub because : Cursor → Wrong → Cursor
because c wrong = record { start = c.start; end = c.end; wrong = Some wrong }

-- the number that digits spell, after those that spell n
unfoldable pub spelled : ℕ → List ℕ → ℕ
spelled n [] = n
spelled n (d ∷ ds) = spelled (n * 10 + (d - 48)) ds

-- n, or −n
unfoldable pub signed : Bool → ℕ → ℤ
signed minus n = cond minus (neg_ℤ (pos n)) (pos n)

-- the number of one or more digits, at most `bound`, or what is wrong
unfoldable pub size_within : List ℕ → ℕ → Result ℕ Wrong
size_within ds bound =
    cond (eqb (length ds) 0) (Err NotNumber)
    (cond (every is_digit ds)
    (cond (ltb bound (spelled 0 ds)) (Err Outside) (Ok (spelled 0 ds)))
    (Err NotNumber))

-- a number with its sign
abbrev pub with_sign : Bool → Result ℕ Wrong → Result Whole Wrong
with_sign minus (Ok n) = Ok (record { minus = minus; size = n })
with_sign minus (Err e) = Err e

-- the whole number of a word, `-` or nothing and then one or more digits, from −below to above
unfoldable pub number_of : List ℕ → ℕ → ℕ → Result Whole Wrong
number_of w below above = cond (eqb (get_or w 0 0) 45) (with_sign true (size_within (drop 1 w) below)) (with_sign false (size_within w above))

-- a word that begins with a mark
unfoldable pub begins : List ℕ → List ℕ → Bool
begins [] w = true
begins (m ∷ mark) [] = false
begins (m ∷ mark) (b ∷ w) = eqb b m && begins mark w

-- with `age=`
abbrev pub age_mark : List ℕ
age_mark = 97 ∷ 103 ∷ 101 ∷ 61 ∷ []

unfoldable pub is_age : List ℕ → Bool
is_age w = begins age_mark w

-- the greatest age
abbrev pub greatest_age : ℕ
greatest_age = 65535

-- the number behind the mark; a word without it is left over
unfoldable pub age_of : List ℕ → Result ℕ Wrong
age_of w = cond (is_age w) (size_within (drop 4 w) greatest_age) (Err LeftOver)
