-- A form: text in which marks stand for numbers. Each byte stands for itself but a mark, and the byte behind a mark says which number: a
-- digit one of the first record, a letter (`A` for 1) one of the second. `#4` is byte 4 of the first record in decimal digits, `$2` the
-- two bytes at 2 in four hexadecimal digits, `&1` how many bytes it has, `%1` the signed number at byte m, `!1` the number n; `#D`, `$B`,
-- `&A`, `%A` those of the second record, `!A` the number m. Forms stand one behind the other, `;` between them. Assumes nothing.
use Rattle.std.specs.Prelude.{◌≡◌, refl, Bool, false, cond, List, [], ◌∷◌, ◌++◌, ℕ, ◌*◌, ◌-◌, ◌%◌, eqb, ltb, length, get_or, take}
use Rattle.wire.specs.Words.{word_at, signed}
use Rattle.spell.specs.Decimal.{digits_of, digits, decimal}
use Rattle.page.specs.Page.{counted, numbered, hex_digit, hexed}

-- `!`, `#`, `$`, `%`, `&`
unfoldable pub is_mark : ℕ → Bool
is_mark c = cond (ltb c 33) false (ltb c 39)

-- The state of a reading: 256 for each form to be passed over, then 0 in a text, a mark whose number the next byte says, or 59 (`;`) behind
-- the form. How many bytes are put as they are: one in a text where it is no mark and no end.
unfoldable pub width : ℕ → ℕ → ℕ
width s c = cond (eqb s 0) (cond (is_mark c) 0 (cond (eqb c 59) 0 1)) 0

-- the state behind byte c
unfoldable pub after : ℕ → ℕ → ℕ
after s c =
    cond (ltb s 256) (cond (eqb s 59) 59 (cond (eqb s 0) (cond (eqb (width s c) 0) c 0) 0)) (cond (eqb c 59) (s - 256) s)

-- the number that `#`, `&` and `!` stand for
unfoldable pub value_of : ℕ → ℕ → List ℕ → ℕ → ℕ
value_of mark place r x = cond (eqb mark 35) (get_or r place 0) (cond (eqb mark 38) (length r) x)

-- a word and the number that a mark and the byte behind it stand for
unfoldable pub marked : List ℕ → ℕ → ℕ → List ℕ → ℕ → ℕ → List ℕ
marked word mark place r x m =
    cond (eqb mark 36) (hexed word (word_at r place))
    (cond (eqb mark 37) (numbered word (signed (word_at r m))) (counted word (value_of mark place r x)))

-- what byte c stands for
unfoldable pub piece : ℕ → ℕ → List ℕ → List ℕ → ℕ → ℕ → List ℕ
piece s c a b n m =
    cond (is_mark s) (cond (ltb c 64) (marked [] s (c % 16) a n m) (marked [] s (c % 16) b m m)) (take (width s c) (c ∷ []))

unfoldable pub told : ℕ → List ℕ → List ℕ → List ℕ → ℕ → ℕ → List ℕ
told s [] a b n m = []
told s (c ∷ l) a b n m = piece s c a b n m ++ told (after s c) l a b n m

-- the text of form k
unfoldable pub formed : ℕ → List ℕ → List ℕ → List ℕ → ℕ → ℕ → List ℕ
formed k forms a b n m = told (256 * k) forms a b n m

-- `#1,$B!A` with the records 7, 203 and 1, 2, 0x34, 0x12, and the numbers 5 and 60: `203,123460`
pub first-form : formed 0 (35 ∷ 49 ∷ 44 ∷ 36 ∷ 66 ∷ 33 ∷ 65 ∷ []) (7 ∷ 203 ∷ []) (1 ∷ 2 ∷ 52 ∷ 18 ∷ []) 5 60
    ≡ 50 ∷ 48 ∷ 51 ∷ 44 ∷ 49 ∷ 50 ∷ 51 ∷ 52 ∷ 54 ∷ 48 ∷ []
unfolding formed told piece marked value_of after width is_mark word_at counted hexed hex_digit digits digits_of
first-form = refl

-- form 1 of `no;%1 &A!1#` with the records 9, 254, 255 and 1, 2, 3, 4, 5, and the numbers 17 and 1: `-2 517`; a mark at the end stands for nothing
pub second-form : formed 1 (110 ∷ 111 ∷ 59 ∷ 37 ∷ 49 ∷ 32 ∷ 38 ∷ 65 ∷ 33 ∷ 49 ∷ 35 ∷ []) (9 ∷ 254 ∷ 255 ∷ []) (1 ∷ 2 ∷ 3 ∷ 4 ∷ 5 ∷ []) 17 1
    ≡ 45 ∷ 50 ∷ 32 ∷ 53 ∷ 49 ∷ 55 ∷ []
unfolding formed told piece marked value_of after width is_mark word_at signed counted numbered decimal digits digits_of
second-form = refl
