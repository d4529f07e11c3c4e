-- The refusals' names, as bytes; and an answer line with its refusal by name. Assumes nothing.
use Rattle.std.specs.Prelude.{cond, List, [], ◌∷◌, ◌++◌, ℕ, ◌+◌, ◌*◌, ◌-◌, eqb, length, get_or, drop}

-- by their numbers: KIND, DEGREE, SURFACE, PATH, ROOM, VALUE, PARAMETER, BALANCE, FRAME, STALE, MOMENT; 0 is no refusal
abbrev pub name_table : List (List ℕ)
name_table =
    []
    ∷ (75 ∷ 73 ∷ 78 ∷ 68 ∷ [])
    ∷ (68 ∷ 69 ∷ 71 ∷ 82 ∷ 69 ∷ 69 ∷ [])
    ∷ (83 ∷ 85 ∷ 82 ∷ 70 ∷ 65 ∷ 67 ∷ 69 ∷ [])
    ∷ (80 ∷ 65 ∷ 84 ∷ 72 ∷ [])
    ∷ (82 ∷ 79 ∷ 79 ∷ 77 ∷ [])
    ∷ (86 ∷ 65 ∷ 76 ∷ 85 ∷ 69 ∷ [])
    ∷ (80 ∷ 65 ∷ 82 ∷ 65 ∷ 77 ∷ 69 ∷ 84 ∷ 69 ∷ 82 ∷ [])
    ∷ (66 ∷ 65 ∷ 76 ∷ 65 ∷ 78 ∷ 67 ∷ 69 ∷ [])
    ∷ (70 ∷ 82 ∷ 65 ∷ 77 ∷ 69 ∷ [])
    ∷ (83 ∷ 84 ∷ 65 ∷ 76 ∷ 69 ∷ [])
    ∷ (77 ∷ 79 ∷ 77 ∷ 69 ∷ 78 ∷ 84 ∷ [])
    ∷ []

unfoldable pub name_of : ℕ → List ℕ
name_of n = get_or name_table n []

-- the number that an answer line begins with, of one digit or two, and how many bytes it has; 0 where no blank is behind it
unfoldable pub first_width : List ℕ → ℕ
first_width line = cond (eqb (get_or line 1 0) 32) 1 (cond (eqb (get_or line 2 0) 32) 2 0)

unfoldable pub first_number : List ℕ → ℕ
first_number line =
    cond (eqb (first_width line) 1) (get_or line 0 0 - 48)
    (cond (eqb (first_width line) 2) (10 * (get_or line 0 0 - 48) + (get_or line 1 0 - 48)) 0)

-- an answer line with its refusal's name in place of the number
unfoldable pub by_name : List ℕ → List ℕ
by_name line =
    cond (eqb (length (name_of (first_number line))) 0) line (name_of (first_number line) ++ drop (first_width line) line)
