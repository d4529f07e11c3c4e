-- The contract of `lean_card`, for every part and all lent arrays: the card's own, over bits. Assumes nothing.
use Rattle.std.specs.Prelude.{◌≡◌, Bool, cond, ◌||◌, List, map, ◌++◌, ℕ, ltb, eqb, ℤ, length, drop, Float}
use Rattle.crossing.specs.Answered.{with_answer}
use Rattle.request.specs.Request.{Request}
use Rattle.floats.specs.Float.{bits}
use Rattle.part.specs.declared.Part.{Part}
use Rattle.part.specs.declared.Part.TheVariants.{Stay, Line}
use Rattle.part.specs.Part.{request_of}
use Rattle.part.specs.Contract.{verdict, bits_at, five}

-- the part that a call names, and the request that it is
unfoldable pub part_of : ℕ → Float → Float → Part
part_of line first second = cond (eqb line 0) (Stay first) (Line first second)

abbrev pub driven_by : ℕ → List ℤ → ℕ → Float → Float → Request
driven_by m surface line first second = request_of m surface (part_of line first second)

-- too few places for the record or its answer, or a `line` that is neither 0 nor 1
unfoldable pub not_called : ℕ → List Float → List ℕ → Bool
not_called line numerators words = ltb (length words) 3 || ltb (length numerators) 5 || ltb 1 line

-- the bits of the lent numbers afterwards: the record, and every later place as it was
unfoldable pub recorded : Request → List Float → List ℕ
recorded rq numerators = five (bits_at rq (verdict rq).count) ++ map bits (drop 5 numerators)

-- numerators and words are the arrays as they were lent; where the call is not as it should be nothing is written
pub record Driven (rq : Request) (line : ℕ) (numerators : List Float) (words : List ℕ) (code : ℕ) (numerators' : List Float) (words' : List ℕ) : Type 0 where
  pub code_is : code ≡ cond (not_called line numerators words) 1 0
  pub bits_are : map bits numerators' ≡ cond (not_called line numerators words) (map bits numerators) (recorded rq numerators)
  pub words_is : words' ≡ cond (not_called line numerators words) words (with_answer (verdict rq) words)
