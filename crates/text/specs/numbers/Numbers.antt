-- The numbers of a line, one after the other: where a word is wrong the cursor stays there, and what is read of it and after
-- it is 0. And what the readers promise of them. Assumes nothing.
use Rattle.std.specs.Prelude.{is_some, Result, Ok, Err, ◌≡◌, false, cond, List, [], ◌∷◌, ◌++◌, ℕ, zero, suc, ◌+◌, ◌≤◌, ℤ, length}
use Rattle.std.proofs.lemmas.List.Edits.{sets}
use Rattle.text.specs.words.Words.{next, word_at, because, signed, number_of}
use Rattle.text.specs.words.Read.{Inside}
use Rattle.text.specs.declared.words.Cursor.{Cursor}
use Rattle.text.specs.declared.words.After.{After}
use Rattle.text.specs.declared.words.Whole.{Whole}
use Rattle.text.specs.declared.words.Wrong.{Wrong}
use Rattle.request.specs.declared.Head.{Head}

-- the greatest count or room, and the greatest degree
abbrev pub most : ℕ
most = 64

abbrev pub largest : ℕ
largest = 4294967295

-- 0, where a word is wrong
abbrev pub nothing : Whole
nothing = record { minus = false; size = 0 }

-- a number was found at a word, or what is wrong with it
unfoldable pub taken : Cursor → Result Whole Wrong → After Whole
taken word (Ok n) = record { cursor = word; value = n }
taken word (Err e) = record { cursor = because word e; value = nothing }

-- the next word as a number from −below to above
unfoldable pub number : List ℕ → Cursor → ℕ → ℕ → After Whole
number line c below above =
    let word = next line c in
    cond (is_some word.wrong) (record { cursor = word; value = nothing }) (taken word (number_of (word_at line word) below above))

-- the next word as a number from 0 to above
abbrev pub natural : List ℕ → Cursor → ℕ → After Whole
natural line c above = number line c 0 above

-- form, first, second and N
unfoldable pub headed : List ℕ → Cursor → After Head
headed line c =
    let form = natural line c largest in
    let first = natural line form.cursor largest in
    let second = natural line first.cursor largest in
    let N = natural line second.cursor largest in
    record {
      cursor = N.cursor;
      value = record {
        form = form.value.size;
        first = first.value.size;
        second = second.value.size;
        N = N.value.size;
      };
    }

-- a value of 32 bits; the cursor after so many of them, and the values
unfoldable pub value : List ℕ → Cursor → After Whole
value line c = number line c 2147483648 2147483647

unfoldable pub after_values : List ℕ → Cursor → ℕ → Cursor
after_values line c zero = c
after_values line c (suc k) = (value line (after_values line c k)).cursor

unfoldable pub values : List ℕ → Cursor → ℕ → List ℤ
values line c zero = []
values line c (suc k) = let v = value line (after_values line c k) in values line c k ++ (signed v.value.minus v.value.size ∷ [])

-- a count and as many values
pub record Numbers : Type 0 where
  pub cursor : Cursor
  pub numbers : List ℤ

unfoldable pub listed : List ℕ → Cursor → Numbers
listed line c =
    let count = natural line c most in
    record { cursor = after_values line count.cursor count.value.size; numbers = values line count.cursor count.value.size }

-- ---- what the readers promise
pub record ReadsNumber (line : List ℕ) (c : Cursor) (below above : ℕ) (r : After Whole) : Type 0 where
  pub is : r ≡ number line c below above
  pub inside : Inside line r.cursor
  pub small : r.value.size ≤ cond r.value.minus below above
  pub size : r.value.size ≤ below + above

pub record ReadsValues (line : List ℕ) (c : Cursor) (count : ℕ) (before now : List ℤ) (r : Cursor) : Type 0 where
  pub is : r ≡ after_values line c count
  pub inside : Inside line r
  pub holds : now ≡ sets before 0 (values line c count)

pub record ReadsList (line : List ℕ) (c : Cursor) (before now : List ℤ) (r : After ℕ) : Type 0 where
  pub is : r.cursor ≡ (listed line c).cursor
  pub inside : Inside line r.cursor
  pub counted : r.value ≡ length (listed line c).numbers
  pub small : r.value ≤ most
  pub holds : now ≡ sets before 0 (listed line c).numbers

pub record ReadsHead (line : List ℕ) (c : Cursor) (r : After Head) : Type 0 where
  pub is : r ≡ headed line c
  pub inside : Inside line r.cursor
