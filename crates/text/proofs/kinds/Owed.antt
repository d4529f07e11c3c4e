-- A line that is too long is of no named kind; and how the reader of a kind hands back what it owes. Assumes nothing.
use mathlib.Core.Path.{◌≡◌, refl, sym, ap, ◌∙◌}
use mathlib.Core.Bool.{Bool, true, false}
use mathlib.Core.List.{List}
use Prim.Native.Nat.{ℕ, ◌≤◌, ◌<◌}
use Rattle.std.proofs.Common.{IsSome, IsNone, Ok, Err}
use lib.Dec.{ltb}
use lib.ListN.{length}
use borrow.Author.Tests.{lt-ltb, ltb-true, ltb-false}
use Rattle.text.specs.words.Words.{next}
use Rattle.text.specs.words.Read.{Inside}
use Rattle.text.specs.declared.words.Cursor.{Cursor}
use Rattle.text.proofs.words.Cases.{clash}
use Rattle.spell.specs.Decimal.{Written}
use Rattle.text.specs.kinds.Kinds.{longest_line, overlong, begun, is_kind, opened, Spoken}
use Rattle.text.specs.kinds.Read.{answer_most, Replies}
use Rattle.text.specs.tell.Tell.{Quotable}

module _ (line : List ℕ) where
  pub begun-overlong : longest_line < length line → begun line ≡ overlong
  unfolding begun
  begun-overlong l = rw (lt-ltb longest_line (length line) l)

  no_name : (name : List ℕ) → is_kind line (next line overlong) name ≡ false
  unfolding next is_kind
  no_name name = refl

  pub overlong-unnamed : longest_line < length line → (name : List ℕ) → is_kind line (opened line) name ≡ false
  unfolding opened
  overlong-unnamed l name = ap (λ c. is_kind line (next line c) name) (begun-overlong l) ∙ no_name name

  pub named-short : (name : List ℕ) → is_kind line (opened line) name ≡ true → length line ≤ longest_line
  named-short name t = go (ltb longest_line (length line)) refl
    where
      go : (b : Bool) → ltb longest_line (length line) ≡ b → length line ≤ longest_line
      go true e = absurd (clash (sym (overlong-unnamed (ltb-true _ _ e) name) ∙ t))
      go false e = ltb-false _ _ e

-- what is owed: where a line that cannot be read is wrong, and else its answer line
module _ (s : Spoken) (line out : List ℕ) (c : Cursor) (is : c ≡ s.cursor) (inside : Inside line c) (short : c.end ≤ longest_line) where
  pub replies-refused : IsSome c.wrong → Replies s line out out (Err c)
  replies-refused w = record {
    inside = rw (← is) inside;
    short = rw (← is) short;
    said = (rw (← is) w, is, refl);
  }

  pub replies-said : IsNone c.wrong → (out' : List ℕ) (end : ℕ) → Written answer_most out 0 s.answer out' end
      → Replies s line out out' (Ok end)
  replies-said w out' end a = record {
    inside = rw (← is) inside;
    short = rw (← is) short;
    said = (rw (← is) w, a);
  }

-- the word at which a line is wrong can be quoted
pub quotable : (s : Spoken) (line out out' : List ℕ) (c : Cursor) → Replies s line out out' (Err c) → Quotable line c
quotable s line out out' c r =
    rw r.said.1 (record { order = r.inside.order; inside = r.inside.end; short = r.short })
