-- Laws of forms. Assumes nothing.
use mathlib.Core.Path.{◌≡◌, refl, sym, subst, ◌∙◌}
use mathlib.Core.Bool.{true, false}
use mathlib.Core.List.{List, [], ◌∷◌, ◌++◌, append_assoc}
use Rattle.std.specs.Prelude.{Option, None, Some}
use Prim.Native.Nat.{ℕ, ◌+◌, ◌-◌, ◌*◌, ◌%◌, ◌≤◌, ◌<◌}
use native.Mathlib.Numerals.{add-one}
use native.Mathlib.Omega.{arith}
use lib.ListN.{length, get_or, drop, drop_of_length-le}
use lib.Seq.{drop-cons}
use Rattle.std.proofs.lemmas.Bool.Decides.{nat_tests}
use borrow.Author.Tests.{lt-ltb, le-ltb, eq-eqb, ne_eqb}
use Rattle.page.specs.declared.Paper.{Paper}
use Rattle.page.specs.Paper.{Adds}
use Rattle.page.proofs.Putting.{Onward, onward-more, onward-all}
use Rattle.page.specs.Form.{is_mark, width, after, marked, piece, told}

-- a mark that waits for its number, as the number of the reading's state; and a state of forms that are passed over before it
abbrev pub waiting : Option ℕ → ℕ
waiting None = 0
waiting (Some c) = c

abbrev pub state_of : ℕ → Option ℕ → ℕ
state_of before mark = 256 * before + waiting mark

mark-small : (c : ℕ) → is_mark c ≡ true → (33 ≤ c) × (c < 39)
unfolding is_mark
mark-small c e = grind (arith, nat_tests)

module _ (s c : ℕ) (a b : List ℕ) (n m : ℕ) where
  -- of a form that is passed over nothing is put
  module _ (l : 256 ≤ s) where
    pub passed : piece s c a b n m ≡ []
    unfolding piece is_mark width
    passed = let some : s ≡ 0 → ⊥ = λ e. omega arith in rw (le-ltb s 33 (omega arith), le-ltb s 39 (omega arith), ne_eqb s 0 some)

    pub after-form : c ≡ 59 → after s c ≡ s - 256
    unfolding after
    after-form e = rw (le-ltb s 256 l, eq-eqb c 59 e)

    pub after-passed : (c ≡ 59 → ⊥) → after s c ≡ s
    unfolding after
    after-passed e = rw (le-ltb s 256 l, ne_eqb c 59 e)

  -- behind a mark's number the text goes on
  pub after-mark : is_mark s ≡ true → after s c ≡ 0
  unfolding after
  after-mark e =
      let l = mark-small s e in
      let going : s ≡ 59 → ⊥ = λ z. omega arith in
      let some : s ≡ 0 → ⊥ = λ z. omega arith in
      rw (lt-ltb s 256 (omega arith), ne_eqb s 59 going, ne_eqb s 0 some)

no_mark : is_mark 0 ≡ false
unfolding is_mark
no_mark = refl

-- what a mark and its number stand for
module _ (s : ℕ) (is : is_mark s ≡ true) (c : ℕ) (a b : List ℕ) (n m : ℕ) where
  pub piece-first : c < 64 → marked [] s (c % 16) a n m ≡ piece s c a b n m
  unfolding piece
  piece-first l = rw (is, lt-ltb c 64 l)

  pub piece-second : 64 ≤ c → marked [] s (c % 16) b m m ≡ piece s c a b n m
  unfolding piece
  piece-second l = rw (is, le-ltb c 64 l)

module _ (c : ℕ) (a b : List ℕ) (n m : ℕ) where
  pub mark-none : is_mark c ≡ true → piece 0 c a b n m ≡ []
  unfolding piece width
  mark-none e = rw (no_mark, e)

  pub mark-waits : is_mark c ≡ true → after 0 c ≡ c
  unfolding after width
  mark-waits e = rw e

  module _ (text : is_mark c ≡ false) where
    pub end-none : c ≡ 59 → piece 0 c a b n m ≡ []
    unfolding piece width
    end-none e = rw (no_mark, text, eq-eqb c 59 e)

    pub after-end : c ≡ 59 → after 0 c ≡ 59
    unfolding after width
    after-end e = rw (text, eq-eqb c 59 e) e

    module _ (other : c ≡ 59 → ⊥) where
      pub text_one : piece 0 c a b n m ≡ c ∷ []
      unfolding piece width
      text_one = rw (no_mark, text, ne_eqb c 59 other)

      pub after_text : after 0 c ≡ 0
      unfolding after width
      after_text = rw (text, ne_eqb c 59 other)

-- behind the form nothing is put
pub ended : (l a b : List ℕ) (n m : ℕ) → told 59 l a b n m ≡ []
unfolding told piece after is_mark width
ended [] a b n m = refl
ended (c ∷ l) a b n m = ended l a b n m

-- what is left from byte i on
pub piece-next : (s : ℕ) (forms : List ℕ) (i : ℕ) (a b : List ℕ) (n m c t : ℕ) → i < length forms → c ≡ get_or forms i 0 → t ≡ after s c
    → told s (drop i forms) a b n m ≡ piece s (get_or forms i 0) a b n m ++ told t (drop (i + 1) forms) a b n m
unfolding told
piece-next s forms i a b n m c t l e f = rw (drop-cons forms i 0 l, f, e, add-one i)

pub pieces-over : (s : ℕ) (forms : List ℕ) (i : ℕ) (a b : List ℕ) (n m : ℕ) → length forms ≤ i → told s (drop i forms) a b n m ≡ []
unfolding told
pieces-over s forms i a b n m l = rw (drop_of_length-le forms {i = i} l)

-- byte i of the forms is read: nothing is put for it, or what it stands for
module _ (all : List ℕ) (old : Paper) (forms : List ℕ) (i : ℕ) (a b : List ℕ) (n m : ℕ) (l : i < length forms) (now : Paper) where
  module _ (s t : ℕ) (next : after s (get_or forms i 0) ≡ t) (so_far : Onward all old now (told s (drop i forms) a b n m)) where
    read-silent : piece s (get_or forms i 0) a b n m ≡ [] → Onward all old now (told t (drop (i + 1) forms) a b n m)
    read-silent e =
        subst (λ left. Onward all old now left) (piece-next s forms i a b n m _ t l refl (sym next) ∙ rw e refl) so_far

    read_put : (text : List ℕ) (new : Paper) → Adds now text new → piece s (get_or forms i 0) a b n m ≡ text
        → Onward all old new (told t (drop (i + 1) forms) a b n m)
    read_put text new w e =
        onward-more all old now _ so_far text new _ w (piece-next s forms i a b n m _ t l refl (sym next) ∙ rw e refl)

  module _ (before : ℕ) (mark : Option ℕ) (so_far : Onward all old now (told (state_of before mark) (drop i forms) a b n m)) where
    module _ (over : 0 < before) where
      big : 256 ≤ state_of before mark
      big = omega arith

      pub form-over : get_or forms i 0 ≡ 59 → Onward all old now (told (state_of (before - 1) mark) (drop (i + 1) forms) a b n m)
      form-over e = read-silent _ _ (after-form _ _ a b n m big e ∙ omega arith) so_far (passed _ _ a b n m big)

      pub form-on : (get_or forms i 0 ≡ 59 → ⊥) → Onward all old now (told (state_of before mark) (drop (i + 1) forms) a b n m)
      form-on e = read-silent _ _ (after-passed _ _ a b n m big e) so_far (passed _ _ a b n m big)

    module _ (here : before ≤ 0) where
      pub number-put : (sign : ℕ) → mark ≡ Some sign → is_mark sign ≡ true → (new : Paper)
          → Adds now (piece sign (get_or forms i 0) a b n m) new
          → Onward all old new (told (state_of before None) (drop (i + 1) forms) a b n m)
      number-put sign e is new w =
          let state : state_of before mark ≡ sign = rw e (omega arith) in
          let nothing : 0 ≡ state_of before None = omega arith in
          read_put _ _ (rw state (after-mark sign (get_or forms i 0) a b n m is ∙ nothing)) so_far _ new w (rw state refl)

      module _ (none : mark ≡ None) where
        state : state_of before mark ≡ 0
        state = rw none (omega arith)

        pub mark-read : is_mark (get_or forms i 0) ≡ true
            → Onward all old now (told (state_of before (Some (get_or forms i 0))) (drop (i + 1) forms) a b n m)
        mark-read is =
            let waits : get_or forms i 0 ≡ state_of before (Some (get_or forms i 0)) = omega arith in
            read-silent _ _ (rw state (mark-waits _ a b n m is ∙ waits)) so_far (rw state (mark-none _ a b n m is))

        module _ (text : is_mark (get_or forms i 0) ≡ false) where
          pub text_put : (get_or forms i 0 ≡ 59 → ⊥) → (new : Paper) → Adds now (get_or forms i 0 ∷ []) new
              → Onward all old new (told (state_of before mark) (drop (i + 1) forms) a b n m)
          text_put e new w =
              read_put _ _ (rw state (after_text _ a b n m text e)) so_far _ new w (rw state (text_one _ a b n m text e))

          pub form-end : get_or forms i 0 ≡ 59 → Adds old all now
          form-end e =
              onward-all all old now _
              (read-silent _ 59 (rw state (after-end _ a b n m text e)) so_far (rw state (end-none _ a b n m text e)))
              (ended (drop (i + 1) forms) a b n m)

-- the parts of a form's text, as they stand in it and as a text of words and numbers has them
pub two-parts : (a b c d e : List ℕ) → a ++ (b ++ (c ++ (d ++ e))) ≡ a ++ b ++ (c ++ d) ++ e
two-parts a b c d e = simp append_assoc

pub three-parts : (a b c d e f g : List ℕ) → a ++ (b ++ (c ++ (d ++ (e ++ (f ++ g))))) ≡ a ++ b ++ (c ++ d) ++ (e ++ f) ++ g
three-parts a b c d e f g = simp append_assoc

pub four-parts : (a b c d e f g h i : List ℕ)
    → a ++ (b ++ (c ++ (d ++ (e ++ (f ++ (g ++ (h ++ i))))))) ≡ a ++ b ++ (c ++ d) ++ (e ++ f) ++ (g ++ h) ++ i
four-parts a b c d e f g h i = simp append_assoc
