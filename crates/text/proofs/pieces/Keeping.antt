-- Laws of keeping a line: each byte, a part cut at its next newline, and that a line is kept whole or is too long, however
-- long it is. Assumes nothing.
use mathlib.Core.Path.{◌≡◌, refl, sym, ap, ◌∙◌, subst}
use mathlib.Core.Logic.{◌⊎◌, inl, inr, ⊎_elim}
use mathlib.Core.Bool.{Bool, true, false, not, cond, ◌&&◌, and-true, and-false, and_assoc}
use mathlib.Core.List.{List, [], ◌∷◌, ◌++◌, append_assoc, append-nil}
use Prim.Native.Nat.{ℕ, zero, suc, ◌+◌, ◌-◌, ◌≤◌, ◌<◌, min}
use native.Mathlib.Nat.{zero-add}
use native.Mathlib.Numerals.{add-one}
use native.Mathlib.Omega.{arith}
use lib.Dec.{ltb, eqb}
use lib.ListN.{length, get_or, take, drop, set, length-append, length-set, get_or-append, drop_of_length-le, take-append-drop}
use lib.Seq.{sets, length-sets, drop-cons, drop-drop, take_all, take_at, drop_at, length-take-le, get_or-set_other}
use borrow.Author.Tests.{eq-eqb, ne_eqb, lt-ltb, le-ltb, ltb-true, ltb-false}
use Rattle.spell.specs.Decimal.{Front}
use Rattle.spell.proofs.Writing.{sets_more, front}
use Rattle.text.specs.words.Words.{is_blank, every}
use Rattle.text.specs.pieces.Kept.{is_passed, kept_byte, is_text, Cut, cut_at, Cuts}
use Rattle.text.specs.declared.pieces.Piece.{Piece}
use Rattle.text.proofs.words.Runs.{every-last}
use Rattle.text.proofs.words.Cases.{clash}

-- a line without a byte begins with no `#`
pub no-comment : (s : List ℕ) → length s ≡ 0 → false ≡ eqb (get_or s 0 0) 35
no-comment [] e = refl
no-comment (b ∷ s) e = absurd (omega arith)

front-take : (l : List ℕ) (n : ℕ) → n ≤ length l → sets l 0 (take n l) ≡ l
front-take l n m =
    let e : length (take n l) ≡ n = length-take-le n l m in
    front l (take n l) (omega arith) ∙ rw e (take-append-drop n l)

-- the cases of a byte more
module _ (room : ℕ) (l : List ℕ) (b : ℕ) where
  kept_by : (P : List ℕ → Type 0) → (length l < room → P (l ++ b ∷ [])) → (room ≤ length l → P (set l (room - 1) b))
      → (room ≤ length l → P l)
      → P (kept_byte room l b)
  unfolding kept_byte
  kept_by P f g h = go (ltb (length l) room) (is_blank (get_or l (room - 1) 0)) refl
    where
      go : (x y : Bool) → ltb (length l) room ≡ x → P (cond x (l ++ b ∷ []) (cond y (set l (room - 1) b) l))
      go true y e = f (ltb-true _ _ e)
      go false true e = g (ltb-false _ _ e)
      go false false e = h (ltb-false _ _ e)

  kept-grows : length l ≤ length (kept_byte room l b)
  kept-grows =
      kept_by (λ k. length l ≤ length k) (λ h. omega (arith, length-append l (b ∷ []))) (λ h. omega (
        arith,
        length-set l (room - 1) b,
      )) (λ h. omega arith)

  kept-fits : length l ≤ room → length (kept_byte room l b) ≤ room
  kept-fits m =
      kept_by (λ k. length k ≤ room) (λ h. omega (arith, length-append l (b ∷ []))) (λ h. omega (
        arith,
        length-set l (room - 1) b,
      )) (λ h. m)

-- one byte, at each end of the code
module _ (l : List ℕ) (n b : ℕ) (m : n ≤ length l) where
  taken : length (take n l) ≡ n
  taken = length-take-le n l m

  pub keeps-room : n < length l → Front (kept_byte (length l) (take n l) b) l (set l n b) (n + 1)
  unfolding kept_byte
  keeps-room h = rw (taken, lt-ltb n (length l) h) (record {
    ends = sym (length-append (take n l) (b ∷ []) ∙ rw taken);
    holds = sym (sets_more l 0 (take n l) b ∙ rw (taken, zero-add n, front-take l n m));
  })

  module _ (full : length l ≤ n) where
    all : take n l ≡ l
    all = take_all n l full

    here : n - 1 ≡ length l - 1
    here = omega arith

    pub keeps-none : n ≡ 0 → Front (kept_byte (length l) (take n l) b) l l n
    unfolding kept_byte is_blank
    keeps-none e = none l (omega arith)
      where
        none : (s : List ℕ) → length s ≡ 0 → Front (kept_byte (length s) (take n s) b) s s n
        none [] q = rw e (record { ends = refl; holds = refl })
        none (x ∷ s) q = absurd (omega arith)

    same : (k : List ℕ) → length k ≡ length l → Front k l k n
    same k e = record {
      ends = omega arith;
      holds = sym (front l k (omega arith)
          ∙ rw (drop_of_length-le l {i = length k} (omega arith)) (append-nil k));
    }

    pub keeps-blank : is_blank (get_or l (n - 1) 0) ≡ true → Front (kept_byte (length l) (take n l) b) l (set l (n - 1) b) n
    unfolding kept_byte
    keeps-blank t =
        let q = rw here at t in
        rw (all, le-ltb (length l) (length l) (omega arith), here, q) (same (set l (length l - 1) b) (length-set l _ b))

    pub keeps-full : is_blank (get_or l (n - 1) 0) ≡ false → Front (kept_byte (length l) (take n l) b) l l n
    unfolding kept_byte
    keeps-full f =
        let q = rw here at f in
        rw (all, le-ltb (length l) (length l) (omega arith), q) (same l refl)

-- a loop over the bytes of a part: what is left to cut, after what is kept, is the whole
pub record Cutting (part : List ℕ) (at : ℕ) (before : List ℕ) (kept : ℕ) (line : List ℕ) (end i : ℕ) : Type 0 where
  pub size : length line ≡ length before
  pub upto : end ≤ length line
  pub rest : drop end line ≡ drop end before
  pub kept_is : (cut_at (length before) (take kept before) (drop at part)).kept ≡ (cut_at (length before) (take end line)
      (drop i part)).kept
  pub read_is : at + (cut_at (length before) (take kept before) (drop at part)).read ≡ i + (cut_at (length before) (take end line)
      (drop i part)).read
  pub ended_is : (cut_at (length before) (take kept before) (drop at part)).ended ≡ (cut_at (length before) (take end line)
      (drop i part)).ended

pub cutting-none : (part : List ℕ) (at : ℕ) (before : List ℕ) (kept end : ℕ) → end ≡ min kept (length before)
    → Cutting part at before kept before end at
cutting-none part at before kept end e =
    let t : take kept before ≡ take end before = clamp before kept ∙ ap (λ n. take n before) (sym e) in
    record { size = refl; upto = omega arith; rest = refl; kept_is = rw t; read_is = rw t; ended_is = rw t }
  where
    clamp : (l : List ℕ) (n : ℕ) → take n l ≡ take (min n (length l)) l
    clamp l n = go (ltb n (length l)) refl
      where
        go : (b : Bool) → ltb n (length l) ≡ b → take n l ≡ take (min n (length l)) l
        go true t = let e : min n (length l) ≡ n = omega (arith, ltb-true n (length l) t) in rw e
        go false f =
            let m = ltb-false n (length l) f in
            take_all n l m ∙ sym (take_all (min n (length l)) l (omega arith))

module _ (part : List ℕ) (at : ℕ) (before : List ℕ) (kept : ℕ) (line : List ℕ) (end i : ℕ)
    (so_far : Cutting part at before kept line end i) where
  -- what is kept stands at the front
  holds : line ≡ sets before 0 (take end line)
  holds =
      let e : length (take end line) ≡ end = length-take-le end line so_far.upto in
      sym (front before (take end line) (omega (arith, so_far.size, so_far.upto)) ∙ rw (e, ← so_far.rest)
      (take-append-drop end line))

  cuts : (r : Piece) → r.kept ≡ end → r.at ≡ i + (cut_at (length before) (take end line) (drop i part)).read
      → r.ended ≡ (cut_at (length before) (take end line) (drop i part)).ended → (cut_at (length before) (take end line)
      (drop i part)).kept ≡ take end line
      → Cuts part at before kept line r
  cuts r k a e d = record {
    keeps = record {
      ends = k ∙ sym (ap length (so_far.kept_is ∙ d) ∙ length-take-le end line so_far.upto);
      holds = rw (so_far.kept_is ∙ d) holds;
    };
    fits = omega (arith, k, so_far.upto, so_far.size);
    next = a ∙ sym so_far.read_is;
    ended = e ∙ sym so_far.ended_is;
  }

  pub cuts-newline : i < length part → get_or part i 0 ≡ 10 → Cuts part at before kept line (record {
    at = i + 1;
    kept = end;
    ended = true;
  })
  unfolding cut_at
  cuts-newline l n =
      let q : cut_at (length before) (take end line) (drop i part) ≡ record {
        kept = take end line;
        read = 1;
        ended = true;
      } = rw (drop-cons part i 0 l, eq-eqb _ _ n) in
      cuts _ refl (rw q) (rw q) (rw q)

  pub cuts-end : length part ≤ i → (last : ℕ) → last ≡ i → Cuts part at before kept line (record { at = last; kept = end; ended = false })
  unfolding cut_at
  cuts-end l last e =
      let q : cut_at (length before) (take end line) (drop i part) ≡ record {
        kept = take end line;
        read = 0;
        ended = false;
      } = rw (drop_of_length-le part {i = i} l) in
      cuts _ refl (rw q (omega (arith, e))) (rw q) (rw q)

  pub cutting-more : i < length part → (get_or part i 0 ≡ 10 → ⊥) → (line' : List ℕ) (end' : ℕ)
      → Front (kept_byte (length line) (take end line) (get_or part i 0)) line line' end' → Cutting part at before kept line' end' (i + 1)
  unfolding cut_at
  cutting-more l n line' end' k = record {
    size = ap length k.holds ∙ length-sets line 0 more ∙ so_far.size;
    upto = omega (arith, ap length k.holds, length-sets line 0 more, fits, k.ends);
    rest = rw (k.holds, front line more fits) (drop_at more _ end' (sym k.ends)) ∙ ap (λ m. drop m line) (sym k.ends)
        ∙ later end' (omega (arith, grows, taken-all, k.ends));
    kept_is = so_far.kept_is ∙ ap (λ c. c.kept) step;
    read_is = omega (arith, so_far.read_is, ap (λ c. c.read) step);
    ended_is = so_far.ended_is ∙ ap (λ c. c.ended) step;
  }
    where
      more : List ℕ
      more = kept_byte (length line) (take end line) (get_or part i 0)

      taken-all : length (take end line) ≡ end
      taken-all = length-take-le end line so_far.upto

      grows : length (take end line) ≤ length more
      grows = kept-grows (length line) (take end line) (get_or part i 0)

      fits : length more ≤ length line
      fits = kept-fits (length line) (take end line) (get_or part i 0) (omega (arith, taken-all, so_far.upto))

      later : (m : ℕ) → end ≤ m → drop m line ≡ drop m before
      later m h =
          let q : m ≡ end + (m - end) = omega arith in
          ap (λ j. drop j line) q ∙ sym (drop-drop (m - end) end line) ∙ ap (drop (m - end)) so_far.rest
          ∙ drop-drop (m - end) end before ∙ sym (ap (λ j. drop j before) q)

      step : cut_at (length before) (take end line) (drop i part) ≡ (let c = cut_at (length before) (take end' line')
          (drop (i + 1) part) in record { kept = c.kept; read = suc c.read; ended = c.ended })
      step =
          let t : take end' line' ≡ more = rw (k.holds, front line more fits) (take_at more _ end' (sym k.ends)) in
          rw (t, add-one i, drop-cons part i 0 l, ne_eqb _ _ n, so_far.size)

-- a last byte in place of one that passes, and a byte that does not
module _ (p : ℕ → Bool) where
  every_set : (s : List ℕ) (i b : ℕ) → suc i ≡ length s → p (get_or s i 0) ≡ true → every p (set s i b) ≡ (every p s && p b)
  unfolding every
  every_set [] i b e t = absurd (omega arith)
  every_set (x ∷ []) zero b e t = rw t (and-true (p b))
  every_set (x ∷ y ∷ s) zero b e t = absurd (omega arith)
  every_set (x ∷ s) (suc i) b e t = ap (λ c. p x && c) (every_set s i b (omega arith) t) ∙ sym (and_assoc (p x) (every p s) (p b))

  every-not : (s : List ℕ) (i : ℕ) → i < length s → p (get_or s i 0) ≡ false → every p s ≡ false
  unfolding every
  every-not [] i l f = absurd (omega arith)
  every-not (x ∷ s) zero l f = rw f
  every-not (x ∷ s) (suc i) l f = rw (every-not s i (omega arith) f) (and-false (p x))

-- what a kept line shares with the whole: its first byte, whether it is blank, and that it is all of it or both are long
record Same (l s : List ℕ) : Type 0 where
  full : length l ≤ 4097
  first : get_or l 0 0 ≡ get_or s 0 0
  blank : every is_blank l ≡ every is_blank s
  size : (l ≡ s) ⊎ ((4096 < length l) × (4096 < length s))

module _ (l s : List ℕ) (b : ℕ) (h : Same l s) where
  grown : length (s ++ b ∷ []) ≡ length s + 1
  grown = length-append s (b ∷ [])

  short : length l < 4097 → Same (l ++ b ∷ []) (s ++ b ∷ [])
  short m =
      ⊎_elim
      (λ e. record {
        full = omega (arith, length-append l (b ∷ []));
        first = rw e;
        blank = rw e;
        size = inl (ap (λ t. t ++ b ∷ []) e);
      })
      (λ w. absurd (omega arith)) h.size

  module _ (m : 4097 ≤ length l) where
    long : 4096 < length s
    long = ⊎_elim (λ e. omega (arith, ap length e)) (λ w. w.1) h.size

    start : get_or s 0 0 ≡ get_or (s ++ b ∷ []) 0 0
    start = sym (get_or-append s (b ∷ []) 0 0 (omega (arith, long)))

    further : (c : Bool) → is_blank (get_or l 4096 0) ≡ c → Same (cond c (set l 4096 b) l) (s ++ b ∷ [])
    further true t = record {
      full = omega (arith, length-set l 4096 b, h.full);
      first = get_or-set_other l 4096 0 b 0 (λ z. omega arith) ∙ h.first ∙ start;
      blank =
          let e : suc 4096 ≡ length l = omega (arith, h.full) in
          every_set is_blank l 4096 b e t ∙ ap (λ c. c && is_blank b) h.blank ∙ sym (every-last is_blank s b);
      size = inr (omega (arith, length-set l 4096 b), omega (arith, long, grown));
    }
    further false f = record {
      full = h.full;
      first = h.first ∙ start;
      blank =
          let e = every-not is_blank l 4096 (omega arith) f in
          e ∙ sym (every-last is_blank s b ∙ ap (λ c. c && is_blank b) (sym h.blank ∙ e));
      size = inr (omega arith, omega (arith, long, grown));
    }

  same_byte : Same (kept_byte 4097 l b) (s ++ b ∷ [])
  unfolding kept_byte
  same_byte = go (ltb (length l) 4097) refl
    where
      go : (c : Bool) → ltb (length l) 4097 ≡ c → Same (cond c (l ++ b ∷ []) (cond (is_blank (get_or l 4096 0)) (set l 4096 b) l))
          (s ++ b ∷ [])
      go true t = short (ltb-true _ _ t)
      go false f = further (ltb-false _ _ f) (is_blank (get_or l 4096 0)) refl

same_bytes : (t l s : List ℕ) → every is_text t ≡ true → Same l s → Same (cut_at 4097 l t).kept (s ++ t)
unfolding cut_at every is_text
same_bytes [] l s e h = rw append-nil h
same_bytes (b ∷ t) l s e h = go (eqb b 10) e (λ q. same_bytes t (kept_byte 4097 l b) (s ++ b ∷ []) q (same_byte l s b h))
  where
    go : (c : Bool) → (not c && every is_text t) ≡ true → (every is_text t ≡ true → Same (cut_at 4097 (kept_byte 4097 l b) t).kept
        (s ++ b ∷ [] ++ t))
        → Same (cond {A = Cut} c (record { kept = l; read = 1; ended = true })
        (record {
          kept = (cut_at 4097 (kept_byte 4097 l b) t).kept;
          read = suc (cut_at 4097 (kept_byte 4097 l b) t).read;
          ended = (cut_at 4097 (kept_byte 4097 l b) t).ended;
        })).kept (s ++ b ∷ t)
    go true q f = absurd (clash q)
    go false q f = subst (Same (cut_at 4097 (kept_byte 4097 l b) t).kept) (append_assoc s (b ∷ []) t) (f q)

-- a line of any length is passed over where what is kept of it is
module _ (s : List ℕ) (text : every is_text s ≡ true) where
  shared : Same (cut_at 4097 [] s).kept s
  shared = same_bytes s [] [] text (record { full = omega arith; first = refl; blank = refl; size = inl refl })

  pub kept-passed : is_passed (cut_at 4097 [] s).kept ≡ is_passed s
  unfolding is_passed
  kept-passed = rw (shared.first, shared.blank)

  -- it is kept whole, or both are longer than a line may be
  pub kept_whole : ((cut_at 4097 [] s).kept ≡ s) ⊎ ((4096 < length (cut_at 4097 [] s).kept) × (4096 < length s))
  kept_whole = shared.size

-- a part without a newline, and what comes after it: as one part
pub cut_parts : (room : ℕ) (s l t : List ℕ) → every is_text s ≡ true
    → (cut_at room l (s ++ t)).kept ≡ (cut_at room (cut_at room l s).kept t).kept
unfolding cut_at every is_text
cut_parts room [] l t e = refl
cut_parts room (b ∷ s) l t e = go (eqb b 10) e (λ q. cut_parts room s (kept_byte room l b) t q)
  where
    step : Bool → List ℕ → Cut
    step c u = cond c (record { kept = l; read = 1; ended = true }) (record {
      kept = (cut_at room (kept_byte room l b) u).kept;
      read = suc (cut_at room (kept_byte room l b) u).read;
      ended = (cut_at room (kept_byte room l b) u).ended;
    })

    go : (c : Bool) → (not c && every is_text s) ≡ true
        → (every is_text s ≡ true → (cut_at room (kept_byte room l b)
        (s ++ t)).kept ≡ (cut_at room (cut_at room (kept_byte room l b) s).kept t).kept)
        → (step c (s ++ t)).kept ≡ (cut_at room (step c s).kept t).kept
    go true q f = absurd (clash q)
    go false q f = f q
