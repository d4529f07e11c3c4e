-- Laws of putting text on a page, one piece after the other. Assumes nothing.
use mathlib.Core.Path.{◌≡◌, refl, sym, ap, ◌∙◌}
use mathlib.Core.List.{List, [], ◌∷◌, ◌++◌, append-nil, append_assoc}
use Prim.Native.Nat.{ℕ, zero, suc, ◌+◌, ◌-◌, ◌/◌, ◌%◌, ◌≤◌, ◌<◌}
use native.Mathlib.Omega.{arith}
use lib.ListN.{length, take, set, length-append, length-set, length-take}
use lib.Seq.{sets, take-nil}
use borrow.Author.Tests.{lt-ltb, le-ltb}
use Rattle.spell.specs.Decimal.{Written}
use Rattle.spell.proofs.Writing.{sets-append, front_read, copied}
use borrow.Rule.Slice.PartMut.{put_mid}
use Rattle.page.specs.Page.{fitting, Puts, hex_digit, byte_shown}
use Rattle.page.specs.declared.Paper.{Paper}
use Rattle.page.specs.Paper.{Adds}

length-sets : (l : List ℕ) (i : ℕ) (vs : List ℕ) → length (sets l i vs) ≡ length l
length-sets l i [] = refl
length-sets l i (v ∷ vs) = length-sets (set l i v) (suc i) vs ∙ length-set l i v

take-append : (n : ℕ) (a b : List ℕ) → take n (a ++ b) ≡ take n a ++ take (n - length a) b
take-append n [] b = let e : n - 0 ≡ n = omega arith in rw (take-nil n, e)
take-append zero (x ∷ a) b = let e : 0 - suc (length a) ≡ 0 = omega arith in rw e
take-append (suc n) (x ∷ a) b =
    let e : suc n - suc (length a) ≡ n - length a = omega arith in
    rw e (ap (λ (l : List ℕ). x ∷ l) (take-append n a b))

-- a page stays as long as it is
pub puts-size : (page : List ℕ) (at : ℕ) (a page' : List ℕ) (end : ℕ) → Puts page at a page' end → length page' ≡ length page
puts-size page at a page' end w = ap length w.holds ∙ length-sets page at (fitting page at a)

-- no text
pub puts_none : (page : List ℕ) (at : ℕ) → Puts page at [] page at
unfolding fitting
puts_none page at = record {
  ends = omega (arith, ap length (take-nil {A = ℕ} (length page - at)));
  holds = ap (sets page at) (sym (take-nil (length page - at)));
}

-- a text, and another one behind it
module _ (page : List ℕ) (at : ℕ) (a page' : List ℕ) (m : ℕ) (b page'' : List ℕ) (end : ℕ)
    (w : Puts page at a page' m) (x : Puts page' m b page'' end) where
  size : length page' ≡ length page
  size = puts-size page at a page' m w

  fit : fitting page at (a ++ b) ≡ fitting page at a ++ fitting page' m b
  unfolding fitting
  fit =
      let gap : length page - at - length a ≡ length page' - m = omega (arith, size, w.ends, length-take (length page - at) a) in
      take-append (length page - at) a b ∙ ap (λ (k : ℕ). take (length page - at) a ++ take k b) gap

  pub puts_then : Puts page at (a ++ b) page'' end
  puts_then = record {
    ends = omega (arith, x.ends, w.ends, ap length fit, length-append (fitting page at a) (fitting page' m b));
    holds =
        x.holds ∙ ap (λ (q : List ℕ). sets q m (fitting page' m b)) w.holds
        ∙ ap (λ (k : ℕ). sets (sets page at (fitting page at a)) k (fitting page' m b)) w.ends
        ∙ sets-append page at (fitting page at a) (fitting page' m b)
        ∙ ap (sets page at) (sym fit);
  }

no_bytes : (l : List ℕ) → length l ≡ 0 → l ≡ []
no_bytes [] e = refl
no_bytes (b ∷ l) e = absurd (omega arith)

-- as much of a text as there is room for: nothing, or some of it, copied to its place
module _ (page : List ℕ) (at : ℕ) (text fits : List ℕ) (is : fits ≡ take (length page - at) text) where
  pub puts-nowhere : length fits ≡ 0 → Puts page at text page at
  unfolding fitting
  puts-nowhere e =
      let none = no_bytes (take (length page - at) text) (ap length (sym is) ∙ e) in
      record { ends = rw none (omega arith); holds = rw none refl }

  pub puts-copied : (now : List ℕ) → (length fits ≡ 0 → ⊥) → now ≡ fits
      → Puts page at text (put_mid at (at + length fits - at) page now) (at + length fits)
  unfolding fitting
  puts-copied now some e = record {
    ends = ap (λ l. at + length l) is;
    holds = copied fits page now at (omega (arith, ap length is, length-take (length page - at) text)) e ∙ ap (sets page at) is;
  }

-- what was put on an empty page is read there
module _ (page text page' : List ℕ) (end : ℕ) (w : Puts page 0 text page' end) where
  pub page-read : take end page' ≡ take (length page) text
  unfolding fitting
  page-read =
      let all : length page - 0 ≡ length page = omega arith in
      let fits : length (take (length page - 0) text) ≤ length page = omega (arith, length-take (length page - 0) text) in
      let ended : end ≡ length (take (length page - 0) text) = omega (arith, w.ends) in
      rw (w.holds, ended) (front_read page (take (length page - 0) text) fits) ∙ ap (λ (k : ℕ). take k text) all

-- what was written to the front of a buffer with room for it is read there
pub written_read : (most : ℕ) (bytes l l' : List ℕ) (n : ℕ) → Written most l 0 bytes l' n → most ≤ length l → take n l' ≡ bytes
written_read most bytes l l' n w m =
    let ended : n ≡ length bytes = omega (arith, w.ends) in
    rw (w.holds, ended) (front_read l bytes (omega (arith, w.ends, w.small)))

pub written-size : (most : ℕ) (bytes l l' : List ℕ) (n : ℕ) → Written most l 0 bytes l' n → most ≤ length l → n ≡ length (take n l')
written-size most bytes l l' n w m =
    let ended : n ≡ length bytes = omega (arith, w.ends) in
    ended ∙ ap length (sym (written_read most bytes l l' n w m))

-- the same of a page and its place together
pub adds_none : (p : Paper) → Adds p [] p
adds_none p = record { same = refl; put = puts_none p.bytes.now p.at }

pub adds_then : (p : Paper) (a : List ℕ) (q : Paper) (b : List ℕ) (r : Paper) → Adds p a q → Adds q b r → Adds p (a ++ b) r
adds_then p a q b r v w = record {
  same = w.same ∙ v.same;
  put = puts_then p.bytes.now p.at a q.bytes.now q.at b r.bytes.now r.at v.put w.put;
}

-- another way to say the same text
pub adds-same : (p : Paper) (a : List ℕ) (q : Paper) (b : List ℕ) → Adds p a q → a ≡ b → Adds p b q
adds-same p a q b w e = rw (← e) w

-- what stands on the page where the paper's borrow of it ends: its name is the page's, so the bytes are
pub adds-end : (p : Paper) (a : List ℕ) (q : Paper) (page : List ℕ) → Adds p a q → (p.bytes.ghost_name ≡ q.bytes.ghost_name → page ≡ q.bytes.now)
    → Puts p.bytes.now p.at a page q.at
adds-end p a q page w e = rw (e (sym w.same)) w.put

-- a text of which a part is put, and what is left of it: for a loop
pub record Onward (all : List ℕ) (old new : Paper) (left : List ℕ) : Type 0 where
  pub done : List ℕ
  pub put : Adds old done new
  pub whole : done ++ left ≡ all

module _ (all : List ℕ) (old : Paper) where
  pub onward-none : Onward all old old all
  onward-none = record { done = []; put = adds_none old; whole = refl }

  module _ (now : Paper) (left : List ℕ) (o : Onward all old now left) where
    pub onward-more : (piece : List ℕ) (new : Paper) (left' : List ℕ) → Adds now piece new → left ≡ piece ++ left' → Onward all old new left'
    onward-more piece new left' w e = record {
      done = o.done ++ piece;
      put = adds_then old o.done now piece new o.put w;
      whole = append_assoc o.done piece left' ∙ ap (λ (l : List ℕ). o.done ++ l) (sym e) ∙ o.whole;
    }

    pub onward-all : left ≡ [] → Adds old all now
    onward-all e =
        adds-same old o.done now all o.put
        (sym (append-nil o.done) ∙ ap (λ (l : List ℕ). o.done ++ l) (sym e) ∙ o.whole)

-- hexadecimal digits
pub low_digit : (n : ℕ) → n % 16 < 10 → 48 + n % 16 ≡ hex_digit n
unfolding hex_digit
low_digit n l = rw (lt-ltb (n % 16) 10 l)

pub high_digit : (n : ℕ) → 10 ≤ n % 16 → 87 + n % 16 ≡ hex_digit n
unfolding hex_digit
high_digit n l = rw (le-ltb (n % 16) 10 l)

pub digits_are : (n a b c d : ℕ) → a ≡ hex_digit (n / 4096) → b ≡ hex_digit (n / 256) → c ≡ hex_digit (n / 16) → d ≡ hex_digit n
    → ◌≡◌ {A = List ℕ} (a ∷ b ∷ c ∷ d ∷ []) (hex_digit (n / 4096) ∷ hex_digit (n / 256) ∷ hex_digit (n / 16) ∷ hex_digit n ∷ [])
digits_are n a b c d p q r s = cc

pub byte-is : (before n a b : ℕ) → a ≡ hex_digit (n / 16) → b ≡ hex_digit n → before ∷ a ∷ b ∷ [] ≡ byte_shown before n
unfolding byte_shown
byte-is before n a b p q = cc
