-- "Count the combinations" (rule Counting; 02, ticket 7), for the class surveyor: the tree of runs, its number of net entries,
-- what the composer reports of it, and that the order of a set of arguments never changes the blossom. Assumes nothing.
use Rattle.std.specs.Prelude.{◌≡◌, refl, ℕ, zero, suc, ◌+◌, ◌-◌}
use Rattle.std.proofs.Common.{◌∙◌, subst, arith}
use mathlib.Core.List.Permᴰ
use mathlib.Core.List.{List, [], ◌∷◌, ◌++◌, Permᴰ}
use borrow.Author.Tests.{eq-eqb, ne_eqb}
use Rattle.whole.specs.Choose.{choose}
use Rattle.request.specs.declared.Head.{Head}
use Rattle.request.specs.Head.{by_form, degree}
use Rattle.request.specs.Request.{Request}
use Rattle.request.proofs.Forms.{at-curve, at-tensor, at-triangle}
use Rattle.net.specs.Net.{Net}
use Rattle.net.specs.Blossom.{Argument, blossom}
use Rattle.net.proofs.Symmetry.{Reordered, none, keep, exchange, and_then, any_order}
use Rattle.net.specs.runs.Tree.{Tree, end, extended, tree, size, entries}
use Rattle.net.proofs.runs.Tree.{worked, entries-count}
use Rattle.compose.specs.Afterwards.{Arrays, ride_tree, entries_of, entries_after}
use Rattle.demands.specs.Demands.{Result, Allowed}

-- ---- The tree. A run is a list of path point numbers, none smaller than the one before it. `tree r 0 g` has a node for each run of 1
-- to r of the numbers 0 to g - 1: the run with its last number, under the run without it. The runs of a tree, in the order in which
-- they are formed, each behind the numbers `before` it:
unfoldable pub runs_of : List ℕ → Tree → List (List ℕ)
runs_of before end = []
runs_of before (extended c d further others) =
    let run = before ++ (c ∷ []) in
    (run ∷ runs_of run further) ++ runs_of before others

-- two arguments and three path points: 0, 0 0, 0 1, 0 2, 1, 1 1, 1 2, 2, 2 2
pub worked-runs : runs_of [] (tree 2 0 3)
    ≡ (0 ∷ []) ∷ (0 ∷ 0 ∷ []) ∷ (0 ∷ 1 ∷ []) ∷ (0 ∷ 2 ∷ []) ∷ (1 ∷ []) ∷ (1 ∷ 1 ∷ []) ∷ (1 ∷ 2 ∷ []) ∷ (2 ∷ []) ∷ (2 ∷ 2 ∷ []) ∷ []
unfolding tree runs_of
worked-runs = refl

-- Each node forms one net: where d arguments are left, a net of degree d, which has d + 1 entries for form 1 and (d + 1)(d + 2)/2 for
-- form 3 (`size K d`). `entries K` adds them up. Rule Counting (document 001, formula 8), for every r, g and K:
pub count-of-entries : (r g K : ℕ) → entries K (tree r 0 g) ≡ choose (r + g + K) r - choose (r + K) r
count-of-entries r g K = entries-count K r 0 g

-- by hand: 3·3 + 6·2 + 10·1 = 35 - 4; 4·10 + 10·6 + 20·3 + 35·1 = 210 - 15; and no argument, no net
pub worked-counts : (entries 1 (tree 3 0 3) ≡ 31) × (entries 2 (tree 4 0 4) ≡ 195) × ((K g : ℕ) → entries K (tree 0 0 g) ≡ 0)
worked-counts = worked

-- ---- What the composer reports. g = N + 1, K = 1 for form 1 and 2 for form 3. "A refused request reports 0, and so does form 2."
-- It is what the program did: crates/gather adds up the entries of each net as it forms it (`Counted` of
-- Rattle.sums.specs.gather.Formed), and that this is the tree's number is proved of its walk.
pub record Reports (rq : Request) (r : Result) : Type 0 where
  pub curve : r.answer.number ≡ 0 → rq.head.form ≡ 1
      → r.entries ≡ choose (degree rq.head + (rq.head.N + 1) + 1) (degree rq.head) - choose (degree rq.head + 1) (degree rq.head)
  pub tensor : rq.head.form ≡ 2 → r.entries ≡ 0
  pub triangle : r.answer.number ≡ 0 → rq.head.form ≡ 3
      → r.entries ≡ choose (degree rq.head + (rq.head.N + 1) + 2) (degree rq.head) - choose (degree rq.head + 2) (degree rq.head)
  pub refusal : (r.answer.number ≡ 0 → ⊥) → r.entries ≡ 0

-- forms 1, 2 and 3, of the greatest degrees: 495 - 5, 0 and 715 - 15
abbrev head : ℕ → ℕ → ℕ → ℕ → Head
head form first second N = record { form = form; first = first; second = second; N = N }

pub worked-reports : (entries_of (head 1 4 0 6) ≡ 490) × (entries_of (head 2 2 2 6) ≡ 0) × (entries_of (head 3 4 0 6) ≡ 700) × (entries_of (head 1 3 0 2) ≡ 31)
unfolding entries_of ride_tree by_form degree tree entries size choose
worked-reports = (refl, refl, refl, refl)

module _ (rq : Request) (age : ℕ) (lent : Arrays) (r : Result) (allowed : Allowed rq age lent r) where
  accepted-reports : r.answer.number ≡ 0 → r.entries ≡ entries_of rq.head
  unfolding entries_after
  accepted-reports e = allowed.counted ∙ rw (← allowed.answered, eq-eqb _ _ e)

  refused-reports : (r.answer.number ≡ 0 → ⊥) → r.entries ≡ 0
  unfolding entries_after
  refused-reports refusal = allowed.counted ∙ rw (← allowed.answered, ne_eqb _ _ refusal)

  tensor-none : rq.head.form ≡ 2 → entries_of rq.head ≡ 0
  unfolding entries_of
  tensor-none f = at-tensor rq.head _ _ _ f

  tensor-reports : rq.head.form ≡ 2 → (n : ℕ) → r.answer.number ≡ n → r.entries ≡ 0
  tensor-reports f zero e = accepted-reports e ∙ tensor-none f
  tensor-reports f (suc n) e = refused-reports (λ z. omega arith)

  pub reports : Reports rq r
  unfolding entries_of ride_tree
  reports = record {
    curve = λ e f. accepted-reports e ∙ at-curve rq.head _ _ _ f ∙ count-of-entries (degree rq.head) (rq.head.N + 1) 1;
    tensor = λ f. tensor-reports f r.answer.number refl;
    triangle = λ e f.
        accepted-reports e ∙ at-triangle rq.head _ _ _ (omega arith) (omega arith) ∙ count-of-entries (degree rq.head) (rq.head.N + 1) 2;
    refusal = refused-reports;
  }

-- ---- The order. `List.Permᴰ l m` is the kit's: m has the arguments of l, one by one, in any order. Whatever the net, and whatever
-- the arguments are, also u beside v:
reordered : {l m : List Argument} → Permᴰ l m → Reordered l m
reordered Permᴰ.nil = none
reordered (Permᴰ.cons {a} {b} {l₁} {l₂} e d) = subst (λ c. Reordered (a ∷ l₁) (c ∷ l₂)) e (keep a (reordered d))
reordered (Permᴰ.swap {a} {b} {a'} {b'} {l} e f) =
    subst (λ c. Reordered (a ∷ b ∷ l) (c ∷ b' ∷ l)) f (subst (λ c. Reordered (a ∷ b ∷ l) (b ∷ c ∷ l)) e (exchange a b l))
reordered (Permᴰ.trans d e) = and_then (reordered d) (reordered e)

pub order-never-matters : {l m : List Argument} → Permᴰ l m → (p : Net) → blossom l p ≡ blossom m p
order-never-matters d = any_order (reordered d)

-- and within each of two groups, as form 2 has them: its u arguments, then its v arguments
pub within-groups : {us us' vs vs' : List Argument} → Permᴰ us us' → Permᴰ vs vs'
    → (p : Net) → blossom (us ++ vs) p ≡ blossom (us' ++ vs') p
within-groups {us} {us'} {vs} {vs'} u v = order-never-matters (Permᴰ.trans (Permᴰ.append_right vs u) (Permᴰ.append_left us' v))
