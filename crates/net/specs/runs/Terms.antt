-- Terms: what a path point, or a point of a patch, gives to one argument; the sum over all choices of one term for each
-- argument, and the same sum by how often each term is taken. Assumes nothing.
use Rattle.std.specs.Prelude.{List, [], ◌∷◌, ℕ, zero, suc, ◌+◌, ◌*◌, ◌^◌, ℤ, pos, ◌+ℤ◌, ◌*ℤ◌, get_or}
use Rattle.whole.specs.Sum.{sum_over}
use Rattle.whole.specs.Choose.{choose}
use Rattle.net.specs.Net.{Net}
use Rattle.net.specs.Blossom.{Argument, along_u, step}

pub record Term : Type 0 where
  pub weight : ℕ
  pub key : ℕ
  pub argument : Argument

-- past the end of a list there is no term
abbrev pub no_term : Term
no_term = record { weight = 0; key = 0; argument = along_u (pos 0) }

abbrev pub term_at : List Term → ℕ → Term
term_at T c = get_or T c no_term

-- what is read where every argument is taken: of the sum of the keys, and of the net that is left
abbrev pub Reading : Type 0
Reading = ℕ → Net → ℤ

-- the sum over a list
unfoldable pub over : {A : Type 0} → List A → (A → ℤ) → ℤ
over [] f = pos 0
over (a ∷ rest) f = f a +ℤ over rest f

-- the sum over all choices of one term for each of r arguments
unfoldable pub chosen : List Term → ℕ → Reading → ℕ → Net → ℤ
chosen T zero F s p = F s p
chosen T (suc r) F s p = over T (λ t. pos t.weight *ℤ chosen T r F (s + t.key) (step t.argument p))

-- one argument taken e times
unfoldable pub repeated : ℕ → Argument → Net → Net
repeated zero a p = p
repeated (suc e) a p = repeated e a (step a p)

-- the same by how often the first term is taken, then the second, ..
unfoldable pub runs : List Term → ℕ → Reading → ℕ → Net → ℤ
runs [] zero F s p = F s p
runs [] (suc r) F s p = pos 0
runs (t ∷ T) r F s p =
    sum_over r (λ e k. pos (choose r e * t.weight ^ e) *ℤ runs T k F (s + e * t.key) (repeated e t.argument p))
