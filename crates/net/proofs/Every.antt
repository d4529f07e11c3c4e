-- Every one of a list: kept by what is made of each, by a part and by two lists one after the other. Assumes nothing.
use mathlib.Core.List.{List, [], ◌∷◌, ◌++◌, map}
use Prim.Native.Nat.{ℕ, zero, suc}
use lib.ListN.{take, drop}

pub data Every {A : Type 0} (P : A → Type 0) : List A → Type 0 where
  none : Every P []
  more : {a : A} {l : List A} → P a → Every P l → Every P (a ∷ l)

module _ {A : Type 0} {P : A → Type 0} where
  pub every_append : (l m : List A) → Every P l → Every P m → Every P (l ++ m)
  every_append [] m none f = f
  every_append (a ∷ l) m (more p e) f = more p (every_append l m e f)

  pub every_take : (n : ℕ) (l : List A) → Every P l → Every P (take n l)
  every_take zero l e = none
  every_take (suc n) [] e = none
  every_take (suc n) (a ∷ l) (more p e) = more p (every_take n l e)

  pub every_drop : (n : ℕ) (l : List A) → Every P l → Every P (drop n l)
  every_drop zero l e = e
  every_drop (suc n) [] e = none
  every_drop (suc n) (a ∷ l) (more p e) = every_drop n l e

  pub every_map : {B : Type 0} {Q : B → Type 0} (f : A → B) → ((a : A) → P a → Q (f a)) → (l : List A) → Every P l → Every Q (map f l)
  every_map f g [] none = none
  every_map f g (a ∷ l) (more p e) = more (g a p) (every_map f g l e)
