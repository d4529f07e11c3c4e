-- `shown::asked::put_wish` meets its contract. Assumes nothing.
use mathlib.Core.Path.{◌∙◌, refl}
use mathlib.Core.Logic.{inl, inr}
use native.Mathlib.Omega.{arith}
use Rattle.page.proofs.Putting.{adds_then, adds-same}
use Rattle.shown.proofs.Telling.{lists-fit, whole-degree, whole_length, wish-short, wish-told, wish-same}
use Rattle.shown.proofs.asked.put_wish.Goals as goal

pub returns-in-NoForm : goal.returns-in-NoForm
returns-in-NoForm c =
    elim c.in-NoForm.is [
      | inl e ↦ adds-same _ _ _ _ (rw e at c.put_form.ensures)
          (wish-short _ _ _ 0 (rw e at c.wish_in-wish.ensures) (λ z. omega arith) ∙ wish-same _ _ _ _ c.open_record.ensures.read.head_is)
      | inr o ↦ elim o [
        | inl e ↦ adds-same _ _ _ _ (rw e at c.put_form.ensures)
            (wish-short _ _ _ 1 (rw e at c.wish_in-wish.ensures) (λ z. omega arith) ∙ wish-same _ _ _ _ c.open_record.ensures.read.head_is)
        | inr e ↦ adds-same _ _ _ _ (rw e at c.put_form.ensures)
            (wish-short _ _ _ 2 (rw e at c.wish_in-wish.ensures) (λ z. omega arith) ∙ wish-same _ _ _ _ c.open_record.ensures.read.head_is)
      ]
    ]

pub surface_count-values-requires : goal.surface_count-values-requires
surface_count-values-requires c = whole-degree _ _ _ 3 (rw c.in-Whole.is at c.wish_in-wish.ensures) refl

pub path_count-path-requires : goal.path_count-path-requires
path_count-path-requires c = whole-degree _ _ _ 3 (rw c.in-Whole.is at c.wish_in-wish.ensures) refl

pub put_numbers-requires : goal.put_numbers-requires
put_numbers-requires c = omega (
  arith,
  lists-fit _ _ _ _ _ c.surface_count-values.ensures c.path_count-path.ensures
      (whole_length _ _ _ 3 (rw c.in-Whole.is at c.wish_in-wish.ensures) refl),
)

pub overflow_mul-values : goal.overflow_mul-values
overflow_mul-values c = omega (
  arith,
  lists-fit _ _ _ _ _ c.surface_count-values.ensures c.path_count-path.ensures (whole_length _ _ _ 3 (rw c.in-Whole.is at c.wish_in-wish.ensures) refl),
)

pub overflow_add-from : goal.overflow_add-from
overflow_add-from c = omega (
  arith,
  lists-fit _ _ _ _ _ c.surface_count-values.ensures c.path_count-path.ensures (whole_length _ _ _ 3 (rw c.in-Whole.is at c.wish_in-wish.ensures) refl),
)

pub put_numbers-requires-2 : goal.put_numbers-requires-2
put_numbers-requires-2 c = omega (
  arith,
  lists-fit _ _ _ _ _ c.surface_count-values.ensures c.path_count-path.ensures
      (whole_length _ _ _ 3 (rw c.in-Whole.is at c.wish_in-wish.ensures) refl),
)

pub returns : goal.returns
returns c = adds-same _ _ _ _ (adds_then _ _ _ _ _ (adds_then _ _ _ _ _ (adds_then _ _ _ _ _ (rw c.in-Whole.is at c.put_form.ensures) c.put_numbers.ensures) c.put.ensures) c.put_numbers-2.ensures)
    (wish-told _ _ _ 3 _ _ (rw c.in-Whole.is at c.wish_in-wish.ensures) refl c.surface_count-values.ensures c.path_count-path.ensures ∙ wish-same _ _ _ _ c.open_record.ensures.read.head_is)
