-- `shown::asked::wish_in` meets its contract. Assumes nothing.
use mathlib.Core.Path.{sym, ◌∙◌}
use native.Mathlib.Omega.{arith}
use Rattle.shown.proofs.Telling.{body-fits, wish-form, wish-degree, wish-body, wish-whole}
use Rattle.shown.proofs.asked.wish_in.Goals as goal

pub returns-then-not_kind : goal.returns-then-not_kind
returns-then-not_kind c = wish-form _ _ _ _ c.not_kind.ensures c.if-not_kind.true

pub returns-then-not_degree : goal.returns-then-not_degree
returns-then-not_degree c = wish-degree _ _ _ _ c.not_kind.ensures c.if-not_kind.false _ c.not_degree.ensures
    c.if-not_degree.true

pub surface_count-values-requires : goal.surface_count-values-requires
surface_count-values-requires c = sym c.not_degree.ensures ∙ c.if-not_degree.false

pub path_count-path-requires : goal.path_count-path-requires
path_count-path-requires c = sym c.not_degree.ensures ∙ c.if-not_degree.false

pub overflow_mul-values : goal.overflow_mul-values
overflow_mul-values c =
    let fits = body-fits _ _ _ _ c.requires (sym c.not_degree.ensures ∙ c.if-not_degree.false) c.surface_count-values.ensures c.path_count-path.ensures in
    omega arith

pub overflow_add-from : goal.overflow_add-from
overflow_add-from c =
    let fits = body-fits _ _ _ _ c.requires (sym c.not_degree.ensures ∙ c.if-not_degree.false) c.surface_count-values.ensures c.path_count-path.ensures in
    omega arith

pub overflow_mul-path : goal.overflow_mul-path
overflow_mul-path c =
    let fits = body-fits _ _ _ _ c.requires (sym c.not_degree.ensures ∙ c.if-not_degree.false) c.surface_count-values.ensures c.path_count-path.ensures in
    omega arith

pub overflow_add-from-2 : goal.overflow_add-from-2
overflow_add-from-2 c =
    let fits = body-fits _ _ _ _ c.requires (sym c.not_degree.ensures ∙ c.if-not_degree.false) c.surface_count-values.ensures c.path_count-path.ensures in
    omega arith

pub returns-then-from-values : goal.returns-then-from-values
returns-then-from-values c = wish-body _ _ _ _ c.not_kind.ensures c.if-not_kind.false _ c.not_degree.ensures c.if-not_degree.false _ _ c.surface_count-values.ensures c.path_count-path.ensures c.if-from-values.true

pub returns : goal.returns
returns c = wish-whole _ _ _ _ c.not_kind.ensures c.if-not_kind.false _ c.not_degree.ensures c.if-not_degree.false _ _ c.surface_count-values.ensures c.path_count-path.ensures c.if-from-values.false
