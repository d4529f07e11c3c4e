-- One request, as 01 has it (rule Forms and degrees). Assumes nothing.
use Rattle.std.specs.Prelude.{List, ℤ}
use Rattle.request.specs.declared.Head.{Head}

-- "A request carries the form, a first degree, a second degree (0 for forms 1 and 3), N, and the two input arrays."
pub record Request : Type 0 where
  pub head : Head
  pub surface : List ℤ
  pub path : List ℤ

abbrev pub request_of : Head → List ℤ → List ℤ → Request
request_of head surface path = record { head = head; surface = surface; path = path }
