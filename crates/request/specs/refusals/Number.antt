-- The number of each refusal, as rule Refusals has them: "The eight refusals, tested in this order" (01), and those of later tickets. Assumes nothing.
use Rattle.std.specs.Prelude.{ℕ}
use Rattle.request.specs.declared.refusals.Refusal.{Refusal}
use Rattle.request.specs.declared.refusals.Refusal.TheVariants.{Kind, Degree, Surface, Path, Room, Value, Parameter, Balance, Frame, Stale, Moment}

abbrev pub number_of : Refusal → ℕ
number_of Kind = 1
number_of Degree = 2
number_of Surface = 3
number_of Path = 4
number_of Room = 5
number_of Value = 6
number_of Parameter = 7
number_of Balance = 8
number_of Frame = 9
number_of Stale = 10
number_of Moment = 11
