use Rattle.std.proofs.Common.{◌≡◌, ℕ, List, length, map, Some}
use Rattle.std.specs.Prelude.{slice_get}
use Rattle.pascal_values.specs.declared.value.Shape.{Shape}
use Rattle.estelle_model.specs.Types.{shape_of}
use Rattle.estelle_model.specs.Subject.{types_of_variables}
use Rattle.body_kinds_checker.proofs.variables.variables_of.Given as goal

-- those of the bodies so far
abbrev pub invariant-loop-number : goal.invariant-loop-number
invariant-loop-number l = (length l.variables ≡ l.number) × ((k : ℕ) (shapes : List Shape) → slice_get l.variables k ≡ Some shapes → shapes ≡ map shape_of (types_of_variables l.bodies k))
