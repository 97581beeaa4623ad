-- What an operation on values gives in code: what it says, unless memory is wanting.
use Rattle.std.specs.Prelude.{◌≡◌, Result, Ok, Err}
use Rattle.estelle_model.specs.Stops as model
use Rattle.body_values.specs.declared.stop.Stop.{Stop}
use Rattle.body_values.specs.declared.stop.Stop.TheVariants as stop

-- its value, or what stops it; nothing is said where memory is wanting
abbrev pub Gives : {A : Type 0} → Result A model.Stop → Result A Stop → Type 0
Gives wanted (Ok a) = wanted ≡ Ok a
Gives wanted (Err (stop.Fault f)) = wanted ≡ Err (model.Faults f)
Gives wanted (Err stop.Broken) = wanted ≡ Err model.Broken
Gives wanted (Err stop.Memory) = Unit {0}
