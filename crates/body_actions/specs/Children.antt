-- What is read of instances before children are made, or ended.
use Rattle.std.specs.Prelude.{ℕ, suc, ◌&&◌, if◌then◌else◌, List, Option, Some, None, Result, Ok, Err}
use Rattle.pascal_values.specs.declared.fault.Fault.TheVariants.{NoModule}
use Rattle.pascal_values.specs.declared.value.Value.{Value}
use Rattle.estelle_model.specs.Belonging.{are_values_of}
use Rattle.estelle_model.specs.Core.{Instance}
use Rattle.estelle_tree.specs.Paths.{Path, child}
use Rattle.estelle_model.specs.States.{Logged}
use Rattle.estelle_model.specs.Stops.{Stop, Faults, Broken}
use Rattle.estelle_model.specs.Steps.{Step, ◌>>◌, pure}
use Rattle.estelle_model.specs.Subject.{Subject, child_of}
use Rattle.estelle_model.specs.Actions as actions
use Rattle.estelle_model.specs.Actions.{may_hold}
use Rattle.body_state.specs.Follows.{carried}

-- how many external interaction points an instance has
abbrev pub external_of : Subject → Option Instance → Result ℕ Stop
external_of s None = Err (Faults NoModule)
external_of s (Some i) = Ok (child_of s i.body).external

-- whether a module variable of an instance may hold a child of a body with these parameters
abbrev pub beginning : Subject → ℕ → ℕ → List Value → Option Instance → Result (Unit {0}) Stop
beginning s m k values None = Err (Faults NoModule)
beginning s m k values (Some i) = if may_hold s i.body m k && are_values_of (child_of s k).parameters values then Ok tt else Err Broken

-- the child is made where the module variable is empty; its path
abbrev pub begins_child : Subject → Path → ℕ → Instance → Instance → Step Logged Path
begins_child s p m i new = carried (actions.begins_child s p m i new) >> pure (child p (suc i.births))
