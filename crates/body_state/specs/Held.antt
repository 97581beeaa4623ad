-- What stands at a place, and what is made of it.
use Rattle.std.specs.Prelude.{ℕ, List, Option, Some, None, Result, Ok, Err}
use Rattle.pascal_values.specs.declared.fault.Fault.{Fault}
use Rattle.pascal_values.specs.declared.fault.Fault.TheVariants.{NoModule}
use Rattle.pascal_values.specs.declared.value.Value.{Value}
use Rattle.estelle_tree.specs.Paths.{Path}
use Rattle.estelle_model.specs.declared.place.Place.{Place}
use Rattle.estelle_model.specs.declared.place.Place.TheVariants.{Of}
use Rattle.estelle_model.specs.States.{Logged, on_log}
use Rattle.estelle_model.specs.Stops.{Stop, Faults, Broken, stopping}
use Rattle.estelle_model.specs.Steps.{Step, Do, ◌>>=◌, ◌>>◌, checked}
use Rattle.estelle_model.specs.Places.{blanked, held_step, put}

-- NoModule where nothing of it is there
abbrev pub or_gone : Option (Option Value) → Result (Option Value) Stop
or_gone None = Err (Faults NoModule)
or_gone (Some o) = Ok o

-- with nothing set, where it is a place
abbrev pub blanked_in : Option Value → Result Value Stop
blanked_in None = Err Broken
blanked_in (Some v) = Ok (blanked v)

abbrev pub blanked_step : Place → Step Logged Value
blanked_step place = held_step Logged on_log place >>= λ part. checked (blanked_in part)

-- puts a value at a place, where that is there and then the value fits
abbrev pub put_fitting : Place → Result (Unit {0}) Fault → Value → Do Logged
put_fitting place fit v = held_step Logged on_log place >> checked (stopping fit) >> put Logged on_log place v

-- the same at a part of a variable of an instance
abbrev pub put_where : Path → ℕ → List ℕ → Result (Unit {0}) Fault → Value → Do Logged
put_where p x way fit v = put_fitting (Of p x way) fit v
