-- What a call's result stands for, where the units that are left are not told.
use Rattle.std.specs.Prelude.{ℕ, Result, Ok, Err}
use Rattle.estelle_model.specs.declared.job.Guard.{Guard}
use Rattle.estelle_model.specs.declared.job.Guard.TheVariants.{Faulted}
use Rattle.estelle_model.specs.States.{Logged}
use Rattle.estelle_model.specs.Stops as model
use Rattle.estelle_model.specs.Steps.{Running, StepResult}
use Rattle.body_values.specs.declared.stop.Stop.{Stop}
use Rattle.body_values.specs.declared.stop.Stop.TheVariants as stop
use Rattle.body_state.specs.Progress.{Progress, running}

-- a value and the state, or what stops it with some units left; nothing is said where memory is wanting
abbrev pub Stands : {A B : Type 0} → (A → B × Running Logged) → (StepResult Logged B → Type 0) → Result A Stop → Type 0
Stands shown P (Ok a) = P (Ok (shown a))
Stands shown P (Err (stop.Fault f)) = (left : ℕ) × P (Err (model.Faults f, left))
Stands shown P (Err stop.Broken) = (left : ℕ) × P (Err (model.Broken, left))
Stands shown P (Err stop.Memory) = Unit {0}

-- what is given with a walk, which is its state
abbrev pub walked : {A : Type 0} → A × Progress → A × Running Logged
walked x = (x.0, running x.1)

-- a guard as it is answered; nothing is said where memory is wanting
abbrev pub Tells : (Guard → Type 0) → Result Guard Stop → Type 0
Tells P (Ok g) = P g
Tells P (Err (stop.Fault f)) = P (Faulted f)
Tells P (Err stop.Broken) = P (Faulted (model.told model.Broken))
Tells P (Err stop.Memory) = Unit {0}
