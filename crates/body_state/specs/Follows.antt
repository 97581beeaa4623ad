-- What a call does to a state is what a step says.
use Rattle.std.specs.Prelude.{◌≡◌, Result, Ok, Err, OnOk}
use Rattle.std.specs.declared.alloc.AllocError.{AllocError}
use Rattle.body_values.specs.declared.stop.Stop.{Stop}
use Rattle.body_values.specs.declared.stop.Stop.TheVariants as stop
use Rattle.estelle_model.specs.States.{Logged, on_log}
use Rattle.estelle_model.specs.Stops as model
use Rattle.estelle_model.specs.Steps.{Running, Step, Do}
use Rattle.estelle_model.specs.Plans.{Plan, carry}
use Rattle.body_state.specs.Progress.{Progress, running}

-- the value and the new state, or what stops it and the units left; nothing is said where memory is wanting
abbrev pub Leads : {S A : Type 0} → Step S A → Running S → Result A Stop → Running S → Type 0
Leads step old (Ok a) new = step old ≡ Ok (a, new)
Leads step old (Err (stop.Fault f)) new = step old ≡ Err (model.Faults f, new.left)
Leads step old (Err stop.Broken) new = step old ≡ Err (model.Broken, new.left)
Leads step old (Err stop.Memory) new = Unit {0}

-- from one walk to another, as runs on a log
abbrev pub Follows : {A : Type 0} → Step Logged A → Progress → Result A Stop → Progress → Type 0
Follows step old result new = Leads step (running old) result (running new)

-- a call that only wants memory does what a step says
abbrev pub Does : Do Logged → Progress → Result (Unit {0}) AllocError → Progress → Type 0
Does step old result new = OnOk result (step (running old) ≡ Ok (tt, running new))

-- a plan, carried out on a log
abbrev pub carried : {A : Type 0} → Plan A → Step Logged A
carried p = carry Logged on_log p
