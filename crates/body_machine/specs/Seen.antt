-- The machine in code as the machine that is meant, and that an instruction does what the table says.
use Rattle.std.specs.Prelude.{◌≡◌, Bool, true, false, List, map as each, reverse, Result, Ok, Err}
use Rattle.body_code.specs.declared.unit.CodeUnit.{CodeUnit}
use Rattle.estelle_model.specs.Stops as model
use Rattle.estelle_model.specs.Subject.{Subject}
use Rattle.body_values.specs.declared.stop.Stop.{Stop}
use Rattle.body_values.specs.declared.stop.Stop.TheVariants as stop
use Rattle.body_state.specs.Progress.{running}
use Rattle.body_numbers.specs.declared.numbers.Numbers.{Numbers}
use Rattle.body_machine.specs.declared.activation.Activation as code
use Rattle.body_machine.specs.declared.machine.Machine as whole
use Rattle.body_machine.specs.Machine.{Activation, Machine, Next, Goes, Ends, Stops}
use Rattle.body_machine.specs.Rows.{Row}
use Rattle.body_machine.specs.Steps.{by_row}

abbrev pub seen_unit : code.Activation → Activation
seen_unit a = record { body = a.body; unit = a.unit.now; here = a.here; address = a.address; stack = a.stack; turned = a.turned; return = a.return_to }

abbrev pub seen : whole.Machine → Machine
seen m = record { running = running m.walk; active = seen_unit m.active; waiting = reverse (each seen_unit m.waiting.items) }

-- the machine goes on as it is now, or stops; nothing is said where memory is wanting
abbrev pub IsNext : Next → Result (Unit {0}) Stop → Machine → Type 0
IsNext x (Ok done) new = x ≡ Goes new
IsNext x (Err (stop.Fault f)) new = x ≡ Stops (model.Faults f) new.running.left
IsNext x (Err stop.Broken) new = x ≡ Stops model.Broken new.running.left
IsNext x (Err stop.Memory) new = Unit {0}

-- the machine goes on as it is now, or the outermost unit has ended, or it stops
abbrev pub IsStep : Next → Result Bool Stop → Machine → Type 0
IsStep x (Ok true) new = x ≡ Goes new
IsStep x (Ok false) new = x ≡ Ends new.active.stack new.running
IsStep x (Err (stop.Fault f)) new = x ≡ Stops (model.Faults f) new.running.left
IsStep x (Err stop.Broken) new = x ≡ Stops model.Broken new.running.left
IsStep x (Err stop.Memory) new = Unit {0}

-- what the table says of an instruction was done
abbrev pub Did : Row → whole.Machine → Result (Unit {0}) Stop → whole.Machine → Type 0
Did r old result new = (s : Subject) (n : Numbers) (code : List CodeUnit) → IsNext (by_row s n code r (seen old).active.stack (seen old)) result (seen new)
