-- What a run of the machine comes to.
use Rattle.std.specs.Prelude.{List, Result, Ok, Err}
use Rattle.body_code.specs.declared.unit.CodeUnit.{CodeUnit}
use Rattle.estelle_model.specs.Stops as model
use Rattle.estelle_model.specs.Subject.{Subject}
use Rattle.body_values.specs.declared.stop.Stop.{Stop}
use Rattle.body_values.specs.declared.stop.Stop.TheVariants as stop
use Rattle.body_numbers.specs.declared.numbers.Numbers.{Numbers}
use Rattle.body_machine.specs.Machine.{Machine, Goes, Ends, Stops}
use Rattle.body_machine.specs.Steps.{Comes}

-- the end of the outermost unit, or what stops it; nothing is said where memory is wanting
abbrev pub HasRun : Subject → Numbers → List CodeUnit → Machine → Result (Unit {0}) Stop → Machine → Type 0
HasRun s n code old (Ok done) new = Comes s n code (Goes old) (Ends new.active.stack new.running)
HasRun s n code old (Err (stop.Fault f)) new = Comes s n code (Goes old) (Stops (model.Faults f) new.running.left)
HasRun s n code old (Err stop.Broken) new = Comes s n code (Goes old) (Stops model.Broken new.running.left)
HasRun s n code old (Err stop.Memory) new = Unit {0}
