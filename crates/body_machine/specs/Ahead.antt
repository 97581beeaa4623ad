-- Instructions that the code does at once: a value that they make is held apart from the stack until one of them takes it.
use Rattle.std.specs.Prelude.{◌≡◌, ℕ, suc, slice_get, Bool, List, [], ◌∷◌, Some, Result, Ok, Err}
use Rattle.pascal_values.specs.declared.value.Value.{Value}
use Rattle.body_code.specs.declared.instr.Instr.{Instr}
use Rattle.body_code.specs.declared.instr.Instr.TheVariants as op
use Rattle.body_code.specs.declared.unit.CodeUnit.{CodeUnit}
use Rattle.estelle_model.specs.declared.place.Place.{Place}
use Rattle.estelle_model.specs.declared.place.Place.TheVariants.{Of, In}
use Rattle.estelle_model.specs.Places.{load}
use Rattle.estelle_model.specs.States.{Logged, on_log}
use Rattle.estelle_model.specs.Stops as model
use Rattle.estelle_model.specs.Subject.{Subject}
use Rattle.body_values.specs.declared.stop.Stop.{Stop}
use Rattle.body_values.specs.declared.stop.Stop.TheVariants as stop
use Rattle.body_numbers.specs.declared.numbers.Numbers.{Numbers}
use Rattle.body_machine.specs.declared.ahead.Variable.{Variable}
use Rattle.body_machine.specs.declared.ahead.Variable.TheVariants.{Own, Local}
use Rattle.body_machine.specs.declared.machine.Machine as whole
use Rattle.body_machine.specs.declared.operators.Binary.{Binary}
use Rattle.body_machine.specs.Machine.{Datum, Activation, Machine, Next, Goes, Stops}
use Rattle.body_machine.specs.Slots.{slot}
use Rattle.body_machine.specs.Rows.{Row, row, combining, gives}
use Rattle.body_machine.specs.Steps.{goes_on, by_row, next, run}
use Rattle.body_machine.specs.Seen.{seen, IsNext, IsStep}

-- the instruction that pushes the place of a variable, and the place
abbrev pub pushed_by : Variable → Instr
pushed_by (Own k) = op.Var k
pushed_by (Local k) = op.Loc k

abbrev pub place_in : Activation → Variable → Place
place_in a (Own k) = Of a.here.path k []
place_in a (Local k) = In a.here.frame (slot a.unit.locals k) []

-- with a value on top
abbrev pub holding : Value → Machine → Machine
holding v m = record m { active = record m.active { stack = Datum v ∷ m.active.stack } }

-- behind so many instructions more, with the same stack
abbrev pub at_address : ℕ → Machine → Machine
at_address k m = record m { active = record m.active { address = k } }

-- an instruction pushes the place of a variable, and the one behind it loads its value
abbrev pub IsLoad : List Instr → ℕ → Variable → Type 0
IsLoad instrs k x = (slice_get instrs k ≡ Some (pushed_by x)) × (slice_get instrs (suc k) ≡ Some op.Load)

abbrev pub IsLoadOf : Machine → Variable → Type 0
IsLoadOf m x = IsLoad m.active.unit.instrs m.active.address x

-- an instruction computes this of two values
abbrev pub Computes : Instr → Binary → Type 0
Computes i o = (s : Subject) (n : Numbers) (a : Activation) → row s n a i ≡ combining o

abbrev pub IsOperator : List Instr → ℕ → Binary → Type 0
IsOperator instrs k o = (i : Instr) × (slice_get instrs k ≡ Some i) × Computes i o

-- the value of a variable was loaded by two instructions, or the second stops; nothing is said where memory is wanting
abbrev pub Loads : Machine → Variable → Result Value Stop → Machine → Type 0
Loads old x (Ok v) new = (load Logged on_log (place_in old.active x) old.running ≡ Ok (v, old.running)) × (new ≡ at_address (suc (suc old.active.address)) old)
Loads old x (Err (stop.Fault f)) new = load Logged on_log (place_in old.active x) old.running ≡ Err (model.Faults f, new.running.left)
Loads old x (Err stop.Broken) new = load Logged on_log (place_in old.active x) old.running ≡ Err (model.Broken, new.running.left)
Loads old x (Err stop.Memory) new = Unit {0}

-- what the table says of an instruction was done with a value on top, which is held apart
abbrev pub DidWith : Value → Row → whole.Machine → Result (Unit {0}) Stop → whole.Machine → Type 0
DidWith v r old result new = (s : Subject) (n : Numbers) (code : List CodeUnit) → IsNext (by_row s n code r (Datum v ∷ (seen old).active.stack) (holding v (seen old))) result (seen new)

-- what two instructions have computed, behind them
abbrev pub joined_to : Result Value model.Stop → Machine → Next
joined_to r m = goes_on (gives r m.running) m.active.stack (at_address (suc m.active.address) m)

-- the machine goes on with a value on top, or it stops; nothing is said where memory is wanting
abbrev pub IsMade : Next → Result Value Stop → Machine → Type 0
IsMade x (Ok v) new = x ≡ Goes (holding v new)
IsMade x (Err (stop.Fault f)) new = x ≡ Stops (model.Faults f) new.running.left
IsMade x (Err stop.Broken) new = x ≡ Stops model.Broken new.running.left
IsMade x (Err stop.Memory) new = Unit {0}

module _ (s : Subject) (n : Numbers) (code : List CodeUnit) where
  -- some instructions were done, and then a value is on top
  abbrev pub HasMade : Next → Result Value Stop → Machine → Type 0
  HasMade x result new = (k : ℕ) × IsMade (run s n code k x) result new

  -- some instructions were done
  abbrev pub HasGone : Next → Result (Unit {0}) Stop → Machine → Type 0
  HasGone x result new = (k : ℕ) × IsNext (run s n code k x) result new

  -- an instruction was done, and some behind it
  abbrev pub HasStepped : Machine → Result Bool Stop → Machine → Type 0
  HasStepped old result new = (k : ℕ) × IsStep (run s n code k (next s n code old)) result new
