-- What the machine does at each instruction, and what it comes to.
use Rattle.std.specs.Prelude.{◌≡◌, ℕ, zero, suc, nat_le, Bool, true, false, if◌then◌else◌, List, [], ◌∷◌, ◌++◌, length, take, drop, reverse, slice_get, option_map, option_and_then, Option, Some, None, Result, Ok, Err}
use Rattle.pascal_values.specs.declared.value.Value.{Value}
use Rattle.estelle_tree.specs.Paths.{Path}
use Rattle.body_code.specs.declared.instr.Instr.{Instr}
use Rattle.body_code.specs.declared.unit.Entry.TheVariants as entry
use Rattle.body_code.specs.declared.unit.Local.{Local}
use Rattle.body_code.specs.declared.unit.CodeUnit.{CodeUnit}
use Rattle.body_code.specs.Units.{unit_of}
use Rattle.estelle_model.specs.declared.place.Place.{Place}
use Rattle.estelle_model.specs.declared.place.ActualParameters.{ActualParameters}
use Rattle.estelle_model.specs.Operators.{bool_of}
use Rattle.estelle_model.specs.States.{Logged, on_log}
use Rattle.estelle_model.specs.Stops.{Stop, Broken}
use Rattle.estelle_model.specs.Steps.{Running, StepResult, Step, ◌>>◌, spend}
use Rattle.estelle_model.specs.Plans.{carry}
use Rattle.estelle_model.specs.Subject.{Subject, child_of}
use Rattle.estelle_model.specs.Actions.{holds_child}
use Rattle.body_machine.specs.Machine.{Item, Datum, Spot, Return, ToNone, ToCaller, ToParent, Activation, Machine, Next, Goes, Ends, Stops}
use Rattle.body_numbers.specs.declared.numbers.Numbers.{Numbers}
use Rattle.body_machine.specs.Frames.{frame_with, push_frame, pop_frame, deeper_than}
use Rattle.body_machine.specs.Ends.{makes_child}
use Rattle.body_machine.specs.Rows.{Row, Nullary, OfValue, OfPlace, OfValues, OfBoth, OfMany, Jumps, JumpsWhere, Turns, Calls, Begins, Returns, row}

-- what is no instruction's: an operand that is not there or of another kind, and what a number does not name
abbrev pub stuck : Machine → Next
stuck m = Stops Broken m.running.left

-- ---- instructions that go on behind themselves

abbrev pub behind : List Item → Activation → Activation
behind items a = record a { address = suc a.address; stack = items }

-- with the items that are left, above those that were not taken
abbrev pub goes_on : StepResult Logged (List Item) → List Item → Machine → Next
goes_on (Ok r) below m = Goes (record m { running = r.1; active = behind (r.0 ++ below) m.active })
goes_on (Err e) below m = Stops e.0 e.1

-- so many from the top, the topmost last, and those below
abbrev pub taken_from : ℕ → List Item → Option (List Item × List Item)
taken_from k items = if nat_le k (length items) then Some (reverse (take k items), drop k items) else None

-- values, and those that items are behind them, where each is one
abbrev pub values_with : List Value → List Item → Option (List Value)
values_with values [] = Some values
values_with values (Datum v ∷ items) = values_with (values ++ v ∷ []) items
values_with values (Spot p ∷ items) = None

abbrev pub values_of : List Item → Option (List Value)
values_of items = values_with [] items

abbrev pub values_from : Option (List Item × List Item) → Option (List Value × List Item)
values_from None = None
values_from (Some x) = option_map (λ vs. (vs, x.1)) (values_of x.0)

abbrev pub with_values : Option (List Value × List Item) → (List Value → Step Logged (List Item)) → Machine → Next
with_values None f m = stuck m
with_values (Some x) f m = goes_on (f x.0 m.running) x.1 m

-- ---- jumps

-- a jump to its own or a lower address uses the turn up
abbrev pub jump_back : ℕ → List Item → Machine → Next
jump_back to items m = if m.active.turned then Goes (record m { active = record m.active { address = to; stack = items; turned = false } }) else stuck m

abbrev pub jump : ℕ → List Item → Machine → Next
jump to items m = if nat_le to m.active.address then jump_back to items m else Goes (record m { active = record m.active { address = to; stack = items } })

abbrev pub decide : Result Bool Stop → Bool → ℕ → List Item → Machine → Next
decide (Err e) wanted to items m = Stops e m.running.left
decide (Ok true) true to items m = jump to items m
decide (Ok false) false to items m = jump to items m
decide (Ok _) wanted to items m = goes_on (Ok ([], m.running)) items m

abbrev pub turn : StepResult Logged (Unit {0}) → Machine → Next
turn (Ok r) m = Goes (record m { running = r.1; active = record (behind m.active.stack m.active) { turned = true } })
turn (Err e) m = Stops e.0 e.1

-- ---- units that are entered and left

-- what is given to the first locals: values for variables, places for those by reference
abbrev pub given_one : Bool → Item → ActualParameters → Option ActualParameters
given_one false (Datum v) g = Some (record g { values = g.values ++ v ∷ [] })
given_one true (Spot p) g = Some (record g { references = g.references ++ p ∷ [] })
given_one by_ref i g = None

abbrev pub given_to : List Local → List Item → ActualParameters → Option ActualParameters
given_to locals [] g = Some g
given_to [] (i ∷ items) g = None
given_to (l ∷ locals) (i ∷ items) g = option_and_then (given_to locals items) (given_one l.by_ref i g)

abbrev pub nothing_given : ActualParameters
nothing_given = record { values = []; references = [] }

-- a unit as it begins
abbrev pub begun : ℕ → CodeUnit → Path → ℕ → List Place → Return → Activation
begun body unit path frame references return = record {
  body = body;
  unit = unit;
  here = record { path = path; frame = frame; references = references };
  address = 0;
  stack = [];
  turned = false;
  return = return;
}

-- the unit begins, and the one that runs goes on behind its end
abbrev pub enter : StepResult Logged (Unit {0}) → Activation → List Item → Machine → Next
enter (Ok r) unit below m = Goes (record { running = r.1; active = unit; waiting = behind below m.active ∷ m.waiting })
enter (Err e) unit below m = Stops e.0 e.1

module _ (s : Subject) (n : Numbers) (code : List CodeUnit) where
  -- ---- calls

  abbrev pub call_given : ℕ → CodeUnit → ℕ → Option ActualParameters → List Item → Machine → Next
  call_given body unit taken None below m = stuck m
  call_given body unit taken (Some g) below m =
      enter ((deeper_than m.active.here.frame >> push_frame (frame_with unit.locals taken g.values)) m.running) (begun body unit m.active.here.path (suc m.active.here.frame) g.references ToCaller) below m

  abbrev pub call_with : ℕ → CodeUnit → ℕ → Option (List Item × List Item) → Machine → Next
  call_with body unit taken None m = stuck m
  call_with body unit taken (Some x) m = call_given body unit taken (given_to unit.locals x.0 nothing_given) x.1 m

  abbrev pub call_unit : ℕ → Option CodeUnit → ℕ → List Item → Machine → Next
  call_unit body None arguments items m = stuck m
  call_unit body (Some unit) arguments items m = call_with body unit arguments (taken_from arguments items) m

  -- ---- init

  -- the child that is made runs its initialization
  abbrev pub initialize : ℕ → ℕ → CodeUnit → StepResult Logged Path → List Item → Machine → Next
  initialize modvar body unit (Ok r) below m = enter (push_frame (frame_with unit.locals 0 []) r.1) (begun body unit r.0 (suc m.active.here.frame) [] (ToParent modvar body r.0)) below m
  initialize modvar body unit (Err e) below m = Stops e.0 e.1

  abbrev pub init_unit : ℕ → ℕ → Option CodeUnit → List Value → List Item → Machine → Next
  init_unit modvar body None values below m = stuck m
  init_unit modvar body (Some unit) values below m = initialize modvar body unit (makes_child s m.active.here.path m.active.here.frame modvar body values m.running) below m

  abbrev pub init_with : ℕ → ℕ → Option CodeUnit → Option (List Value × List Item) → Machine → Next
  init_with modvar body unit None m = stuck m
  init_with modvar body unit (Some x) m = init_unit modvar body unit x.0 x.1 m

  -- ---- the end of a unit

  abbrev pub resume : Activation → List Activation → List Item → Running Logged → Next
  resume a waiting items running = Goes (record { running = running; active = record a { stack = items ++ a.stack }; waiting = waiting })

  abbrev pub held : StepResult Logged (Unit {0}) → Activation → List Activation → List Item → Next
  held (Ok r) a waiting items = resume a waiting items r.1
  held (Err e) a waiting items = Stops e.0 e.1

  -- the unit that waits goes on with what is left; where none waits, the run ends
  abbrev pub return_to : Return → List Activation → List Item → Running Logged → Next
  return_to return [] items running = Ends items running
  return_to ToNone (a ∷ waiting) items running = resume a waiting items running
  return_to ToCaller (a ∷ waiting) items running = resume a waiting items running
  return_to (ToParent variable body c) (a ∷ waiting) items running = held (carry Logged on_log (holds_child s a.here.path variable (child_of s body).to c) running) a waiting items

  -- ---- one instruction

  abbrev pub by_row : Row → List Item → Machine → Next
  by_row (Nullary p) items m = goes_on (p m.running) items m
  by_row (OfValue f) (Datum v ∷ items) m = goes_on (f v m.running) items m
  by_row (OfPlace f) (Spot p ∷ items) m = goes_on (f p m.running) items m
  by_row (OfValues f) (Datum w ∷ (Datum v ∷ items)) m = goes_on (f v w m.running) items m
  by_row (OfBoth f) (Datum v ∷ (Spot p ∷ items)) m = goes_on (f p v m.running) items m
  by_row (OfMany k f) items m = with_values (values_from (taken_from k items)) f m
  by_row (Jumps to) items m = jump to items m
  by_row (JumpsWhere wanted to) (Datum v ∷ items) m = decide (bool_of v) wanted to items m
  by_row Turns items m = turn (spend m.running) m
  by_row (Calls body routine arguments) items m = call_unit body (unit_of code body (entry.Routine routine)) arguments items m
  by_row (Begins modvar body arguments) items m = init_with modvar body (unit_of code body entry.Initialize) (values_from (taken_from arguments items)) m
  by_row Returns items m = return_to m.active.return m.waiting items (pop_frame m.running)
  by_row _ items m = stuck m

  abbrev pub act : Option Instr → Machine → Next
  act None m = stuck m
  act (Some i) m = by_row (row s n m.active i) m.active.stack m

  -- what the instruction at the address does
  unfoldable pub next : Machine → Next
  next m = act (slice_get m.active.unit.instrs m.active.address) m

  -- ---- what is come to

  -- after so many instructions
  abbrev pub run : ℕ → Next → Next
  run zero x = x
  run (suc k) (Goes m) = run k (next m)
  run (suc k) x = x

  abbrev pub Comes : Next → Next → Type 0
  Comes x y = (k : ℕ) × (run k x ≡ y)
