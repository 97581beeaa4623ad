-- Frames of units, and how deep they may nest.
use Rattle.std.specs.Prelude.{ℕ, ◌-◌, nat_lt, if◌then◌else◌, List, [], ◌∷◌, ◌++◌, length, take, drop, flat_map, Ok, Err}
use Rattle.pascal_values.specs.declared.fault.Fault.TheVariants.{CallDepth}
use Rattle.pascal_values.specs.declared.value.Value.{Value}
use Rattle.pascal_values.specs.declared.value.Value.TheVariants as pascal
use Rattle.pascal_values.specs.Shapes.{blank_of}
use Rattle.body_code.specs.declared.unit.Local.{Local}
use Rattle.estelle_model.specs.States.{Logged}
use Rattle.estelle_model.specs.Stops.{Faults}
use Rattle.estelle_model.specs.Steps.{Running, Do, ◌>>◌, spend}
use Rattle.estelle_model.specs.Calls.{max_depth}

-- a local that is a variable, as it begins
abbrev pub blank_local : Local → List Value
blank_local l = if l.by_ref then [] else blank_of l.shape ∷ []

-- the locals that are variables, as they begin
abbrev pub blanks_of : List Local → List Value
blanks_of locals = flat_map blank_local locals

-- the frame of a unit that is given values for the first of its locals
abbrev pub frame_with : List Local → ℕ → List Value → Value
frame_with locals taken values = pascal.Fields (values ++ blanks_of (drop taken locals))

abbrev pub push_frame : Value → Do Logged
push_frame frame = λ s. Ok (tt, record s { frames = s.frames ++ frame ∷ [] })

abbrev pub pop_frame : Running Logged → Running Logged
pop_frame s = record s { frames = take (length s.frames - 1) s.frames }

-- a unit that begins above a frame takes a unit of the budget, and then tests the depth
abbrev pub deeper_than : ℕ → Do Logged
deeper_than frame = spend >> (λ s. if nat_lt frame max_depth then Ok (tt, s) else Err (Faults CallDepth, s.left))
