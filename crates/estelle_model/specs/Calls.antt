-- Calls of routines, and blocks that are entered likewise: each in a frame of its own, at most 200 deep (ISO 7185, 6.6 and 6.8.2.3).
use Rattle.std.specs.Prelude.{ℕ, zero, suc, ◌-◌, List, [], ◌∷◌, ◌++◌, length, take, map, slice_index_or, Ok}
use Rattle.pascal_values.specs.declared.fault.Fault.TheVariants.{CallDepth}
use Rattle.pascal_values.specs.declared.value.Value.{Value}
use Rattle.pascal_values.specs.declared.value.Value.TheVariants as value
use Rattle.pascal_values.specs.Values.{parts_of}
use Rattle.pascal_values.specs.Shapes.{blank_of}
use Rattle.estelle_model.specs.declared.denoter.Denoter.{Denoter}
use Rattle.estelle_model.specs.Types.{shape_of}
use Rattle.estelle_tree.specs.Paths.{Path}
use Rattle.estelle_model.specs.States.{Offers}
use Rattle.estelle_model.specs.Steps.{Step, Do, ◌>>◌, pure, fail, spend}
use Rattle.estelle_model.specs.declared.meaning.Routine.{Routine}
use Rattle.estelle_model.specs.Meant.{Meanings, result_types, result_number}
use Rattle.estelle_model.specs.declared.place.Environment.{Environment}
use Rattle.estelle_model.specs.declared.place.ActualParameters.{ActualParameters}
use Rattle.estelle_model.specs.Expressions.{Call}
use Rattle.estelle_model.specs.Statements.{Acts, stmts}

-- a variable of a type as it begins: each simple part and each set is unset
abbrev pub blank : Denoter → Value
blank t = blank_of (shape_of t)

-- the values that are given, then the routine's own variables, then a function's result
abbrev pub frame_of : Routine → List Value → Value
frame_of r given = value.Fields (given ++ map blank (r.locals ++ result_types r.result))

abbrev pub last_or : Value → List Value → Value
last_or v [] = v
last_or v (w ∷ more) = last_or w more

abbrev pub enter : {S : Type 0} → Routine → List Value → Do S
enter r given = λ s. Ok (tt, record s { frames = s.frames ++ frame_of r given ∷ [] })

-- takes the innermost frame off, and gives what a function's result in it is; of a procedure that is unset
unfoldable pub leave : {S : Type 0} → Routine → Step S Value
leave r = λ s. Ok (slice_index_or (parts_of (last_or value.Unset s.frames)) (result_number r) value.Unset, record s { frames = take (length s.frames - 1) s.frames })

-- how deep calls and inits may nest
abbrev pub max_depth : ℕ
max_depth = 200

-- runs a routine, or the initialization of a new child, for an instance; before it begins, something is done. It takes a unit, and then tests the depth.
abbrev pub Enters : Type 0 → Type 0
Enters S = Do S → Path → Routine → ActualParameters → Step S Value

-- a call does nothing before it begins
abbrev pub call_by : {S : Type 0} → Enters S → Path → Call S
call_by enters path r given = enters (pure tt) path r given

module _ (S : Type 0) (on : Offers S) (meant : Meanings) (act : Enters S → Acts S) where
  -- the statements of a routine in a frame of its own, at a depth
  abbrev pub within : Enters S → ℕ → Path → Routine → ActualParameters → Step S Value
  within enters depth path r given =
      enter r given.values
      >> stmts S on meant (act enters) (call_by enters path) (record { path = path; frame = depth; references = given.references }) r.body
      >> leave r

  -- where so many more may be nested
  abbrev pub nested : ℕ → Enters S
  nested zero before path r given = spend >> fail CallDepth
  nested (suc n) before path r given = spend >> before >> within (nested n) (max_depth - n) path r given
