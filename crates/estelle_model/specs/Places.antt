-- Places: where a variable's value, or a part of it, is kept; and how it is read and stored (ISO 7185, 6.5).
use Rattle.std.specs.Prelude.{ℕ, if◌then◌else◌, List, [], ◌∷◌, ◌++◌, slice_get, Option, Some, None, ℤ, Result, Ok, Err}
use Rattle.std.specs.FinMap as map
use Rattle.pascal_values.specs.declared.fault.Fault.TheVariants.{Unset, NoModule}
use Rattle.pascal_values.specs.declared.value.Value.{Value}
use Rattle.pascal_values.specs.declared.value.Value.TheVariants as pascal
use Rattle.pascal_values.specs.declared.value.Value.TheOpen.{Value-F}
use Rattle.pascal_values.specs.declared.value.Value.TheFolds.{fold-Value}
use Rattle.pascal_values.specs.Values.{into, part_of, changed_at, with_part}
use Rattle.pascal_values.specs.Shapes.{is_unset}
use Rattle.estelle_model.specs.declared.denoter.Denoter.{Denoter}
use Rattle.estelle_model.specs.Stops.{Stop, Faults, Broken, stopping}
use Rattle.estelle_model.specs.Types.{shape_of, host_of, value_in, assignable}
use Rattle.estelle_tree.specs.Paths.{Path}
use Rattle.estelle_model.specs.Core.{Instance, Core}
use Rattle.estelle_model.specs.Effects.{Store}
use Rattle.estelle_model.specs.Belonging.{may_store}
use Rattle.estelle_model.specs.States.{Offers}
use Rattle.estelle_model.specs.Steps.{Running, Step, Do, ◌>>=◌, ◌>>◌, breaks, checked, checked_at}
use Rattle.estelle_model.specs.declared.place.Place.{Place}
use Rattle.estelle_model.specs.declared.place.Place.TheVariants.{Of, In}

-- the part of it that a number tells
abbrev pub deeper : Place → ℕ → Place
deeper (Of p x way) k = Of p x (way ++ k ∷ [])
deeper (In f x way) k = In f x (way ++ k ∷ [])

abbrev pub of_variables : Option Instance → ℕ → List ℕ → Result (Option Value) Stop
of_variables None x way = Err (Faults NoModule)
of_variables (Some i) x way = Ok (into (slice_get i.variables x) (λ v. part_of v way))

-- a value that is set: a simple value or a set that is not, is Unset; an array or record may have parts that are not
abbrev pub set_value : Option Value → Result Value Stop
set_value None = Err Broken
set_value (Some v) = if is_unset v then Err (Faults Unset) else Ok v

abbrev pub known : Result (Option Value) Stop → Result Value Stop
known (Ok v) = set_value v
known (Err e) = Err e

-- every simple part and each set is unset
abbrev pub blank_step : Value-F Value → Value
blank_step (Value-F.Array vs) = pascal.Array vs
blank_step (Value-F.Fields vs) = pascal.Fields vs
blank_step _ = pascal.Unset

unfoldable pub blanked : Value → Value
blanked = fold-Value Value blank_step

abbrev pub held_in : Option (Option Path) → Result Path Stop
held_in (Some (Some p)) = Ok p
held_in _ = Err (Faults NoModule)

abbrev pub module_variables_of : Option Instance → List (Option Path)
module_variables_of None = []
module_variables_of (Some i) = i.module_variables

-- the child that a module variable of an instance holds; NoModule where it is empty
abbrev pub child_at : Path → ℕ → Core → Result Path Stop
child_at p m c = held_in (slice_get (module_variables_of (map.get c.instances p)) m)

module _ (S : Type 0) (on : Offers S) where
  -- what stands at a place, if it is a place; NoModule where its instance is gone
  abbrev pub held : Place → Running S → Result (Option Value) Stop
  held (Of p x way) s = of_variables (map.get (on.core s.state).instances p) x way
  held (In f x way) s = Ok (into (slice_get s.frames f) (λ frame. part_of frame (x ∷ way)))

  abbrev pub held_step : Place → Step S (Option Value)
  held_step place = λ s. checked_at (held place s) s

  -- the value of a place
  unfoldable pub load : Place → Step S Value
  load place = λ s. checked_at (known (held place s)) s

  abbrev pub put_in_instance : Option Instance → Path → ℕ → List ℕ → Value → Do S
  put_in_instance None p x way v = λ s. Err (Faults NoModule, s.left)
  put_in_instance (Some i) p x way v = λ s. if may_store ((on.core s.state).types i.body) x way v then Ok (tt, record s { state = on.keeps p (Store x way v) s.state }) else Err (Broken, s.left)

  -- puts a value at a place. In a variable of an instance it must belong there: else a rule is broken, as where the name is of another body
  unfoldable pub put : Place → Value → Do S
  put (Of p x way) v = λ s. put_in_instance (map.get (on.core s.state).instances p) p x way v s
  put (In f x way) v = λ s. Ok (tt, record s { frames = changed_at s.frames f (λ frame. with_part frame (x ∷ way) v) })

  -- stores a value: NoModule where its instance is gone, and then Unset or Range where it may not be assignable
  unfoldable pub store : Denoter → Place → Value → Do S
  store t place v = held_step place >> checked (stopping (assignable (shape_of t) v)) >> put place v

  abbrev pub blank_there : Place → Option Value → Do S
  blank_there place None = breaks
  blank_there place (Some v) = put place (blanked v)

  -- what stands at a place is made unset
  unfoldable pub blank_at : Place → Do S
  blank_at place = held_step place >>= blank_there place

  -- stores the value with an ordinal: a host type without one is out of range too
  unfoldable pub store_ordinal : Denoter → Place → ℤ → Do S
  store_ordinal t place n = checked (value_in (host_of t) n) >>= λ v. store t place v

  unfoldable pub child_step : Path → ℕ → Step S Path
  child_step p m = λ s. checked_at (child_at p m (on.core s.state)) s
