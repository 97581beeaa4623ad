-- The machine that runs the code of bodies: units that run, each with its own stack of values and places.
use Rattle.std.specs.Prelude.{ℕ, Bool, List}
use Rattle.body_code.specs.declared.unit.CodeUnit.{CodeUnit}
use Rattle.estelle_model.specs.States.{Logged}
use Rattle.estelle_model.specs.Stops.{Stop}
use Rattle.estelle_model.specs.Steps.{Running}
use Rattle.estelle_model.specs.declared.place.Environment.{Environment}
pub use Rattle.body_machine.specs.declared.item.Item.{Item}
pub use Rattle.body_machine.specs.declared.item.Item.TheVariants.{Datum, Spot}
pub use Rattle.body_machine.specs.declared.activation.Return.{Return}
pub use Rattle.body_machine.specs.declared.activation.Return.TheVariants.{ToNone, ToCaller, ToParent}

-- a unit that runs
pub record Activation : Type 0 where
  -- the body to which the unit belongs
  pub body : ℕ
  pub unit : CodeUnit
  pub here : Environment
  -- of the instruction that comes next
  pub address : ℕ
  -- the topmost item first
  pub stack : List Item
  -- a unit of the budget was taken by `turn` since the last jump back
  pub turned : Bool
  pub return : Return

pub record Machine : Type 0 where
  pub running : Running Logged
  pub active : Activation
  -- those that wait for it, the innermost first
  pub waiting : List Activation

-- what comes next
pub data Next : Type 0 where
  Goes : (machine : Machine) → Next
  -- the outermost unit has ended, with what stands on its stack
  Ends : (stack : List Item) (running : Running Logged) → Next
  -- with the units left
  Stops : (by : Stop) (left : ℕ) → Next
