-- The parts of a guard.
use Rattle.std.specs.Prelude.{◌≡◌, ℕ, Bool, ◌||◌, is_none, List, Option}
use Rattle.pascal_values.specs.declared.value.Value.{Value}
use Rattle.estelle_tree.specs.Paths.{Path}
use Rattle.estelle_tree.specs.declared.tree.clause.DelayHigh.{DelayHigh}
use Rattle.body_code.specs.declared.unit.CodeUnit.{CodeUnit}
use Rattle.body_code.specs.declared.unit.Entry.TheVariants as entry
use Rattle.body_code.specs.Units.{unit_of}
use Rattle.estelle_model.specs.declared.job.Guard.{Guard}
use Rattle.estelle_model.specs.States.{Logged}
use Rattle.estelle_model.specs.Steps.{Running, StepResult, and_then}
use Rattle.estelle_model.specs.Expressions.{bool_step}
use Rattle.estelle_model.specs.Transitions.{Transition}
use Rattle.estelle_model.specs.Belonging.{are_values_of}
use Rattle.estelle_model.specs.Clauses.{answered}
use Rattle.estelle_model.specs.Subject.{Subject}
use Rattle.body_numbers.specs.declared.numbers.Numbers.{Numbers}
use Rattle.body_machine.specs.declared.item.Item.{Item}
use Rattle.body_machine_meaning.specs.Executed.{ReceivesTo, DelaysTo, HoldsTo, value_left, delay_left}

module _ (s : Subject) (n : Numbers) (code : List CodeUnit) (path : Path) (values : List Value) where
  -- `provided` by its unit
  abbrev pub IsProvided : (body trans : ℕ) → Transition → Running Logged → StepResult Logged Bool → Type 0
  IsProvided body trans t start result = (provided : StepResult Logged (List Item))
      × ReceivesTo s n code (is_none t.provided || are_values_of t.received values) body (unit_of code body (entry.Guard trans)) path values start provided
      × (result ≡ and_then provided (λ items. bool_step (value_left items)))

  -- the delay by its unit, as a guard is answered
  abbrev pub Waits : (body trans : ℕ) → Transition → Option DelayHigh → Running Logged → Guard → Type 0
  Waits body trans t high start answer = (bounds : StepResult Logged (List Item))
      × ReceivesTo s n code (are_values_of t.received values) body (unit_of code body (entry.Delay trans)) path values start bounds
      × (answer ≡ answered (and_then bounds (delay_left s high)))

  -- the same, where no timer runs in its place
  abbrev pub Delays : Bool → (body trans : ℕ) → Transition → Running Logged → Guard → Type 0
  Delays timed body trans t start answer = (result : StepResult Logged Guard) × DelaysTo s n code path values timed body trans t t.delay start result × (answer ≡ answered result)

  -- `provided`, and where it is true the delay
  abbrev pub Holds : Bool → (body trans : ℕ) → Transition → Running Logged → Guard → Type 0
  Holds timed body trans t start answer = (provided : StepResult Logged Bool) × IsProvided body trans t start provided
      × (result : StepResult Logged Guard) × HoldsTo s n code path values timed body trans t provided result × (answer ≡ answered result)
