-- Blocks as jobs have them.
use Rattle.std.specs.Prelude.{ℕ, Bool, List, Option}
use Rattle.pascal_values.specs.declared.value.Value.{Value}
use Rattle.estelle_tree.specs.Paths.{Path}
use Rattle.body_code.specs.declared.unit.CodeUnit.{CodeUnit}
use Rattle.estelle_model.specs.declared.job.Outcome.{Outcome}
use Rattle.estelle_model.specs.States.{Logged}
use Rattle.estelle_model.specs.Steps.{Running, StepResult, and_then}
use Rattle.estelle_model.specs.Computed.{IsMadeBy}
use Rattle.estelle_model.specs.Subject.{Subject}
use Rattle.body_numbers.specs.declared.numbers.Numbers.{Numbers}
use Rattle.body_machine.specs.declared.item.Item.{Item}
use Rattle.body_machine_meaning.specs.Executed.{ReceivesTo, state_taken}

-- the outcome is made by a block of a body, which may receive these values, and the state behind it
abbrev pub Makes : Subject → Numbers → List CodeUnit → Bool → ℕ → Option CodeUnit → Path → List Value → Running Logged → Option ℕ → Outcome → ℕ → Type 0
Makes s n code fits body unit path values start to outcome left =
    (block : StepResult Logged (List Item)) × ReceivesTo s n code fits body unit path values start block × IsMadeBy s (and_then block (state_taken s path to)) outcome left
