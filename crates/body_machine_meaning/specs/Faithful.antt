-- Which codes mean what the bodies of a specification mean.
use Rattle.std.specs.Prelude.{◌≡◌, ℕ, Bool, List, Option}
use Rattle.estelle_tree.specs.Paths.{Path}
use Rattle.body_code.specs.declared.unit.CodeUnit.{CodeUnit}
use Rattle.estelle_model.specs.declared.image.Image.{Image}
use Rattle.estelle_model.specs.declared.image.Interaction.{Interaction}
use Rattle.estelle_model.specs.declared.job.Guard.{Guard}
use Rattle.estelle_model.specs.declared.job.Job.{Job}
use Rattle.estelle_model.specs.declared.job.Outcome.{Outcome}
use Rattle.estelle_model.specs.Computed.{IsComputedOf}
use Rattle.estelle_model.specs.Asked.{guard_of_image}
use Rattle.estelle_model.specs.Subject.{Subject}
use Rattle.body_numbers.specs.declared.numbers.Numbers.{Numbers}
use Rattle.body_machine_meaning.specs.Executed.{Executes, ExecutesGuard}

-- what the machine comes to with the code is what is computed of each job and of each guard
pub record IsFaithful (s : Subject) (n : Numbers) (code : List CodeUnit) : Type 0 where
  pub jobs : (job : Job) (outcome : Outcome) (left : ℕ) → Executes s n code job job.trans outcome left → IsComputedOf s job job.trans outcome left
  pub guards : (path : Path) (image : Image) (trans : ℕ) (head : Option Interaction) (timed : Bool) (budget : ℕ) (answer : Guard) →
      ExecutesGuard s n code path image trans head timed budget answer → answer ≡ guard_of_image s path image trans head timed budget
