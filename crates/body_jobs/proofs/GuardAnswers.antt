-- Guards by what an image shows.
use Rattle.std.proofs.Common.{◌≡◌, ◌∙◌, ℕ, Bool, Option, Some, Result, Ok, Err, ap, sym, subst}
use Rattle.std.specs.Prelude.{IfOk}
use Rattle.std.specs.declared.alloc.AllocError.{AllocError}
use Rattle.estelle_model.specs.declared.image.Image.{Image}
use Rattle.estelle_model.specs.declared.image.Interaction.{Interaction}
use Rattle.estelle_model.specs.declared.job.Guard.{Guard}
use Rattle.estelle_tree.specs.Paths.{Path}
use Rattle.estelle_model.specs.Core.{Instance}
use Rattle.estelle_model.specs.Subject.{Subject}
use Rattle.estelle_model.specs.Asked.{IsGuard, guard_for, guard_of_image}
use Rattle.estelle_model_answers.specs.Laws.{GuardsAreAnswered}
use Rattle.body_state.specs.InOrder.{InOrder, instance_in}
use Rattle.body_state.proofs.OrderLemmas.{holds_of}
use Rattle.body_state.proofs.PartLemmas.{shown}
use Rattle.body_jobs.proofs.AskedGuards.{guard_answers}

module _ (s : Subject) (p : Path) (image : Image) (n : ℕ) (head : Option Interaction) (timed : Bool) (budget : ℕ) (order : InOrder image.parts) where
  pub of_image : (o : Option Instance) → o ≡ instance_in image.parts p → guard_for s p image n head timed budget o ≡ guard_of_image s p image n head timed budget
  of_image o e = ap (guard_for s p image n head timed budget) (e ∙ sym (shown image.parts (holds_of _ order) p))

  pub answers_of : GuardsAreAnswered → (answer : Guard) → answer ≡ guard_of_image s p image n head timed budget → IsGuard s p image n head timed budget answer
  answers_of law answer e = subst (λ g. IsGuard s p image n head timed budget g) (sym e) (guard_answers law s p image n head timed budget)

  pub computed_result : (i : Instance) → Some i ≡ instance_in image.parts p → (x : Result Guard AllocError) → IfOk x (λ answer. answer ≡ guard_for s p image n head timed budget (Some i)) → IfOk x (λ answer. answer ≡ guard_of_image s p image n head timed budget)
  computed_result i e (Ok answer) h = h ∙ of_image (Some i) e
  computed_result i e (Err f) h = tt

  pub answers_result : GuardsAreAnswered → (x : Result Guard AllocError) → IfOk x (λ answer. answer ≡ guard_of_image s p image n head timed budget) → IfOk x (λ answer. IsGuard s p image n head timed budget answer)
  answers_result law (Ok answer) h = answers_of law answer h
  answers_result law (Err f) h = tt
