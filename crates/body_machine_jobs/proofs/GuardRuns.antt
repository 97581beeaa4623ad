-- Guards by code, by what an image shows.
use Rattle.std.proofs.Common.{◌≡◌, ◌∙◌, ℕ, Bool, List, Option, None, Result, Ok, Err, refl, sym, subst}
use Rattle.std.specs.Prelude.{IfOk}
use Rattle.std.specs.declared.alloc.AllocError.{AllocError}
use Rattle.pascal_values.specs.declared.value.Value.{Value}
use Rattle.estelle_tree.specs.Paths.{Path}
use Rattle.body_code.specs.declared.unit.CodeUnit.{CodeUnit}
use Rattle.estelle_model.specs.declared.image.Image.{Image}
use Rattle.estelle_model.specs.declared.image.Interaction.{Interaction}
use Rattle.estelle_model.specs.declared.job.Guard.{Guard}
use Rattle.estelle_model.specs.declared.job.Guard.TheVariants.{Off, On}
use Rattle.estelle_model.specs.Core.{Instance}
use Rattle.estelle_model.specs.States.{Logged}
use Rattle.estelle_model.specs.Stops as model
use Rattle.estelle_model.specs.Steps.{Running, Step}
use Rattle.estelle_model.specs.Blocks.{fresh}
use Rattle.estelle_model.specs.Transitions.{Transition}
use Rattle.estelle_model.specs.Clauses.{answered}
use Rattle.estelle_model.specs.Computed.{core_of, log_from}
use Rattle.estelle_model.specs.Subject.{Subject}
use Rattle.estelle_model.specs.Asked.{IsGuard}
use Rattle.estelle_model_answers.specs.Laws.{GuardsAreAnswered}
use Rattle.body_values.specs.declared.stop.Stop.{Stop}
use Rattle.body_values.specs.declared.stop.Stop.TheVariants as stop
use Rattle.body_state.specs.Progress.{Progress, running}
use Rattle.body_state.specs.Follows.{Follows}
use Rattle.body_state.specs.InOrder.{InOrder, instance_in}
use Rattle.body_state.proofs.OrderLemmas.{holds_of}
use Rattle.body_state.proofs.PartLemmas.{shown}
use Rattle.body_numbers.specs.declared.numbers.Numbers.{Numbers}
use Rattle.body_machine_meaning.specs.Executed.{HoldsTo, Guards, GuardsOf, ExecutesGuard}
use Rattle.body_machine_meaning.specs.Faithful.{IsFaithful}
use Rattle.body_jobs.proofs.GuardAnswers.{answers_of}
use Rattle.body_machine_jobs.specs.Stands.{Tells}
use Rattle.body_machine_jobs.specs.Answered.{Holds}

-- an answer is what is told
pub told_is : (P : Guard → Type 0) (x : Result Guard Stop) (y : Result Guard AllocError) (w : Progress) → ((step : Step Logged Guard) (old new : Progress) → Follows step old x new → IfOk y (λ answer. answer ≡ answered (step (running old)))) → Tells P x → IfOk y P
told_is P x (Err e) w h t = tt
told_is P (Ok g) (Ok answer) w h t = subst P (sym (h (λ _. Ok (g, running w)) w w refl)) t
told_is P (Err (stop.Fault f)) (Ok answer) w h t = subst P (sym (h (λ _. Err (model.Faults f, w.left)) w w refl)) t
told_is P (Err stop.Broken) (Ok answer) w h t = subst P (sym (h (λ _. Err (model.Broken, w.left)) w w refl)) t
told_is P (Err stop.Memory) (Ok answer) w h t = let wrong : Off ≡ On 0 None = sym (h (λ _. Ok (Off, running w)) w w tt) ∙ h (λ _. Ok (On 0 None, running w)) w w tt in absurd (cc)

module _ (s : Subject) (n : Numbers) (code : List CodeUnit) (path : Path) (image : Image) (values : List Value) (timed : Bool) (budget body trans : ℕ) (t : Transition) where
  guards_of : (g : Guard) → Holds s n code path values timed body trans t (fresh (log_from (core_of s image)) budget) g → Guards s n code path image values timed budget body trans t g
  guards_of g h = record {
    provided = h.1.0;
    runs = h.1.1;
    result = h.2;
    then_delays = subst (λ b. HoldsTo s n code path values timed body trans t b h.2) h.1.2 h.3;
    answers = h.4;
  }

  pub guards_are : (u : Subject) (vs : List Value) (start : Running Logged) (y : Result Guard AllocError) → u ≡ s → vs ≡ values → start ≡ fresh (log_from (core_of u image)) budget → IfOk y (Holds u n code path vs timed body trans t start) → IfOk y (Guards s n code path image values timed budget body trans t)
  guards_are u vs start y same values_are start_is h = each y
      (subst (λ (u : Subject). IfOk y (Holds u n code path values timed body trans t (fresh (log_from (core_of u image)) budget))) same
      (subst (λ st. IfOk y (Holds u n code path values timed body trans t st)) start_is
      (subst (λ vs. IfOk y (Holds u n code path vs timed body trans t start)) values_are h)))
    where
      each : (y : Result Guard AllocError) → IfOk y (Holds s n code path values timed body trans t (fresh (log_from (core_of s image)) budget)) → IfOk y (Guards s n code path image values timed budget body trans t)
      each (Ok g) h = guards_of g h
      each (Err e) h = tt

-- of the instance with the path
module _ (s : Subject) (n : Numbers) (code : List CodeUnit) (path : Path) (image : Image) (head : Option Interaction) (timed : Bool) (budget trans : ℕ) (order : InOrder image.parts) where
  pub executes_guard : (o : Option Instance) (y : Result Guard AllocError) → o ≡ instance_in image.parts path → IfOk y (GuardsOf s n code path image head timed budget trans o) → IfOk y (ExecutesGuard s n code path image trans head timed budget)
  executes_guard o y e h = subst (λ i. IfOk y (GuardsOf s n code path image head timed budget trans i)) (e ∙ sym (shown image.parts (holds_of _ order) path)) h

  -- with a faithful code it is the guard
  pub faithful_guard : GuardsAreAnswered → IsFaithful s n code → (y : Result Guard AllocError) → IfOk y (ExecutesGuard s n code path image trans head timed budget) → IfOk y (IsGuard s path image trans head timed budget)
  faithful_guard law faithful (Ok answer) h = answers_of s path image trans head timed budget order law answer (faithful.guards path image trans head timed budget answer h)
  faithful_guard law faithful (Err e) h = tt
