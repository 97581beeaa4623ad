-- A guard of which nothing has to be evaluated is what would be computed of it.
use Rattle.std.proofs.Common.{◌≡◌, ℕ, Bool, true, false, List, Option, Some, None, refl, sym, ap, subst, cond, ◌∙◌}
use Rattle.std.specs.Prelude.{◌&&◌, ◌||◌, is_none, IfSome}
use Rattle.pascal_values.specs.declared.value.Value.{Value}
use Rattle.estelle_tree.specs.Paths.{Path}
use Rattle.estelle_tree.specs.declared.tree.expression.Expr.{Expr}
use Rattle.estelle_model.specs.declared.image.Image.{Image}
use Rattle.estelle_model.specs.declared.image.Part.{Part}
use Rattle.estelle_model.specs.declared.image.Interaction.{Interaction}
use Rattle.estelle_model.specs.declared.job.Guard.{Guard}
use Rattle.estelle_model.specs.declared.job.Guard.TheVariants.{Off}
use Rattle.estelle_model.specs.States.{Logged, on_log}
use Rattle.estelle_model.specs.Steps.{Running, and_then, pure}
use Rattle.estelle_model.specs.Blocks.{fresh}
use Rattle.estelle_model.specs.Transitions.{Transition, Delay}
use Rattle.estelle_model.specs.Subject.{Subject, transition}
use Rattle.estelle_model.specs.Clauses.{provided_step, delay_step, at_once, answered}
use Rattle.estelle_model.specs.Firing.{is_in_state}
use Rattle.estelle_model.specs.Jobs.{instance_of}
use Rattle.estelle_model.specs.Computed.{core_of, log_from, values_of}
use Rattle.estelle_model.specs.Asked.{IsGuard, is_received, guard_run, guard_by, guard_for, guard_of_image}
use Rattle.estelle_model_answers.specs.Laws.{GuardsAreAnswered}
use Rattle.body_jobs.specs.Settled.{HasPart, is_bare, settled_on, settled}
use Rattle.body_jobs.proofs.AskedGuards.{guard_answers}

-- of what is bare nothing is evaluated
module _ (s : Subject) (p : Path) (t : Transition) (vs : List Value) (timed : Bool) where
  -- what a guard comes to, by its `provided` and its delay
  abbrev by_clauses : Option Expr → Option Delay → Running Logged → Guard
  by_clauses o d u = answered (and_then (provided_step Logged on_log s p t vs o u) (λ holds. cond holds (delay_step Logged on_log s p t vs timed d) (pure Off)))

  bare : (o : Option Expr) (d : Option Delay) (b : Bool) → timed ≡ b → (u : Running Logged) → (is_none o && (b || is_none d)) ≡ true → by_clauses o d u ≡ at_once Logged on_log s
  bare None None b is u e = refl
  bare None (Some d) true is u e = ap (λ c. answered (delay_step Logged on_log s p t vs c (Some d) u)) is
  bare None (Some d) false is u e = absurd (let wrong : false ≡ true = e in cc)
  bare (Some o) d b is u e = absurd (let wrong : false ≡ true = e in cc)

module _ (s : Subject) (p : Path) (image : Image) (head : Option Interaction) (timed : Bool) (budget : ℕ) where
  bare_run : (t : Transition) → is_bare timed t ≡ true → guard_run s p image head timed budget t ≡ at_once Logged on_log s
  bare_run t e = bare s p t (values_of head) timed t.provided t.delay timed refl (fresh (log_from (core_of s image)) budget) e

  by_transition : (part : Part) (o : Option Transition) → IfSome (settled_on s head timed part.state o) (λ answer. answer ≡ guard_by s p image head timed budget (instance_of part) o)
  by_transition part None = refl
  by_transition part (Some t) = by_state (is_in_state t.from part.state && is_received t.when head)
    where
      by_bare : (b : Bool) → is_bare timed t ≡ b → IfSome (cond b (Some (at_once Logged on_log s)) None) (λ answer. answer ≡ guard_run s p image head timed budget t)
      by_bare true e = sym (bare_run t e)
      by_bare false e = tt

      by_state : (b : Bool) → IfSome (cond b (cond (is_bare timed t) (Some (at_once Logged on_log s)) None) (Some Off)) (λ answer. answer ≡ cond b (guard_run s p image head timed budget t) Off)
      by_state true = by_bare (is_bare timed t) refl
      by_state false = refl

  pub settled_is : (part : Part) (n : ℕ) → HasPart s image p part → IfSome (settled s part n head timed) (λ answer. answer ≡ guard_of_image s p image n head timed budget)
  settled_is part n there = subst (λ o. IfSome (settled s part n head timed) (λ answer. answer ≡ guard_for s p image n head timed budget o)) (sym there) (by_transition part (transition s part.body n))

-- a transition that is enabled in the state and by the head, and bare
pub bare_here : (s : Subject) (head : Option Interaction) (timed : Bool) (state : Option ℕ) (t : Transition) (a b d : Bool) (g : Guard)
    → a ≡ is_in_state t.from state → b ≡ is_received t.when head → d ≡ is_bare timed t → a ≡ true → b ≡ true → d ≡ true → g ≡ at_once Logged on_log s → Some g ≡ settled_on s head timed state (Some t)
bare_here s head timed state t a b d g state_is head_is bare_is in_state received bare g_is =
    ap Some g_is ∙ (λ i. cond ((sym in_state ∙ state_is) i && (sym received ∙ head_is) i) (cond ((sym bare ∙ bare_is) i) (Some (at_once Logged on_log s)) None) (Some Off))

-- what is settled is the guard in each such situation
as_answer : (s : Subject) (p : Path) (image : Image) (n : ℕ) (head : Option Interaction) (timed : Bool) (budget : ℕ) → GuardsAreAnswered → (o : Option Guard)
    → IfSome o (λ answer. answer ≡ guard_of_image s p image n head timed budget) → IfSome o (λ answer. IsGuard s p image n head timed budget answer)
as_answer s p image n head timed budget law None h = tt
as_answer s p image n head timed budget law (Some answer) h = subst (λ g. IsGuard s p image n head timed budget g) (sym h) (guard_answers law s p image n head timed budget)

module _ (law : GuardsAreAnswered) (s : Subject) (part : Part) (n : ℕ) (head : Option Interaction) (timed : Bool) (o : Option Guard) (is : o ≡ settled s part n head timed) where
  pub computed_of : (p : Path) (image : Image) (budget : ℕ) → HasPart s image p part → IfSome o (λ answer. answer ≡ guard_of_image s p image n head timed budget)
  computed_of p image budget there = subst (λ o. IfSome o (λ answer. answer ≡ guard_of_image s p image n head timed budget)) (sym is) (settled_is s p image head timed budget part n there)

  pub answers_of : (p : Path) (image : Image) (budget : ℕ) → HasPart s image p part → IfSome o (λ answer. IsGuard s p image n head timed budget answer)
  answers_of p image budget there = as_answer s p image n head timed budget law o (computed_of p image budget there)
