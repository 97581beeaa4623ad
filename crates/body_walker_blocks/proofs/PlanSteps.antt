-- Plans of the model on a log: one after another.
use Rattle.std.proofs.Common.{◌≡◌, ◌∙◌, ℕ, Result, Ok, Err, refl, sym, subst}
use Rattle.estelle_tree.specs.Paths.{Path}
use Rattle.estelle_model.specs.Core.{Core}
use Rattle.estelle_model.specs.declared.meaning.Meaning.{Meaning}
use Rattle.estelle_model.specs.declared.meaning.Meaning.TheVariants.{Module}
use Rattle.estelle_model.specs.States.{Logged, on_log}
use Rattle.estelle_model.specs.Stops as model
use Rattle.estelle_model.specs.Steps.{Running, StepResult, and_then, checked_at, pure}
use Rattle.estelle_model.specs.Plans.{Plan, ◌>>=◌, reads}
use Rattle.estelle_model.specs.Places.{child_at, child_step}
use Rattle.estelle_model.specs.Subject.{Subject}
use Rattle.estelle_model.specs.Actions.{child_in}
use Rattle.estelle_model.proofs.Carried.{carry_then}
use Rattle.body_values.specs.declared.stop.Stop.{Stop}
use Rattle.body_values.specs.declared.stop.Stop.TheVariants as stop
use Rattle.body_state.specs.Progress.{Progress, running}
use Rattle.body_state.specs.Follows.{Follows, carried}

-- the one, and then the other with its value
abbrev pub follow : {A B : Type 0} → Plan A → (A → Plan B) → Plan B
follow p f = p >>= f

-- one plan and then another is the one step and then the other
pub carried_then : {A B : Type 0} (p : Plan A) (f : A → Plan B) → carried (follow p f) ≡ (λ s. and_then (carried p s) (λ a. carried (f a)))
carried_then p f = λ i s. carry_then Logged on_log p f s i

-- what is read, and no more
read_only : {A : Type 0} (x : Result A model.Stop) (s : Running Logged) → and_then (checked_at x s) (λ a. pure a) ≡ checked_at x s
read_only (Ok a) s = refl
read_only (Err e) s = refl

-- the child that a module variable holds
pub child_follows : (s : Subject) (p : Path) (x : Meaning) (m : ℕ) (w : Progress) (r : Result Path Stop) → x ≡ Module m → Follows (child_step Logged on_log p m) w r w → Follows (carried (child_in s p x)) w r w
unfolding child_step
child_follows s p x m w r is h = subst (λ (y : Meaning). Follows (carried (child_in s p y)) w r w) (sym is) (by r h)
  where
    by : (r : Result Path Stop) → Follows (child_step Logged on_log p m) w r w → Follows (carried (reads (child_at p m))) w r w
    by (Ok q) e = read_only (child_at p m (running w).state.image) (running w) ∙ e
    by (Err (stop.Fault f)) e = read_only (child_at p m (running w).state.image) (running w) ∙ e
    by (Err stop.Broken) e = read_only (child_at p m (running w).state.image) (running w) ∙ e
    by (Err stop.Memory) e = tt
