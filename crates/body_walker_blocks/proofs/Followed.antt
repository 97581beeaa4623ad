-- One step after another.
use Rattle.std.proofs.Common.{◌≡◌, ◌∙◌, refl, sym, ap, subst, Result, Ok, Err}
use Rattle.estelle_model.specs.Stops as model
use Rattle.estelle_model.specs.Steps.{Running, StepResult, Step, and_then, ◌>>=◌, pure, checked_at, checked}
use Rattle.body_values.specs.declared.stop.Stop.{Stop}
use Rattle.body_values.specs.declared.stop.Stop.TheVariants as stop
use Rattle.body_values.specs.Gives.{Gives}
use Rattle.body_state.specs.Follows.{Leads}

-- ---- the laws of steps

module _ {S A : Type 0} where
  end_pure : (o : StepResult S A) → and_then o (λ a. pure a) ≡ o
  end_pure (Ok r) = refl
  end_pure (Err e) = refl

  pub then_pure : (p : Step S A) → (p >>= λ a. pure a) ≡ p
  then_pure p = λ i s. end_pure (p s) i

module _ {S A B C : Type 0} (f : A → Step S B) (g : B → Step S C) where
  end_then : (o : StepResult S A) → and_then (and_then o f) g ≡ and_then o (λ a. f a >>= g)
  end_then (Ok r) = refl
  end_then (Err e) = refl

  pub then_then : (p : Step S A) → (p >>= f >>= g) ≡ (p >>= λ a. f a >>= g)
  then_then p = λ i s. end_then (p s) i

-- ---- what follows a step

module _ {S A : Type 0} where
  pub follows_as : (p q : Step S A) (s : Running S) (r : Result A Stop) (t : Running S) → p ≡ q → Leads q s r t → Leads p s r t
  follows_as p q s r t e h = subst (λ (x : Step S A). Leads x s r t) (sym e) h

  pub follows_checked : (x : Result A model.Stop) (r : Result A Stop) (s : Running S) → Gives x r → Leads (checked x) s r s
  follows_checked x (Ok a) s h = ap (λ y. checked_at y s) h
  follows_checked x (Err (stop.Fault f)) s h = ap (λ y. checked_at y s) h
  follows_checked x (Err stop.Broken) s h = ap (λ y. checked_at y s) h
  follows_checked x (Err stop.Memory) s h = tt

  pub follows_outcome : (p : Step S A) (s : Running S) (r : Result A Stop) (t : Running S) (q : Step S A) (u : Running S) → p s ≡ q u → Leads q u r t → Leads p s r t
  follows_outcome p s (Ok a) t q u e h = e ∙ h
  follows_outcome p s (Err (stop.Fault f)) t q u e h = e ∙ h
  follows_outcome p s (Err stop.Broken) t q u e h = e ∙ h
  follows_outcome p s (Err stop.Memory) t q u e h = tt

module _ {S A B : Type 0} (p : Step S A) (f : A → Step S B) where
  pub follows_then : (s t u : Running S) (a : A) (r : Result B Stop) → p s ≡ Ok (a, t) → Leads (f a) t r u → Leads (p >>= f) s r u
  follows_then s t u a (Ok b) e h = ap (λ o. and_then o f) e ∙ h
  follows_then s t u a (Err (stop.Fault g)) e h = ap (λ o. and_then o f) e ∙ h
  follows_then s t u a (Err stop.Broken) e h = ap (λ o. and_then o f) e ∙ h
  follows_then s t u a (Err stop.Memory) e h = tt

  pub follows_stops : (s t : Running S) (e : Stop) → Leads p s (Err e) t → Leads (p >>= f) s (Err e) t
  follows_stops s t (stop.Fault g) h = ap (λ o. and_then o f) h
  follows_stops s t stop.Broken h = ap (λ o. and_then o f) h
  follows_stops s t stop.Memory h = tt

module _ {S A B : Type 0} (x : Result A model.Stop) (f : A → Step S B) where
  pub follows_given : (s u : Running S) (a : A) (r : Result B Stop) → x ≡ Ok a → Leads (f a) s r u → Leads (checked x >>= f) s r u
  follows_given s u a r e h = follows_then (checked x) f s s u a r (ap (λ y. checked_at y s) e) h

  pub follows_refused : (s : Running S) (e : Stop) → Gives x (Err e) → Leads (checked x >>= f) s (Err e) s
  follows_refused s e h = follows_stops (checked x) f s s e (follows_checked x (Err e) s h)
