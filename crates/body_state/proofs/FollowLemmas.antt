-- What follows a step that is made of others.
use Rattle.std.proofs.Common.{◌≡◌, Result, Ok, Err, ap, ◌∙◌}
use Rattle.body_values.specs.declared.stop.Stop.{Stop}
use Rattle.body_values.specs.declared.stop.Stop.TheVariants as stop
use Rattle.body_values.specs.Gives.{Gives}
use Rattle.estelle_model.specs.Stops as model
use Rattle.estelle_model.specs.Steps.{Running, Step, and_then, ◌>>=◌, ◌>>◌, checked_at, checked}
use Rattle.body_state.specs.Follows.{Leads}

module _ {S A : Type 0} where
  -- a step that does the same here
  pub follows_as : (p q : Step S A) (s t : Running S) (r : Result A Stop) → p s ≡ q s → Leads q s r t → Leads p s r t
  follows_as p q s t (Ok a) e h = e ∙ h
  follows_as p q s t (Err (stop.Fault f)) e h = e ∙ h
  follows_as p q s t (Err stop.Broken) e h = e ∙ h
  follows_as p q s t (Err stop.Memory) e h = tt

  -- an operation on values leaves the state as it is
  pub follows_checked : (w : Result A model.Stop) (r : Result A Stop) (s : Running S) → Gives w r → Leads (checked w) s r s
  follows_checked w (Ok a) s h = ap (λ x. checked_at x s) h
  follows_checked w (Err (stop.Fault f)) s h = ap (λ x. checked_at x s) h
  follows_checked w (Err stop.Broken) s h = ap (λ x. checked_at x s) h
  follows_checked w (Err stop.Memory) s h = tt

  -- and so a step that is one here
  pub follows_gives : (p : Step S A) (w : Result A model.Stop) (r : Result A Stop) (s : Running S) → p s ≡ checked_at w s → Gives w r → Leads p s r s
  follows_gives p w r s e h = follows_as p (checked w) s s r e (follows_checked w r s h)

module _ {S A B : Type 0} where
  -- the second step, after the first one
  pub follows_then : (p : Step S A) (f : A → Step S B) (s u t : Running S) (a : A) (r : Result B Stop) → Leads p s (Ok a) u → Leads (f a) u r t → Leads (p >>= f) s r t
  follows_then p f s u t a r h k = follows_as (p >>= f) (λ x. f a u) s t r (ap (λ o. and_then o f) h) (onward r k)
    where
      onward : (r : Result B Stop) → Leads (f a) u r t → Leads (λ x. f a u) s r t
      onward (Ok b) k = k
      onward (Err (stop.Fault f)) k = k
      onward (Err stop.Broken) k = k
      onward (Err stop.Memory) k = tt

  -- the first step stops
  pub follows_stops : (p : Step S A) (f : A → Step S B) (s t : Running S) (e : Stop) → Leads p s (Err e) t → Leads (p >>= f) s (Err e) t
  follows_stops p f s t (stop.Fault g) h = ap (λ o. and_then o f) h
  follows_stops p f s t stop.Broken h = ap (λ o. and_then o f) h
  follows_stops p f s t stop.Memory h = tt

  pub follows_next : (p : Step S A) (q : Step S B) (s u t : Running S) (a : A) (r : Result B Stop) → Leads p s (Ok a) u → Leads q u r t → Leads (p >> q) s r t
  follows_next p q s u t a r h k = follows_then p (λ _. q) s u t a r h k

  pub follows_stops_next : (p : Step S A) (q : Step S B) (s t : Running S) (e : Stop) → Leads p s (Err e) t → Leads (p >> q) s (Err e) t
  follows_stops_next p q s t e h = follows_stops p (λ _. q) s t e h

pub ruleset follows = (follows_checked, follows_then, follows_stops, follows_next, follows_stops_next)
