-- What is left on the stack of a unit, as a truth value and as a delay.
use Rattle.std.proofs.Common.{◌≡◌, Bool, List, [], ◌∷◌, Option, Some, None, Result, Ok, Err, refl, sym, subst}
use Rattle.pascal_values.specs.declared.value.Value.{Value}
use Rattle.estelle_tree.specs.declared.tree.expression.Expr.{Expr}
use Rattle.estelle_tree.specs.declared.tree.clause.DelayHigh.{DelayHigh}
use Rattle.estelle_tree.specs.declared.tree.clause.DelayHigh.TheVariants as high
use Rattle.estelle_model.specs.declared.job.Guard.{Guard}
use Rattle.estelle_model.specs.States.{Logged, on_log}
use Rattle.estelle_model.specs.Steps.{Running, Step, ◌>>=◌, checked}
use Rattle.estelle_model.specs.Operators.{bool_of}
use Rattle.estelle_model.specs.Expressions.{bool_step}
use Rattle.estelle_model.specs.Clauses.{from_one, from_both}
use Rattle.estelle_model.specs.Subject.{Subject}
use Rattle.body_values.specs.declared.stop.Stop.{Stop}
use Rattle.body_values.specs.Gives.{Gives}
use Rattle.body_state.specs.Follows.{Leads}
use Rattle.body_state.proofs.FollowLemmas.{follows_as, follows_checked, follows_then, follows_stops}
use Rattle.body_machine.specs.declared.item.Item.{Item}
use Rattle.body_machine.specs.declared.item.Item.TheVariants.{Datum, Spot}
use Rattle.body_machine_meaning.specs.Executed.{value_left, delay_left}

-- ---- a truth value

pub truth_ok : (items : List Item) (u : Running Logged) (v : Value) (r : Result Bool Stop) → Leads (value_left items) u (Ok v) u → Gives (bool_of v) r → Leads (bool_step (value_left items)) u r u
truth_ok items u v r h g = follows_then (value_left items) (λ v. checked (bool_of v)) u u u v r h (follows_checked (bool_of v) r u g)

pub truth_err : (items : List Item) (u : Running Logged) (e : Stop) → Leads (value_left items) u (Err e) u → Leads (bool_step (value_left items)) u (Err e) u
truth_err items u e h = follows_stops (value_left items) (λ v. checked (bool_of v)) u u e h

-- ---- a delay

module _ (s : Subject) (items : List Item) (u : Running Logged) where
  abbrev just : Value → Step Logged Guard
  just v = checked (from_both Logged on_log s v v)

  abbrev onward : Value → Step Logged Guard
  onward v = checked (from_one Logged on_log s v)

  just_is : (xs : List Item) → delay_left s None xs u ≡ (value_left xs >>= just) u
  just_is [] = refl
  just_is (Datum v ∷ []) = refl
  just_is (Datum v ∷ (i ∷ xs)) = refl
  just_is (Spot p ∷ xs) = refl

  onward_is : (xs : List Item) → delay_left s (Some high.Star) xs u ≡ (value_left xs >>= onward) u
  onward_is [] = refl
  onward_is (Datum v ∷ []) = refl
  onward_is (Datum v ∷ (i ∷ xs)) = refl
  onward_is (Spot p ∷ xs) = refl

  pub just_ok : (o : Option DelayHigh) (v : Value) (r : Result Guard Stop) → o ≡ None → Leads (value_left items) u (Ok v) u → Gives (from_both Logged on_log s v v) r → Leads (delay_left s o items) u r u
  just_ok o v r is h g = subst (λ o. Leads (delay_left s o items) u r u) (sym is)
      (follows_as (delay_left s None items) (value_left items >>= just) u u r (just_is items) (follows_then (value_left items) just u u u v r h (follows_checked (from_both Logged on_log s v v) r u g)))

  pub just_err : (o : Option DelayHigh) (e : Stop) → o ≡ None → Leads (value_left items) u (Err e) u → Leads (delay_left s o items) u (Err e) u
  just_err o e is h = subst (λ o. Leads (delay_left s o items) u (Err e) u) (sym is)
      (follows_as (delay_left s None items) (value_left items >>= just) u u (Err e) (just_is items) (follows_stops (value_left items) just u u e h))

  pub onward_ok : (o : DelayHigh) (v : Value) (r : Result Guard Stop) → o ≡ high.Star → Leads (value_left items) u (Ok v) u → Gives (from_one Logged on_log s v) r → Leads (delay_left s (Some o) items) u r u
  onward_ok o v r is h g = subst (λ o. Leads (delay_left s (Some o) items) u r u) (sym is)
      (follows_as (delay_left s (Some high.Star) items) (value_left items >>= onward) u u r (onward_is items) (follows_then (value_left items) onward u u u v r h (follows_checked (from_one Logged on_log s v) r u g)))

  pub onward_err : (o : DelayHigh) (e : Stop) → o ≡ high.Star → Leads (value_left items) u (Err e) u → Leads (delay_left s (Some o) items) u (Err e) u
  onward_err o e is h = subst (λ o. Leads (delay_left s (Some o) items) u (Err e) u) (sym is)
      (follows_as (delay_left s (Some high.Star) items) (value_left items >>= onward) u u (Err e) (onward_is items) (follows_stops (value_left items) onward u u e h))

-- the second value lies above the first one
module _ (s : Subject) (e : Expr) (items : List Item) (w : Value) (u : Running Logged) where
  abbrev up_to : Value → Step Logged Guard
  up_to v = checked (from_both Logged on_log s v w)

  up_to_is : (xs : List Item) → delay_left s (Some (high.Expr e)) (Datum w ∷ xs) u ≡ (value_left xs >>= up_to) u
  up_to_is [] = refl
  up_to_is (Datum v ∷ []) = refl
  up_to_is (Datum v ∷ (i ∷ xs)) = refl
  up_to_is (Spot p ∷ xs) = refl

  pub between_ok : (all : List Item) (v : Value) (r : Result Guard Stop) → all ≡ Datum w ∷ items → Leads (value_left items) u (Ok v) u → Gives (from_both Logged on_log s v w) r → Leads (delay_left s (Some (high.Expr e)) all) u r u
  between_ok all v r is h g = subst (λ xs. Leads (delay_left s (Some (high.Expr e)) xs) u r u) (sym is)
      (follows_as (delay_left s (Some (high.Expr e)) (Datum w ∷ items)) (value_left items >>= up_to) u u r (up_to_is items) (follows_then (value_left items) up_to u u u v r h (follows_checked (from_both Logged on_log s v w) r u g)))

  pub between_err : (all : List Item) (f : Stop) → all ≡ Datum w ∷ items → Leads (value_left items) u (Err f) u → Leads (delay_left s (Some (high.Expr e)) all) u (Err f) u
  between_err all f is h = subst (λ xs. Leads (delay_left s (Some (high.Expr e)) xs) u (Err f) u) (sym is)
      (follows_as (delay_left s (Some (high.Expr e)) (Datum w ∷ items)) (value_left items >>= up_to) u u (Err f) (up_to_is items) (follows_stops (value_left items) up_to u u f h))

-- the second value as it is written
module _ (s : Subject) (items : List Item) (u : Running Logged) (r : Result Guard Stop) where
  pub as_expr : (o : DelayHigh) (e : Expr) → o ≡ high.Expr e → Leads (delay_left s (Some (high.Expr e)) items) u r u → Leads (delay_left s (Some o) items) u r u
  as_expr o e is h = subst (λ o. Leads (delay_left s (Some o) items) u r u) (sym is) h

  pub as_written : (o : Option DelayHigh) (later : DelayHigh) → o ≡ Some later → Leads (delay_left s (Some later) items) u r u → Leads (delay_left s o items) u r u
  as_written o later is h = subst (λ o. Leads (delay_left s o items) u r u) (sym is) h
