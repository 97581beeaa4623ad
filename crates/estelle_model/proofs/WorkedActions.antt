-- Examples of how the statements of Estelle are refused, and of delays, over any state.
use Rattle.std.proofs.Common.{◌≡◌, ℕ, suc, true, false, [], pos, negsuc, Ok, Err, Some, None, refl}
use Rattle.std.specs.Prelude.{slice_get}
use Rattle.std.specs.FinMap as map
use Rattle.pascal_values.specs.declared.fault.Fault.TheVariants as fault
use Rattle.estelle_tree.specs.declared.tree.name.Name.{Name}
use Rattle.estelle_model.specs.declared.job.Guard.TheVariants.{On}
use Rattle.estelle_tree.specs.Paths.{Path}
use Rattle.estelle_model.specs.Core.{Instance}
use Rattle.estelle_model.specs.States.{Offers}
use Rattle.estelle_model.specs.Stops.{Faults}
use Rattle.estelle_model.specs.Steps.{Running}
use Rattle.estelle_model.specs.declared.meaning.Meaning.TheVariants.{Module, Ip}
use Rattle.estelle_model.specs.Meant.{Meanings}
use Rattle.estelle_model.specs.Places.{child_step}
use Rattle.estelle_model.specs.declared.place.Environment.{Environment}
use Rattle.estelle_model.specs.Calls.{nested}
use Rattle.estelle_model.specs.Subject.{Subject, child_of}
use Rattle.estelle_model.specs.InteractionPoints.{point, external_at, may_connect}
use Rattle.estelle_model.specs.Plans.{carry}
use Rattle.estelle_model.specs.Statements.{Connect, Detach}
use Rattle.estelle_model.specs.Actions.{at, is_bound, is_upper, may_hold, release, plan_of}
use Rattle.estelle_model.specs.Acts.{init, act}
use Rattle.estelle_model.specs.Clauses.{between, from_on}
use Rattle.estelle_model.proofs.Trees as tree
use Rattle.estelle_model.proofs.WorkedStatements.{spend_some}

module _ (S : Type 0) (on : Offers S) (subject : Subject) (meant : Meanings) (here : Environment) (s : Running S) where
  -- release x, where x is empty
  pub release_empty : (m : ℕ) (i : Instance) → map.get (on.core s.state).instances here.path ≡ Some i → slice_get i.module_variables m ≡ Some None → carry S on (release subject here.path (Module m)) s ≡ Err (Faults fault.NoModule, s.left)
  unfolding child_step
  release_empty m i there empty = simp (there, empty)

  -- init x with a body without parameters, where x holds an instance: the unit is taken
  pub init_taken : (m k n : ℕ) (i : Instance) (p : Path) → s.left ≡ suc n → map.get (on.core s.state).instances here.path ≡ Some i → slice_get i.module_variables m ≡ Some (Some p) → (child_of subject k).parameters ≡ []
      → may_hold subject i.body m k ≡ true
      → init S on subject meant (nested S on meant (act S on subject meant) 1) here.path m k [] s ≡ Err (Faults fault.ModuleTaken, n)
  init_taken m k n i p left there full none allowed = simp (there, full, none, allowed, spend_some s n left)

  -- connect p to q, where p is in a connection or a lower end
  pub connect_taken : (p q : Name) (k n : ℕ) → meant p ≡ Ip k → meant q ≡ Ip n → may_connect subject (on.core s.state).instances here.path (at here.path k) (at here.path n) ≡ true → is_bound (at here.path k) (on.core s.state).links ≡ true
      → carry S on (plan_of subject meant here.path (Connect (record { name = p; part = None; span = tree.nowhere }) (record { name = q; part = None; span = tree.nowhere })) []) s ≡ Err (Faults fault.LinkTaken, s.left)
  connect_taken p q k n is_p is_q allowed bound = simp (is_p, is_q, allowed, bound)

  -- detach p, where p is no upper end
  pub detach_absent : (p : Name) (k : ℕ) → meant p ≡ Ip k → external_at (point subject (on.core s.state).instances (at here.path k)) ≡ true → is_upper (at here.path k) (on.core s.state).links ≡ false → carry S on (plan_of subject meant here.path (Detach p) []) s ≡ Err (Faults fault.LinkAbsent, s.left)
  detach_absent p k is_p external free = simp (is_p, external, free)

  -- ---- delays

  pub delay_3_5 : between S on subject (pos 3) (pos 5) ≡ Ok (On 3 (Some 5))
  delay_3_5 = refl

  -- the second value is less than the first
  pub delay_3_2 : between S on subject (pos 3) (pos 2) ≡ Err (Faults fault.DelayRange)
  delay_3_2 = refl

  pub delay_negative : from_on S on subject (negsuc 0) ≡ Err (Faults fault.DelayRange)
  delay_negative = refl

  pub delay_too_long : between S on subject (pos 2147483648) (pos 2147483648) ≡ Err (Faults fault.DelayRange)
  delay_too_long = refl
