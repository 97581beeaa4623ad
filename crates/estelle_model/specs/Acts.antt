-- What the statements of Estelle do in a state: their arguments, and then their plans (ISO/IEC 9074).
use Rattle.std.specs.Prelude.{ℕ, suc, List, map}
use Rattle.pascal_values.specs.declared.value.Value.{Value}
use Rattle.estelle_tree.specs.Paths.{Path, child}
use Rattle.estelle_model.specs.Core.{Instance}
use Rattle.estelle_model.specs.States.{Offers}
use Rattle.estelle_model.specs.Steps.{Do, ◌>>=◌, breaks}
use Rattle.estelle_model.specs.Plans.{carry}
use Rattle.estelle_model.specs.declared.meaning.Passing.TheVariants.{ByValue}
use Rattle.estelle_model.specs.declared.meaning.Meaning.{Meaning}
use Rattle.estelle_model.specs.declared.meaning.Meaning.TheVariants.{Module, Body}
use Rattle.estelle_model.specs.declared.place.Environment.{Environment}
use Rattle.estelle_model.specs.Meant.{Meanings}
use Rattle.estelle_model.specs.Subject.{Subject, Child, child_of}
use Rattle.estelle_model.specs.Expressions.{Operand, give_all, no_arguments}
use Rattle.estelle_model.specs.Statements.{Statement, Init}
use Rattle.estelle_model.specs.Calls.{Enters}
use Rattle.estelle_model.specs.Actions.{may_begin, begins_child, holds_child, given_types, plan_of}

module _ (S : Type 0) (on : Offers S) (subject : Subject) (meant : Meanings) (enters : Enters S) where
  -- the child is made behind the unit and the depth, runs its initialization, and is held
  abbrev pub create : Path → ℕ → Child → List Value → Instance → Do S
  create p m new values i = do
    ran ← enters (carry S on (begins_child subject p m i (new.with_parameters values))) (child p (suc i.births)) new.block no_arguments
    carry S on (holds_child subject p m new.to (child p (suc i.births)))

  -- the arguments come first
  abbrev pub init : Path → ℕ → ℕ → List (Operand S) → Do S
  init p m k es = do
    given ← give_all (map ByValue (child_of subject k).parameters) es no_arguments
    i ← carry S on (may_begin subject p m k given.values)
    create p m (child_of subject k) given.values i

  abbrev pub init_of : Path → Meaning → Meaning → List (Operand S) → Do S
  init_of p (Module m) (Body k) es = init p m k es
  init_of p x b es = breaks

  -- what a statement of Estelle does: its arguments come first
  unfoldable pub act : Environment → Statement → List (Operand S) → Do S
  act here (Init x b) es = init_of here.path (meant x) (meant b) es
  act here st es = give_all (map ByValue (given_types subject meant st)) es no_arguments >>= λ given. carry S on (plan_of subject meant here.path st given.values)
