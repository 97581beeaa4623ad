-- A property of steps that plans and expressions have every statement of Estelle has.
use Rattle.std.proofs.Common.{◌≡◌, ℕ, suc, Bool, true, false, ◌&&◌, List, map, Err, Option, Some, None, refl}
use Rattle.std.specs.FinMap as fin
use Rattle.pascal_values.specs.declared.fault.Fault.TheVariants as fault
use Rattle.pascal_values.specs.declared.value.Value.{Value}
use Rattle.estelle_tree.specs.declared.tree.name.Name.{Name}
use Rattle.estelle_tree.specs.Paths.{Path, child}
use Rattle.estelle_model.specs.Belonging.{are_values_of}
use Rattle.estelle_model.specs.Core.{Instance}
use Rattle.estelle_model.specs.Effects.{Create}
use Rattle.estelle_model.specs.States.{Offers}
use Rattle.estelle_model.specs.Stops.{Stop, Faults, Broken}
use Rattle.estelle_model.specs.Steps.{Running, StepResult, Do, and_then, ◌>>=◌, ◌>>◌, checked_at, pure, spend}
use Rattle.estelle_model.specs.Plans.{Plan, Spends, stops_unless, carry}
use Rattle.estelle_model.specs.declared.meaning.Passing.TheVariants.{ByValue}
use Rattle.estelle_model.specs.declared.meaning.Routine.{Routine}
use Rattle.estelle_model.specs.declared.meaning.Meaning.{Meaning}
use Rattle.estelle_model.specs.declared.meaning.Meaning.TheVariants.{Module, Body}
use Rattle.estelle_model.specs.declared.place.Environment.{Environment}
use Rattle.estelle_model.specs.declared.place.ActualParameters.{ActualParameters}
use Rattle.estelle_model.specs.Meant.{Meanings}
use Rattle.estelle_model.specs.Subject.{Subject, child_of}
use Rattle.estelle_model.specs.Expressions.{Operand, give_all, no_arguments}
use Rattle.estelle_model.specs.Statements.{Statement, Init}
use Rattle.estelle_model.specs.Calls.{Enters}
use Rattle.estelle_model.specs.Actions.{or_no_module, may_hold, may_begin, begins_child, holds_child, given_types, plan_of}
use Rattle.estelle_model.specs.Acts.{create, init_of, act}
use Rattle.estelle_model.proofs.Kept.{Each, Has, IsClosed, OperandKept, give_all_kept, then_kept}
use Rattle.estelle_model.proofs.KeptStatements.{ActKept}
use Rattle.estelle_model.proofs.Carried.{Fits}
use Rattle.estelle_model.proofs.Stated.{IsBy, creates_changes, Any, stated, begins_fits, holds_fits, plan_fits}

module _ (S : Type 0) (Q : (A : Type 0) → Running S → StepResult S A → Type 0) where
  -- what enters a routine has the property, where the unit and what is done before it begins have it
  abbrev pub EntersKept : Enters S → Type 0
  EntersKept enters = (before : Do S) (p : Path) (r : Routine) (g : ActualParameters) (x : Running S) → Q (Unit {0}) x ((spend >> before) x) → Q Value x (enters before p r g x)

module _ (S : Type 0) (on : Offers S) (Q : (A : Type 0) → Running S → StepResult S A → Type 0) (s : Subject) (meant : Meanings) where
  -- each plan that fits has the property
  abbrev pub PlansKept : Type 1
  PlansKept = (p : Path) (st : Statement) (given : List Value) (plan : Plan (Unit {0})) (x : Running S) → Fits (stated s meant p st given) Any plan 0 (on.core x.state) → Q (Unit {0}) x (carry S on plan x)

module _ (S : Type 0) (on : Offers S) (s : Subject) where
  -- the instance that may begin a child is there, and the tests hold; else it stops
  pub begun_keeps : (p : Path) (v k : ℕ) (given : List Value) (rest : Instance → Do S) (x : Running S) (P : StepResult S (Unit {0}) → Type 0) → ((e : Stop) → P (Err (e, x.left)))
      → ((i : Instance) → fin.get (on.core x.state).instances p ≡ Some i → (may_hold s i.body v k && are_values_of (child_of s k).parameters given) ≡ true → P (rest i x)) → P ((carry S on (may_begin s p v k given) >>= rest) x)
  begun_keeps p v k given rest x P fails h = from (fin.get (on.core x.state).instances p) refl
    where
      tested : (i : Instance) → fin.get (on.core x.state).instances p ≡ Some i → (b : Bool) → (may_hold s i.body v k && are_values_of (child_of s k).parameters given) ≡ b
          → P (and_then (and_then (checked_at (stops_unless b Broken) x) (λ u. pure i)) rest)
      tested i there true is = h i there is
      tested i there false is = fails Broken

      from : (o : Option Instance) → fin.get (on.core x.state).instances p ≡ o
          → P (and_then (and_then (checked_at (or_no_module o) x) (λ i y. and_then (checked_at (stops_unless (may_hold s i.body v k && are_values_of (child_of s k).parameters given) Broken) y) (λ u. pure i))) rest)
      from None is = fails (Faults fault.NoModule)
      from (Some i) is = tested i is (may_hold s i.body v k && are_values_of (child_of s k).parameters given) refl

module _ (S : Type 0) (on : Offers S) (Q : (A : Type 0) → Running S → StepResult S A → Type 0) (closed : IsClosed S on Q) (s : Subject) (meant : Meanings) where
  given_keeps : (p : Path) (st : Statement) → ((given : List Value) → Has Q (carry S on (plan_of s meant p st given))) → (es : List (Operand S)) → Each (OperandKept S on Q closed) es → Has Q (give_all (map ByValue (given_types s meant st)) es no_arguments >>= λ g. carry S on (plan_of s meant p st g.values))
  given_keeps p st plan es h = then_kept S on Q closed ActualParameters (Unit {0}) (give_all (map ByValue (given_types s meant st)) es no_arguments) (λ g. carry S on (plan_of s meant p st g.values))
      (give_all_kept S on Q closed (map ByValue (given_types s meant st)) es no_arguments h) (λ g. plan g.values)

  -- where `init` has it, and the plan of each other statement, all have it
  pub acts_by : (enters : Enters S) (here : Environment) → ((x b : Name) (es : List (Operand S)) → Each (OperandKept S on Q closed) es → Has Q (init_of S on s meant enters here.path (meant x) (meant b) es))
      → ((st : Statement) (given : List Value) → Has Q (carry S on (plan_of s meant here.path st given))) → ActKept S on Q closed (act S on s meant enters) here
  unfolding act
  acts_by enters here begins plan (Init x b) es h = begins x b es h
  acts_by enters here begins plan st es h = given_keeps here.path st (plan st) es h

module _ (S : Type 0) (on : Offers S) (Q : (A : Type 0) → Running S → StepResult S A → Type 0) (closed : IsClosed S on Q) (s : Subject) (meant : Meanings) (plans : PlansKept S on Q s meant) where
  -- ---- init, where what it enters has the property

  pub init_of_keeps : (enters : Enters S) → EntersKept S Q enters → (p : Path) (st : Statement) → ((q : Path) (j : ℕ) (z : Instance) → IsBy st (Create q j z)) → (x b : Meaning) (es : List (Operand S)) → Each (OperandKept S on Q closed) es → Has Q (init_of S on s meant enters p x b es)
  init_of_keeps enters into p st begins (Module v) (Body k) es h = then_kept S on Q closed ActualParameters (Unit {0}) (give_all (map ByValue (child_of s k).parameters) es no_arguments) (λ g. carry S on (may_begin s p v k g.values) >>= λ i. create S on s meant enters p v (child_of s k) g.values i)
      (give_all_kept S on Q closed (map ByValue (child_of s k).parameters) es no_arguments h)
      (λ g x. begun_keeps S on s p v k g.values (λ i. create S on s meant enters p v (child_of s k) g.values i) x (Q (Unit {0}) x) (λ e. closed.stop (Unit {0}) e x)
      (λ i there allowed.
      let plan : Plan (Unit {0}) = begins_child s p v i ((child_of s k).with_parameters g.values) in
      let c : Path = child p (suc i.births) in
      closed.then Value (Unit {0}) x (enters (carry S on plan) c (child_of s k).block no_arguments x) (λ ran. carry S on (holds_child s p v (child_of s k).to c))
      (into (carry S on plan) c (child_of s k).block no_arguments x (plans p st g.values (Spends plan) x (begins_fits s meant p st g.values begins v k i 0 (on.core x.state) there allowed)))
      (λ ran y. plans p st g.values (holds_child s p v (child_of s k).to c) y (holds_fits s meant p st g.values (creates_changes st p 0 i (begins p 0 i)) v (suc i.births) (child_of s k).to 0 (on.core y.state)))))
  init_of_keeps enters into p st begins (Module v) _ es h = closed.stop (Unit {0}) Broken
  init_of_keeps enters into p st begins _ b es h = closed.stop (Unit {0}) Broken

  -- every statement of Estelle has the property
  pub act_keeps : (enters : Enters S) → EntersKept S Q enters → (here : Environment) → ActKept S on Q closed (act S on s meant enters) here
  act_keeps enters into here = acts_by S on Q closed s meant enters here (λ x b. init_of_keeps enters into here.path (Init x b) (λ q j z. tt) (meant x) (meant b))
      (λ st given x. plans here.path st given (plan_of s meant here.path st given) x (plan_fits s meant here.path st given 0 (on.core x.state)))
