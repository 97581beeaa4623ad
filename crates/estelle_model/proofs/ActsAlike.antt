-- The statements of Estelle do alike on two states that each effect and each change keeps related.
use Rattle.std.proofs.Common.{◌≡◌, ℕ, suc, true, ◌&&◌, List, map, Ok, Err, Some, subst}
use Rattle.std.specs.FinMap as fin
use Rattle.pascal_values.specs.declared.value.Value.{Value}
use Rattle.estelle_tree.specs.Paths.{Path, child, is_inside}
use Rattle.estelle_model.specs.Belonging.{are_values_of}
use Rattle.estelle_model.specs.Core.{Instance, Core}
use Rattle.estelle_model.specs.Effects.{Create}
use Rattle.estelle_model.specs.States.{Offers}
use Rattle.estelle_model.specs.Stops.{Broken}
use Rattle.estelle_model.specs.Steps.{Running, StepResult, Do, and_then, ◌>>=◌}
use Rattle.estelle_model.specs.Plans.{Plan, Spends, carry}
use Rattle.estelle_model.specs.declared.meaning.Passing.TheVariants.{ByValue}
use Rattle.estelle_model.specs.declared.meaning.Meaning.{Meaning}
use Rattle.estelle_model.specs.declared.meaning.Meaning.TheVariants.{Module, Body}
use Rattle.estelle_model.specs.declared.place.ActualParameters.{ActualParameters}
use Rattle.estelle_model.specs.Meant.{Meanings}
use Rattle.estelle_model.specs.Subject.{Subject, child_of}
use Rattle.estelle_model.specs.Expressions.{Operand, give_all, no_arguments}
use Rattle.estelle_model.specs.Statements.{Statement, Init}
use Rattle.estelle_model.specs.Calls.{Enters}
use Rattle.estelle_model.specs.Actions.{may_hold, may_begin, begins_child, holds_child, given_types, plan_of}
use Rattle.estelle_model.specs.Acts.{create, init, init_of, act}
use Rattle.estelle_model.proofs.Alike.{Same, EachAlike, RunningAlike, OutcomeAlike, DoAlike, and_then_alike, then_alike, stop_alike}
use Rattle.estelle_model.proofs.AlikeOperands.{GivenAlike, OperandAlike, give_all_alike}
use Rattle.estelle_model.proofs.AlikeCalls.{EntersAlike, ActsAlike}
use Rattle.estelle_model.proofs.PrivateParts.{child_inside}
use Rattle.estelle_model.proofs.Carried.{Fits, KeepsRelated, CarriedAlike, forget, carried_alike}
use Rattle.estelle_model.proofs.Stated.{IsBy, creates_changes, Any, stated, may_begin_fits, begins_fits, holds_fits, plan_fits}

module _ (S T : Type 0) (on : Offers S) (on' : Offers T) (m : Path) (R : S → T → Type 0) (s : Subject) (meant : Meanings)
    (keeps : (p : Path) → is_inside m p ≡ true → (st : Statement) (given : List Value) → KeepsRelated (stated s meant p st given) S T on on' R) where
  -- a plan that fits does alike
  pub plan_alike : (p : Path) → is_inside m p ≡ true → (st : Statement) (given : List Value) (plan : Plan (Unit {0})) → ((c : Core) → Fits (stated s meant p st given) Any plan 0 c) → DoAlike S T R (carry S on plan) (carry T on' plan)
  plan_alike p inside st given plan fits x y r = forget (stated s meant p st given) S T on on' R Any (carry S on plan x) (carry T on' plan y)
      (carried_alike (stated s meant p st given) S T on on' R (keeps p inside st given) Any plan 0 x y r (fits (on.core x.state)))

  module _ (enters : Enters S) (enters' : Enters T) (into : EntersAlike S T on on' m R enters enters') where
    -- the child begins, runs, and is held
    made_alike : (p : Path) → is_inside m p ≡ true → (st : Statement) → ((q : Path) (j : ℕ) (z : Instance) → IsBy st (Create q j z)) → (v k : ℕ) (given : List Value) (i : Instance) (x : Running S) (y : Running T) → RunningAlike S T R x y
        → fin.get (on.core x.state).instances p ≡ Some i → (may_hold s i.body v k && are_values_of (child_of s k).parameters given) ≡ true
        → OutcomeAlike S T R (Same {A = Unit {0}})
        (create S on s meant enters p v (child_of s k) given i x)
        (create T on' s meant enters' p v (child_of s k) given i y)
    made_alike p inside st begins v k given i x y r there allowed =
        let plan : Plan (Unit {0}) = begins_child s p v i ((child_of s k).with_parameters given) in
        let c : Path = child p (suc i.births) in
        let asks = stated s meant p st given in
        and_then_alike S T R (Same {A = Value}) (Same {A = Unit {0}}) (enters (carry S on plan) c (child_of s k).block no_arguments x) (enters' (carry T on' plan) c (child_of s k).block no_arguments y)
        (λ ran. carry S on (holds_child s p v (child_of s k).to c)) (λ ran. carry T on' (holds_child s p v (child_of s k).to c))
        (into (carry S on plan) (carry T on' plan) c (child_inside m p (suc i.births) inside) (child_of s k).block no_arguments tt x y r
        (forget asks S T on on' R Any (carry S on (Spends plan) x) (carry T on' (Spends plan) y) (carried_alike asks S T on on' R (keeps p inside st given) Any (Spends plan) 0 x y r (begins_fits s meant p st given begins v k i 0 (on.core x.state) there allowed))))
        (λ a b same. plan_alike p inside st given (holds_child s p v (child_of s k).to c) (λ d. holds_fits s meant p st given (creates_changes st p 0 i (begins p 0 i)) v (suc i.births) (child_of s k).to 0 d))

    init_alike : (p : Path) → is_inside m p ≡ true → (st : Statement) → ((q : Path) (j : ℕ) (z : Instance) → IsBy st (Create q j z)) → (v k : ℕ) (es : List (Operand S)) (fs : List (Operand T)) → EachAlike (OperandAlike S T on on' m R) es fs → DoAlike S T R (init S on s meant enters p v k es) (init T on' s meant enters' p v k fs)
    init_alike p inside st begins v k es fs alike =
        let rest : ActualParameters → Do S = λ g. carry S on (may_begin s p v k g.values) >>= λ i. create S on s meant enters p v (child_of s k) g.values i in
        let rest' : ActualParameters → Do T = λ g. carry T on' (may_begin s p v k g.values) >>= λ i. create T on' s meant enters' p v (child_of s k) g.values i in
        then_alike S T R (GivenAlike m) (Same {A = Unit {0}}) (give_all (map ByValue (child_of s k).parameters) es no_arguments) (give_all (map ByValue (child_of s k).parameters) fs no_arguments) rest rest'
        (give_all_alike S T on on' m R (map ByValue (child_of s k).parameters) es fs no_arguments alike tt)
        (λ g j gj. subst (λ (d : ActualParameters). DoAlike S T R (rest g) (rest' d)) gj.0 (begun g))
      where
        PostOf : ActualParameters → Instance → Core → Type 0
        PostOf g i d = (fin.get d.instances p ≡ Some i) × ((may_hold s i.body v k && are_values_of (child_of s k).parameters g.values) ≡ true)

        begun : (g : ActualParameters) → DoAlike S T R
            (carry S on (may_begin s p v k g.values) >>= λ i. create S on s meant enters p v (child_of s k) g.values i)
            (carry T on' (may_begin s p v k g.values) >>= λ i. create T on' s meant enters' p v (child_of s k) g.values i)
        begun g x y r = go (carry S on (may_begin s p v k g.values) x) (carry T on' (may_begin s p v k g.values) y)
            (carried_alike (stated s meant p st g.values) S T on on' R (keeps p inside st g.values) (PostOf g) (may_begin s p v k g.values) 0 x y r (may_begin_fits s meant p st g.values v k 0 (on.core x.state)))
          where
            go : (o : StepResult S Instance) (o' : StepResult T Instance) → CarriedAlike (stated s meant p st g.values) S T on on' R (PostOf g) o o' → OutcomeAlike S T R (Same {A = Unit {0}})
                (and_then o (λ i. create S on s meant enters p v (child_of s k) g.values i))
                (and_then o' (λ i. create T on' s meant enters' p v (child_of s k) g.values i))
            go (Ok a) (Ok b) h = subst (λ (j : Instance). OutcomeAlike S T R (Same {A = Unit {0}})
                (create S on s meant enters p v (child_of s k) g.values a.0 a.1)
                (create T on' s meant enters' p v (child_of s k) g.values j b.1)) h.0
                (made_alike p inside st begins v k g.values a.0 a.1 b.1 h.1 h.2.0 h.2.1)
            go (Err e) (Err f) h = h
            go (Ok a) (Err f) h = absurd h
            go (Err e) (Ok b) h = absurd h

    init_of_alike : (p : Path) → is_inside m p ≡ true → (st : Statement) → ((q : Path) (j : ℕ) (z : Instance) → IsBy st (Create q j z)) → (x b : Meaning) (es : List (Operand S)) (fs : List (Operand T)) → EachAlike (OperandAlike S T on on' m R) es fs → DoAlike S T R (init_of S on s meant enters p x b es) (init_of T on' s meant enters' p x b fs)
    init_of_alike p inside st begins (Module v) (Body k) es fs alike = init_alike p inside st begins v k es fs alike
    init_of_alike p inside st begins (Module v) _ es fs alike = stop_alike S T R (Same {A = Unit {0}}) Broken
    init_of_alike p inside st begins _ b es fs alike = stop_alike S T R (Same {A = Unit {0}}) Broken

    planned : (p : Path) → is_inside m p ≡ true → (st : Statement) (es : List (Operand S)) (fs : List (Operand T)) → EachAlike (OperandAlike S T on on' m R) es fs → DoAlike S T R
        (give_all (map ByValue (given_types s meant st)) es no_arguments >>= λ g. carry S on (plan_of s meant p st g.values)) (give_all (map ByValue (given_types s meant st)) fs no_arguments >>= λ g. carry T on' (plan_of s meant p st g.values))
    planned p inside st es fs alike = then_alike S T R (GivenAlike m) (Same {A = Unit {0}}) (give_all (map ByValue (given_types s meant st)) es no_arguments) (give_all (map ByValue (given_types s meant st)) fs no_arguments) (λ g. carry S on (plan_of s meant p st g.values)) (λ g. carry T on' (plan_of s meant p st g.values))
        (give_all_alike S T on on' m R (map ByValue (given_types s meant st)) es fs no_arguments alike tt)
        (λ g j gj. subst (λ (d : ActualParameters). DoAlike S T R (carry S on (plan_of s meant p st g.values)) (carry T on' (plan_of s meant p st d.values))) gj.0 (plan_alike p inside st g.values (plan_of s meant p st g.values) (λ c. plan_fits s meant p st g.values 0 c)))

  -- every statement of Estelle does alike
  pub act_alike : ActsAlike S T on on' m R (act S on s meant) (act T on' s meant)
  unfolding act
  act_alike enters enters' into here within (Init x b) es fs alike = init_of_alike enters enters' into here.path within.0 (Init x b) (λ q j z. tt) (meant x) (meant b) es fs alike
  act_alike enters enters' into here within st es fs alike = planned enters enters' into here.path within.0 st es fs alike
