-- Which instances may stand together: the tree of modules that headers and attributes allow (ISO/IEC 9074: module instances).
use Rattle.std.specs.Prelude.{◌≡◌, ◌≤◌, ◌<◌, ◌⊎◌, ℕ, true, IsTrue, List, [], length, slice_get, Option, Some, None, Contains}
use Rattle.std.specs.FinMap as map
use Rattle.estelle_tree.specs.Paths.{Path, child, is_inside}
use Rattle.estelle_model.specs.Core.{Instance, Instances}
use Rattle.estelle_model.specs.Bodies.{BodyAlone, variable_types, module_variables_in, states_in}
use Rattle.estelle_model.specs.Transitions.{Transition}
use Rattle.estelle_model.specs.Subject.{Subject, meant, body, headers_of, child_of, begins, transition}
use Rattle.estelle_model.specs.Attributes.{attribute, allows, may_have_transitions}
use Rattle.estelle_model.specs.Belonging.{are_values_of}

-- ---- what is declared

-- the state is one of the body's, and none exactly where the body has none
abbrev pub IsStateOf : ℕ → Option ℕ → Type 0
IsStateOf count None = count ≡ 0
IsStateOf count (Some k) = k < count

-- what an accepted specification declares: its own body may have transitions, and initializations and transitions lead to states of their bodies
pub record LeadsToStates (s : Subject) : Type 0 where
  pub root : IsTrue (may_have_transitions s 0)
  pub initial : (k : ℕ) (b : BodyAlone) → body s k ≡ Some b → IsStateOf (length (states_in b)) (begins s k).to
  pub next : (k n : ℕ) (b : BodyAlone) (t : Transition) (state : ℕ) → body s k ≡ Some b → transition s k n ≡ Some t → t.to ≡ Some state → state < length (states_in b)

-- ---- instances

-- An instance has just what its body declares. Within a firing, one that is being made has no state yet.
pub record IsOfBodyBut (s : Subject) (making : Type 0) (b : BodyAlone) (i : Instance) : Type 0 where
  pub variables : IsTrue (are_values_of (variable_types (meant s) b) i.variables)
  pub state : (making × (i.state ≡ None)) ⊎ IsStateOf (length (states_in b)) i.state
  pub module_variables : length i.module_variables ≡ length (module_variables_in b)

-- a module variable is empty, or holds a child of its own instance that is there
abbrev pub Holds : Instances → Path → Option Path → Type 0
Holds instances p None = Unit {0}
Holds instances p (Some c) = (k : ℕ) × (i : Instance) × (c ≡ child p k) × (map.get instances c ≡ Some i)

-- one module variable of its parent holds the child, and that has the child's header
pub record IsHeld (s : Subject) (parent of_child : Instance) (c : Path) : Type 0 where
  pub by : ℕ
  pub held : slice_get parent.module_variables by ≡ Some (Some c)
  pub once : (other : ℕ) → slice_get parent.module_variables other ≡ Some (Some c) → other ≡ by
  pub header : slice_get (headers_of s parent.body) by ≡ Some (child_of s of_child.body).header

-- The parent of an instance is there, has had that many children, and its attribute allows the child's; a module variable of the parent holds it.
-- Within a firing, a child that is being made is held by none yet.
pub record HasParentBut (s : Subject) (making : List Path) (instances : Instances) (p : Path) (k : ℕ) (i : Instance) : Type 0 where
  pub parent : Instance
  pub there : map.get instances p ≡ Some parent
  pub born : k ≤ parent.births
  pub allowed : IsTrue (allows (attribute s parent.body) (attribute s i.body))
  pub held : Contains making (child p k) ⊎ IsHeld s parent i (child p k)

-- each instance has a body with what it declares
abbrev pub AreOfBodiesBut : Subject → List Path → Instances → Type 0
AreOfBodiesBut s making instances = (p : Path) (i : Instance) → map.get instances p ≡ Some i → (b : BodyAlone) × (body s i.body ≡ Some b) × IsOfBodyBut s (Contains making p) b i

-- module variables hold children that are there
abbrev pub HoldChildren : Instances → Type 0
HoldChildren instances = (p : Path) (i : Instance) (m : ℕ) (held : Option Path) → map.get instances p ≡ Some i → slice_get i.module_variables m ≡ Some held → Holds instances p held

-- a body with transitions belongs to a header with an attribute
abbrev pub MayHaveTransitions : Subject → Instances → Type 0
MayHaveTransitions s instances = (p : Path) (i : Instance) → map.get instances p ≡ Some i → IsTrue (may_have_transitions s i.body)

-- all instances have a body with what it declares, and stand where they may; within a firing some are being made
pub record MayStandBut (s : Subject) (making : List Path) (instances : Instances) : Type 0 where
  pub bodies : AreOfBodiesBut s making instances
  pub holds : HoldChildren instances
  pub parents : (p : Path) (k : ℕ) (i : Instance) → map.get instances (child p k) ≡ Some i → HasParentBut s making instances p k i
  pub transitions : MayHaveTransitions s instances

-- between events every child is held and has its state
abbrev pub MayStand : Subject → Instances → Type 0
MayStand s = MayStandBut s []

-- the instances at and below one may stand together; of its own parent nothing is said
pub record MayStandBelow (s : Subject) (m : Path) (instances : Instances) : Type 0 where
  pub bodies : AreOfBodiesBut s [] instances
  pub holds : HoldChildren instances
  pub parents : (p : Path) (k : ℕ) (i : Instance) → is_inside m p ≡ true → map.get instances (child p k) ≡ Some i → HasParentBut s [] instances p k i
  pub transitions : MayHaveTransitions s instances
