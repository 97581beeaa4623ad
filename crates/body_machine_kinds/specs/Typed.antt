-- What stands on the stacks, in the frames and in the variables of a machine that goes on.
use Rattle.std.specs.Prelude.{◌≡◌, ◌≤◌, ℕ, Bool, true, false, ◌||◌, if◌then◌else◌, IsTrue, List, [], ◌∷◌, ◌++◌, length, map as each, flat_map, slice_get, Option, Some}
use Rattle.std.specs.FinMap as map
use Rattle.pascal_values.specs.declared.value.Value.{Value, out-Value}
use Rattle.pascal_values.specs.declared.value.Value.TheOpen.{Value-F}
use Rattle.pascal_values.specs.declared.value.Shape.{Shape}
use Rattle.pascal_values.specs.Shapes.{each_passes, is_unset_at}
use Rattle.estelle_tree.specs.Paths.{Path, child, is_inside}
use Rattle.body_code.specs.declared.unit.Local.{Local}
use Rattle.body_code.specs.declared.unit.CodeUnit.{CodeUnit}
use Rattle.estelle_model.specs.declared.place.Place.{Place}
use Rattle.estelle_model.specs.declared.place.Place.TheVariants.{Of, In}
use Rattle.estelle_model.specs.Belonging.{belongs, are_values_of}
use Rattle.estelle_model.specs.Core.{Instance, Core}
use Rattle.estelle_model.specs.States.{Logged}
use Rattle.estelle_model.specs.Steps.{Running}
use Rattle.estelle_model.specs.Subject.{Subject, types_of_variables}
use Rattle.body_numbers.specs.declared.numbers.Numbers.{Numbers}
use Rattle.body_machine.specs.declared.item.Item.{Item}
use Rattle.body_machine.specs.declared.item.Item.TheVariants.{Datum, Spot}
use Rattle.body_machine.specs.declared.activation.Return.{Return}
use Rattle.body_machine.specs.declared.activation.Return.TheVariants.{ToParent}
use Rattle.body_machine.specs.Machine.{Activation, Machine}
use Rattle.body_kinds.specs.Kinds.{Kind, Whole, PlaceOf, is_of_at, is_of, kind_of, shape_in}
use Rattle.body_kinds.specs.Kinded.{Table, Claims, variable_shape, HasHeader, goes_back, Stands, Enters, IsKindedUnit}

-- The body of each instance that there has been, since places name those that are gone.
abbrev pub Bodies : Type 0
Bodies = Path → Option ℕ

-- all that are known stay known
abbrev pub Grows : Bodies → Bodies → Type 0
Grows known more = (p : Path) (b : ℕ) → known p ≡ Some b → more p ≡ Some b

-- the shapes of the variables of each frame, the innermost frame last
abbrev pub Frames : Type 0
Frames = List (List Shape)

-- ---- locals

abbrev pub value_shape : Local → List Shape
value_shape l = if l.by_ref then [] else l.shape ∷ []

-- of the locals that are variables
abbrev pub value_shapes : List Local → List Shape
value_shapes locals = flat_map value_shape locals

abbrev pub reference_shape : Local → List Shape
reference_shape l = if l.by_ref then l.shape ∷ [] else []

-- of the locals by reference
abbrev pub reference_shapes : List Local → List Shape
reference_shapes locals = flat_map reference_shape locals

abbrev pub is_held_at : Kind → Value → Value-F Value → Bool
is_held_at (Whole shape) v o = belongs shape v
is_held_at k v o = is_unset_at o || is_of_at k v o

-- a local of the shape may hold the value: a call tests no bounds
abbrev pub is_held : Shape → Value → Bool
is_held shape v = is_held_at (kind_of shape) v (out-Value v)

-- the frame holds a value for each of these variables
pub record IsFrame (shapes : List Shape) (frame : Value) : Type 0 where
  pub values : List Value
  pub are : out-Value frame ≡ Value-F.Fields values
  pub held : each_passes (each is_held shapes) values ≡ true

abbrev pub AreFrames : Frames → List Value → Type 0
AreFrames [] [] = Unit {0}
AreFrames (shapes ∷ frames) (v ∷ vs) = IsFrame shapes v × AreFrames frames vs
AreFrames _ _ = ⊥

module _ (s : Subject) (bodies : Bodies) where
  -- a module variable of a body may hold the instance
  pub record MayBeHeld (body modvar : ℕ) (c : Path) : Type 0 where
    pub of_body : ℕ
    pub is : bodies c ≡ Some of_body
    pub header : HasHeader s body modvar of_body

  -- the instance has what its body declares, and has counted its children
  pub record IsSound (p : Path) (i : Instance) : Type 0 where
    pub body : bodies p ≡ Some i.body
    pub variables : IsTrue (are_values_of (types_of_variables s i.body) i.variables)
    pub children : (modvar : ℕ) (c : Path) → slice_get i.module_variables modvar ≡ Some (Some c) → MayBeHeld i.body modvar c
    pub births : (q : Path) (k b : ℕ) → bodies q ≡ Some b → is_inside (child p k) q ≡ true → k ≤ i.births

  pub record IsState (c : Core) : Type 0 where
    pub types : c.types ≡ types_of_variables s
    pub instances : (p : Path) (i : Instance) → map.get c.instances p ≡ Some i → IsSound p i

  -- ---- items

  module _ (frames : Frames) where
    -- a part of a variable of an instance, whether that is still there or not
    pub record IsOfInstance (shape : Shape) (p : Path) (x : ℕ) (way : List ℕ) : Type 0 where
      pub body : ℕ
      pub is : bodies p ≡ Some body
      pub variable : Shape
      pub declared : variable_shape s body x ≡ Some variable
      pub part : shape_in variable way ≡ Some shape

    -- a part of a variable of a frame
    pub record IsOfFrame (shape : Shape) (f x : ℕ) (way : List ℕ) : Type 0 where
      pub shapes : List Shape
      pub is : slice_get frames f ≡ Some shapes
      pub variable : Shape
      pub declared : slice_get shapes x ≡ Some variable
      pub part : shape_in variable way ≡ Some shape

    abbrev pub IsPlaceOf : Shape → Place → Type 0
    IsPlaceOf shape (Of p x way) = IsOfInstance shape p x way
    IsPlaceOf shape (In f x way) = IsOfFrame shape f x way

    abbrev pub IsSpotOf : Kind → Place → Type 0
    IsSpotOf (PlaceOf shape) p = IsPlaceOf shape p
    IsSpotOf _ p = ⊥

    abbrev pub HasKind : Kind → Item → Type 0
    HasKind k (Datum v) = IsTrue (is_of k v)
    HasKind k (Spot p) = IsSpotOf k p

    -- each item is of its kind
    abbrev pub HaveKinds : List Kind → List Item → Type 0
    HaveKinds [] [] = Unit {0}
    HaveKinds (k ∷ ks) (i ∷ items) = HasKind k i × HaveKinds ks items
    HaveKinds _ _ = ⊥

    -- the state, and the values of the frames
    pub record IsRunning (r : Running Logged) : Type 0 where
      pub state : IsState r.state.image
      pub values : AreFrames frames r.frames

    -- each is a place of its shape
    abbrev pub ArePlaces : List Shape → List Place → Type 0
    ArePlaces [] [] = Unit {0}
    ArePlaces (shape ∷ shapes) (p ∷ places) = IsPlaceOf shape p × ArePlaces shapes places
    ArePlaces _ _ = ⊥

module _ (s : Subject) (n : Numbers) (code : List CodeUnit) (claims : Claims) where
  -- the frames of those below a unit, and its own
  abbrev pub with_own : Frames → Activation → Frames
  with_own lower a = lower ++ value_shapes a.unit.locals ∷ []

  module _ (bodies : Bodies) where
    -- a unit of good kinds has its frame, its references and the instance that it needs
    pub record IsUnit (lower : Frames) (a : Activation) (t : Table) : Type 0 where
      pub kinded : IsKindedUnit s n code claims a.body a.unit t
      pub frame : a.here.frame ≡ length lower
      pub references : ArePlaces s bodies (with_own lower a) (reference_shapes a.unit.locals) a.here.references
      pub home : t.closed ≡ false → bodies a.here.path ≡ Some a.body

    -- the stack has the kinds at the address, and a jump back its turn
    pub record IsActive (lower : Frames) (a : Activation) (t : Table) (ks : List Kind) : Type 0 where
      pub unit : IsUnit lower a t
      pub stands : Stands s n code claims a.body a.unit t a.address ks
      pub items : HaveKinds s bodies (with_own lower a) ks a.stack
      pub turned : goes_back s n code claims a.address (slice_get a.unit.instrs a.address) ≡ true → a.turned ≡ true

    -- a child fits the module variable that will hold it
    abbrev pub Fits : Activation → Return → Type 0
    Fits a (ToParent variable body c) = (b : ℕ) × (bodies a.here.path ≡ Some b) × MayBeHeld s bodies b variable c
    Fits a _ = Unit {0}

    -- a unit that waits for these kinds, above its own
    pub record IsWaiting (lower : Frames) (a : Activation) (t : Table) (return : Return) (result ks : List Kind) : Type 0 where
      pub unit : IsUnit lower a t
      pub enters : Enters s n code claims a.body a.unit t a.address (result ++ ks)
      pub items : HaveKinds s bodies (with_own lower a) ks a.stack
      pub fits : Fits a return

    -- units that wait for each other in these frames; the outermost leaves the last kinds
    abbrev pub AreWaiting : (last : List Kind) → Frames → Return → (result : List Kind) → List Activation → Type 0
    AreWaiting last frames return result [] = (frames ≡ []) × (result ≡ last)
    AreWaiting last frames return result (a ∷ waiting) = (lower : Frames) × (t : Table) × (ks : List Kind) × (frames ≡ with_own lower a) × IsWaiting lower a t return result ks × AreWaiting last lower a.return t.result waiting

  -- a machine that began with these instances, and whose outermost unit leaves these kinds
  pub record IsTyped (known : Bodies) (last : List Kind) (m : Machine) : Type 0 where
    pub bodies : Bodies
    pub grown : Grows known bodies
    pub lower : Frames
    pub table : Table
    pub kinds : List Kind
    pub running : IsRunning s bodies (with_own lower m.active) m.running
    pub active : IsActive bodies lower m.active table kinds
    pub waiting : AreWaiting bodies last lower m.active.return table.result m.waiting
