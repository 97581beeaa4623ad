-- What any chooser chooses may be selected.
use Rattle.std.specs.Prelude.{◌≡◌, ℕ, IsTrue, List, Some}
use Rattle.std.specs.FinMap as map
use Rattle.estelle_tree.specs.declared.transition.Pair.{Pair}
use Rattle.estelle_tree.specs.Paths.{Path, child}
use Rattle.estelle_model.specs.Core.{Instance, Instances}
use Rattle.estelle_model.specs.Subject.{Subject}
use Rattle.estelle_model.specs.Situation.{Situation}
use Rattle.estelle_model.specs.Attributes.{attribute, allows, IsSystem}
use Rattle.estelle_model.specs.Choosers.{Draw, DrawsBelow}
use Rattle.estelle_model.specs.Selection.{Selects}
use Rattle.estelle_model.specs.Schedule.{Chosen}
use Rattle.estelle_model_legality.specs.Instances.{MayStand}
use Rattle.estelle_model_legality.specs.Pending.{AreInOrder}

-- the parent of an instance is there, and its attribute allows the child's
pub record HasPlace (s : Subject) (instances : Instances) (p : Path) (i : Instance) : Type 0 where
  pub parent : Instance
  pub there : map.get instances p ≡ Some parent
  pub allowed : IsTrue (allows (attribute s parent.body) (attribute s i.body))

-- the instances are a tree
abbrev pub AreTree : Subject → Instances → Type 0
AreTree s instances = (p : Path) (k : ℕ) (i : Instance) → map.get instances (child p k) ≡ Some i → HasPlace s instances p i

-- ---- laws

abbrev pub LegalAreTree : Type 0
LegalAreTree = (s : Subject) (instances : Instances) → MayStand s instances → AreTree s instances

-- of every tree of instances, with timers whose low is at most their high
abbrev pub ChosenIsSelected : Type 0 → Type 0
ChosenIsSelected C = (draw : Draw C) (s : Subject) (budget : ℕ) (g : Situation) → AreTree s g.core.instances → AreInOrder g
    → (m : Path) (c : C) (takes : List Pair) (rest : C) → Chosen draw s budget g m c takes rest → Selects s budget g m takes

-- a chooser chooses one thing, and is left one way
abbrev pub ChosenIsOne : Type 0 → Type 0
ChosenIsOne C = (draw : Draw C) (s : Subject) (budget : ℕ) (g : Situation) (m : Path) (c : C) (takes takes' : List Pair) (rest rest' : C)
    → Chosen draw s budget g m c takes rest → Chosen draw s budget g m c takes' rest' → (takes ≡ takes') × (rest ≡ rest')

-- of each system of a tree a chooser that picks among the candidates chooses something
abbrev pub ChosenIsThere : Type 0 → Type 0
ChosenIsThere C = (draw : Draw C) → DrawsBelow draw → (s : Subject) (budget : ℕ) (g : Situation) → AreTree s g.core.instances
    → (m : Path) → IsSystem s g m → (c : C) → (takes : List Pair) × (rest : C) × Chosen draw s budget g m c takes rest
