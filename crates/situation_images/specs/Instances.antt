-- Instances of a situation as a tree of parts has them.
use Rattle.std.specs.Prelude.{◌≡◌, ℕ, List, map as each, option_map, Some, Contains}
use Rattle.std.specs.FinMap as map
use Rattle.estelle_tree.specs.Paths.{Path, is_inside}
use Rattle.module_tree.specs.Trees as trees
use Rattle.estelle_model.specs.declared.image.Part.{Part}
use Rattle.estelle_model.specs.Core.{Instance, Instances}
use Rattle.estelle_model.specs.Situation.{Situation}
use Rattle.estelle_model.specs.Jobs.{part_of_entry, instance_of}
use Rattle.transition_select.specs.Blocks.{at_and_below}
use Rattle.effect_log.specs.Standing.{kept_of}

-- the tree has the instances of the situation, with their births
abbrev pub IsTreeOf : trees.Tree Part → Situation → Type 0
IsTreeOf t g = (p : Path) → map.get t.instances p ≡ option_map (kept_of p) (map.get g.core.instances p)

-- the instances that the parts of a tree show
abbrev pub instances_in : trees.Tree Part → Instances
instances_in t = map.from_entries (each (λ e. (e.0, instance_of e.1.part)) (map.entries t.instances))

-- the instance at a path is of the body with this number
abbrev pub IsOfBody : Situation → Path → ℕ → Type 0
IsOfBody g p k = (i : Instance) × (map.get g.core.instances p ≡ Some i) × (i.body ≡ k)

-- the instances at and below one, as parts in path order
abbrev pub parts_of : Situation → Path → List Part
parts_of g m = each part_of_entry (map.entries (map.retain_keys g.core.instances (is_inside m)))

-- the part is that of the instance at its path
abbrev pub IsPartOf : Situation → Part → Type 0
IsPartOf g p = (i : Instance) × (map.get g.core.instances p.path ≡ Some i) × (p ≡ part_of_entry (p.path, i))

-- ---- laws

-- the parts that a tree has below an instance lie at the paths of the instances at and below it, in path order
abbrev pub PartsLieBelow : Type 0
PartsLieBelow = (t : trees.Tree Part) (g : Situation) → IsTreeOf t g → (m : Path) → each (λ p. p.path) (trees.parts_below t.instances m) ≡ at_and_below g m

-- and each is that of the instance there
abbrev pub PartsAreOfInstances : Type 0
PartsAreOfInstances = (t : trees.Tree Part) (g : Situation) → IsTreeOf t g → (m : Path) (p : Part) → Contains (trees.parts_below t.instances m) p → IsPartOf g p
