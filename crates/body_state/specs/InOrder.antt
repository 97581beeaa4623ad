-- Parts in path order.
use Rattle.std.specs.Prelude.{◌≡◌, ℕ, Bool, List, map as each, fold, slice_get, Option, Some, IsTrue}
use Rattle.std.specs.Borrow.{Bor}
use Rattle.std.specs.FinMap as map
use Rattle.std.specs.FinMap.{find, is_sorted}
use Rattle.estelle_model.specs.declared.image.Part.{Part}
use Rattle.estelle_tree.specs.Paths.{Path, path_cmp}
use Rattle.estelle_model.specs.Core.{Instance, Instances}
use Rattle.estelle_model.specs.Jobs.{instance_of, insert_part}

-- the parts to which references lead
abbrev pub parts_behind : List (Bor Part) → List Part
parts_behind refs = each (λ r. r.now) refs

-- a part as an entry of a map
abbrev pub entry_of : Part → Path × Instance
entry_of p = (p.path, instance_of p)

abbrev pub entries_of : List Part → List (Path × Instance)
entries_of parts = each entry_of parts

-- the instances of parts
abbrev pub instances_of : List Part → Instances
instances_of parts = fold insert_part map.empty parts

-- each path is below those after it
abbrev pub are_in_order : List Part → Bool
are_in_order parts = is_sorted path_cmp (entries_of parts)

abbrev pub InOrder : List Part → Type 0
InOrder parts = IsTrue (are_in_order parts)

-- the instance with a path, if a part shows it
abbrev pub instance_in : List Part → Path → Option Instance
instance_in parts p = find path_cmp p (entries_of parts)

-- the part with a path stands at a place
abbrev pub StandsAt : List Part → Path → ℕ → Type 0
StandsAt parts p k = (part : Part) × (slice_get parts k ≡ Some part) × (part.path ≡ p)
