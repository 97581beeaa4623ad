-- What a block can read of the situation: the instances, the links, and the types of the variables of each body.
use Rattle.std.specs.Prelude.{ℕ, List, Option}
use Rattle.std.specs.FinMap as map
use Rattle.pascal_values.specs.declared.value.Value.{Value}
use Rattle.estelle_tree.specs.declared.link.Link.{Link}
use Rattle.estelle_model.specs.declared.denoter.Denoter.{Denoter}
use Rattle.estelle_tree.specs.Paths.{Path, path_cmp}

-- an instance of a module; a module variable is empty or holds a child
pub record Instance : Type 0 where
  pub body : ℕ
  pub state : Option ℕ
  -- the header's parameters and exported variables, then the body's own
  pub variables : List Value
  pub module_variables : List (Option Path)
  -- how many children it has had
  pub births : ℕ

abbrev pub Instances : Type 0
Instances = map.FinMap path_cmp Instance

pub record Core : Type 0 where
  pub instances : Instances
  pub links : List Link
  -- the types of the variables of an instance, by the number of its body
  pub types : ℕ → List Denoter
