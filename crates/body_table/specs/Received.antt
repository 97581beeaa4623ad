-- Blocks under the interactions of the `when` clauses before them.
use Rattle.std.specs.Prelude.{◌++◌, List, length}
use Rattle.std.specs.List.{flat_map}
use Rattle.estelle_tree.specs.declared.tree.name.Name.{Name}
use Rattle.estelle_tree.specs.declared.tree.clause.Block.{Block}
use Rattle.estelle_model.specs.declared.denoter.Denoter.{Denoter}
use Rattle.estelle_model.specs.Meant.{Meanings}
use Rattle.estelle_model.specs.Denoted.{Declarations, sections_declare}
use Rattle.estelle_model.specs.Definitions.{definitions, local_variables, types_received}
use Rattle.meaning_table.specs.Kinds.{numbered_behind}
use Rattle.meaning_table.specs.declared.kinds.VariableKind.TheVariants.{Local}

-- the types of the parameters of these interactions
abbrev pub types_of : Meanings → List Name → List Denoter
types_of known xs = flat_map (λ x. types_received (known x)) xs

-- what a block declares behind the parameters of these interactions
abbrev pub block_behind : List Name → Block → Declarations
block_behind xs b =
    flat_map definitions b.decls
    ++ sections_declare (numbered_behind Local (λ known. length (types_of known xs))) 0 (local_variables b.decls)
