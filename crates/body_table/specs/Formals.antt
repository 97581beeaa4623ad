-- The value parameters and the var parameters among others.
use Rattle.std.specs.Prelude.{if◌then◌else◌, List, [], ◌∷◌}
use Rattle.estelle_tree.specs.declared.tree.declaration.Formal.{Formal}
use Rattle.estelle_model.specs.Denoted.{Section}
use Rattle.estelle_model.specs.Definitions.{formal_section}

abbrev pub value_section : Formal → List Section
value_section f = if f.is_var then [] else formal_section f ∷ []

abbrev pub var_section : Formal → List Section
var_section f = if f.is_var then formal_section f ∷ [] else []
