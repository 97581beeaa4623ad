-- What types denote and declare, by one equation for each kind of node.
use Rattle.std.proofs.Common.{◌≡◌, List, map}
use Rattle.estelle_tree.specs.declared.tree.type_expr.TypeExpr.{TypeExpr, out-TypeExpr, map-TypeExpr, fold_out-TypeExpr}
use Rattle.estelle_tree.specs.declared.tree.type_expr.TypeExpr.TheFolds.{fold-Fields, fold_out-Fields, fold_out-TypedNames}
use Rattle.estelle_tree.specs.declared.tree.type_expr.Fields.{Fields, out-Fields}
use Rattle.estelle_tree.specs.declared.tree.type_expr.TypedNames.{TypedNames, out-TypedNames}
use Rattle.estelle_model.specs.Denoted.{Typing, Section, type_layer, fields_layer, typed_layer, typing, section}

-- the sections of a record
pub fields : Fields → List Section
fields = fold-Fields Typing (List Section) Section type_layer fields_layer typed_layer

pub type_is : (x : TypeExpr) → typing x ≡ type_layer (map-TypeExpr TypeExpr Fields TypedNames Typing (List Section) Section typing fields section (out-TypeExpr x))
unfolding typing fields section
type_is x = fold_out-TypeExpr Typing (List Section) Section type_layer fields_layer typed_layer x

pub fields_is : (x : Fields) → fields x ≡ map section (out-Fields x).sections
unfolding typing fields section
fields_is x = fold_out-Fields Typing (List Section) Section type_layer fields_layer typed_layer x

pub section_is : (x : TypedNames) → section x ≡ ((out-TypedNames x).names.names, typing (out-TypedNames x).type_expr)
unfolding typing fields section
section_is x = fold_out-TypedNames Typing (List Section) Section type_layer fields_layer typed_layer x

pub ruleset types = (type_is, fields_is, section_is)
