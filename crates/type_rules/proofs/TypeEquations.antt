-- One equation of what types denote and declare for each type of node.
use Rattle.std.proofs.Common.{◌≡◌, List, map}
use Rattle.estelle_tree.specs.declared.tree.type_expr.TypeExpr.{TypeExpr, out-TypeExpr, map-TypeExpr, fold_out-TypeExpr}
use Rattle.estelle_tree.specs.declared.tree.type_expr.TypeExpr.TheFolds.{fold_out-Fields, fold_out-TypedNames}
use Rattle.estelle_tree.specs.declared.tree.type_expr.Fields.{Fields, out-Fields}
use Rattle.estelle_tree.specs.declared.tree.type_expr.TypedNames.{TypedNames, out-TypedNames}
use Rattle.type_rules.specs.TypeSites.{Typing, Section, type_layer, fields_layer, typed_layer, typing, fields, typed_names}

pub type_is : (x : TypeExpr) → typing x ≡ type_layer (map-TypeExpr TypeExpr Fields TypedNames Typing (List Section) Section typing fields typed_names (out-TypeExpr x))
unfolding typing fields typed_names
type_is x = fold_out-TypeExpr Typing (List Section) Section type_layer fields_layer typed_layer x

pub fields_is : (x : Fields) → fields x ≡ map typed_names (out-Fields x).sections
unfolding typing fields typed_names
fields_is x = fold_out-Fields Typing (List Section) Section type_layer fields_layer typed_layer x

pub section_is : (x : TypedNames) → typed_names x ≡ ((out-TypedNames x).names.names, typing (out-TypedNames x).type_expr)
unfolding typing fields typed_names
section_is x = fold_out-TypedNames Typing (List Section) Section type_layer fields_layer typed_layer x

pub ruleset types = (type_is, fields_is, section_is)
