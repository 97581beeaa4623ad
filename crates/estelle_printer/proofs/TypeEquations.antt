-- One equation of the tokens for each type of node.
use Rattle.std.proofs.Common.{◌≡◌, ◌++◌, ap, ◌∙◌}
use Rattle.estelle_tree.specs.declared.kind.Kind.TheVariants as k
use Rattle.estelle_tree.specs.declared.tree.type_expr.TypeExpr.{TypeExpr, out-TypeExpr, map-TypeExpr, fold_out-TypeExpr}
use Rattle.estelle_tree.specs.declared.tree.type_expr.TypeExpr.TheFolds.{fold_out-Fields, fold_out-TypedNames}
use Rattle.estelle_tree.specs.declared.tree.type_expr.Fields.{Fields, out-Fields}
use Rattle.estelle_tree.specs.declared.tree.type_expr.TypedNames.{TypedNames, out-TypedNames}
use Rattle.estelle_printer.proofs.WritingLemmas.{separated_map}
use Rattle.estelle_printer.specs.Forms.{Tokens, mark, flag, separated}
use Rattle.estelle_printer.specs.TypeTokens.{names, type_layer, fields_layer, typed_layer, type_expr, fields, typed_names}

pub type_is : (x : TypeExpr) → type_expr x ≡ type_layer (map-TypeExpr TypeExpr Fields TypedNames Tokens Tokens Tokens type_expr fields typed_names (out-TypeExpr x))
unfolding type_expr fields typed_names
type_is x = fold_out-TypeExpr Tokens Tokens Tokens type_layer fields_layer typed_layer x

pub fields_is : (x : Fields) → fields x ≡ separated k.Semicolon typed_names (out-Fields x).sections ++ flag k.Semicolon (out-Fields x).semicolon
unfolding type_expr fields typed_names
fields_is x = fold_out-Fields Tokens Tokens Tokens type_layer fields_layer typed_layer x ∙ ap (λ ts. ts ++ flag k.Semicolon (out-Fields x).semicolon) (separated_map k.Semicolon typed_names (out-Fields x).sections)

pub typed_is : (x : TypedNames) → typed_names x ≡ names (out-TypedNames x).names ++ mark k.Colon ++ type_expr (out-TypedNames x).type_expr
unfolding type_expr fields typed_names
typed_is x = fold_out-TypedNames Tokens Tokens Tokens type_layer fields_layer typed_layer x

pub ruleset types = (type_is, fields_is, typed_is)
