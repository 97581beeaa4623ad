-- Names, constants and types without their spans: each span is 0..0.
use Rattle.std.specs.Prelude.{map}
use Rattle.estelle_tree.specs.declared.tree.name.Name.{Name}
use Rattle.estelle_tree.specs.declared.tree.name.NameList.{NameList}
use Rattle.estelle_tree.specs.declared.tree.type_expr.Const.{Const}
use Rattle.estelle_tree.specs.declared.tree.type_expr.Const.TheVariants as const
use Rattle.estelle_tree.specs.declared.tree.type_expr.Ordinal.{Ordinal}
use Rattle.estelle_tree.specs.declared.tree.type_expr.Ordinal.TheVariants as ordinal
use Rattle.estelle_tree.specs.declared.tree.type_expr.TypeExpr.{TypeExpr, roll-TypeExpr, fold-TypeExpr}
use Rattle.estelle_tree.specs.declared.tree.type_expr.TypeExpr.TheOpen.{TypeExpr-F, Fields-F, TypedNames-F}
use Rattle.estelle_tree.specs.declared.tree.type_expr.TypeExpr.TheFolds.{fold-Fields, fold-TypedNames}
use Rattle.estelle_tree.specs.declared.tree.type_expr.Fields.{Fields, roll-Fields}
use Rattle.estelle_tree.specs.declared.tree.type_expr.TypedNames.{TypedNames, roll-TypedNames}
use Rattle.estelle_tree.specs.Spans.{TypeExprLayer, nowhere}

abbrev pub bare_name : Name → Name
bare_name n = record n { span = nowhere }

abbrev pub bare_names : NameList → NameList
bare_names ns = record { names = map bare_name ns.names; span = nowhere }

abbrev pub bare_const : Const → Const
bare_const (const.Number sign value span) = const.Number sign value nowhere
bare_const (const.Name sign name span) = const.Name sign (bare_name name) nowhere
bare_const (const.Char value span) = const.Char value nowhere

abbrev pub bare_ordinal : Ordinal → Ordinal
bare_ordinal (ordinal.Name name) = ordinal.Name (bare_name name)
bare_ordinal (ordinal.Enumeration names span) = ordinal.Enumeration (bare_names names) nowhere
bare_ordinal (ordinal.Subrange low high span) = ordinal.Subrange (bare_const low) (bare_const high) nowhere

-- One level: the types in it have lost their spans.
abbrev pub type_layer : TypeExprLayer → TypeExpr
type_layer (TypeExpr-F.Ordinal ordinal) = roll-TypeExpr (TypeExpr-F.Ordinal (bare_ordinal ordinal))
type_layer (TypeExpr-F.Array packed indices component span) = roll-TypeExpr (TypeExpr-F.Array packed (map bare_ordinal indices) component nowhere)
type_layer (TypeExpr-F.Fields packed fields span) = roll-TypeExpr (TypeExpr-F.Fields packed fields nowhere)
type_layer (TypeExpr-F.Set packed base span) = roll-TypeExpr (TypeExpr-F.Set packed (bare_ordinal base) nowhere)

abbrev pub fields_layer : Fields-F TypeExpr Fields TypedNames → Fields
fields_layer fs = roll-Fields (record fs { span = nowhere })

abbrev pub typed_layer : TypedNames-F TypeExpr Fields TypedNames → TypedNames
typed_layer x = roll-TypedNames (record x { names = bare_names x.names })

unfoldable pub bare_type : TypeExpr → TypeExpr
bare_type = fold-TypeExpr TypeExpr Fields TypedNames type_layer fields_layer typed_layer

unfoldable pub bare_fields : Fields → Fields
bare_fields = fold-Fields TypeExpr Fields TypedNames type_layer fields_layer typed_layer

unfoldable pub bare_typed : TypedNames → TypedNames
bare_typed = fold-TypedNames TypeExpr Fields TypedNames type_layer fields_layer typed_layer
