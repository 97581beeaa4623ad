-- The types that stand in a text, in text order, an outer one before those in it: type denoters, and the ordinal types that are not a whole denoter.
use Rattle.std.specs.Prelude.{List, [], ◌∷◌, ◌++◌, map, flat_map}
use Rattle.pascal_values.specs.declared.value.Shape.{Shape}
use Rattle.estelle_tree.specs.declared.tree.name.Name.{Name}
use Rattle.estelle_tree.specs.declared.tree.type_expr.Ordinal.{Ordinal}
use Rattle.estelle_tree.specs.declared.tree.type_expr.TypeExpr.{TypeExpr}
use Rattle.estelle_tree.specs.declared.tree.type_expr.TypeExpr.TheOpen.{TypeExpr-F, Fields-F, TypedNames-F}
use Rattle.estelle_tree.specs.declared.tree.type_expr.TypeExpr.TheFolds.{fold-TypeExpr, fold-TypedNames}
use Rattle.estelle_tree.specs.declared.tree.type_expr.TypedNames.{TypedNames}
use Rattle.estelle_tree.specs.declared.tree.declaration.TypeDef.{TypeDef}
use Rattle.estelle_tree.specs.declared.tree.clause.AnyDom.{AnyDom}
use Rattle.estelle_tree.specs.declared.tree.specification.Spec.{Spec}
use Rattle.estelle_model.specs.declared.denoter.Denoter.{Denoter}
use Rattle.estelle_model.specs.declared.denoter.Denoter.TheVariants as denoter
use Rattle.estelle_model.specs.declared.denoter.Host.TheVariants as host
use Rattle.estelle_model.specs.Types.{shape_of, whole}
use Rattle.estelle_model.specs.Meant.{Meanings}
use Rattle.estelle_model.specs.Denoted.{ordinal_type, array_over, set_over, Section, section_types}
use Rattle.estelle_model.specs.Definitions.{domains_of}
use Rattle.tree_visits.specs.Visit.{Visited, Types, Variables, HeaderDeclared, ClauseBegins, Visit}
use Rattle.tree_visits.specs.Visits.{Visits, visits}

-- what a type denotes, and the shapes of the types in it
pub record Noded : Type 0 where
  pub denotes : Meanings → Denoter
  pub inside : Meanings → List Shape

-- a type before those in it
abbrev pub nodes : Meanings → Noded → List Shape
nodes known x = shape_of (x.denotes known) ∷ x.inside known

-- the shape of an ordinal type
abbrev pub ordinal_node : Meanings → Ordinal → Shape
ordinal_node known o = shape_of (ordinal_type known o)

-- names of one type
abbrev pub NodedNames : Type 0
NodedNames = List Name × Noded

-- the names with what their type denotes
abbrev pub section_of : NodedNames → Section
section_of x = (x.0, record { denotes = x.1.denotes; declares = [] })

abbrev pub type_layer : TypeExpr-F Noded (List NodedNames) NodedNames → Noded
type_layer (TypeExpr-F.Ordinal o) = record { denotes = λ known. ordinal_type known o; inside = λ known. [] }
type_layer (TypeExpr-F.Array packed indices component span) = record {
  denotes = λ known. array_over (map (ordinal_type known) indices) (component.denotes known);
  inside = λ known. map (ordinal_node known) indices ++ nodes known component;
}
type_layer (TypeExpr-F.Fields packed sections span) = record {
  denotes = λ known. denoter.Fields (section_types known (map section_of sections));
  inside = λ known. flat_map (λ x. nodes known x.1) sections;
}
type_layer (TypeExpr-F.Set packed base span) = record { denotes = λ known. set_over (ordinal_type known base); inside = λ known. ordinal_node known base ∷ [] }

abbrev pub fields_layer : Fields-F Noded (List NodedNames) NodedNames → List NodedNames
fields_layer fs = fs.sections

abbrev pub typed_layer : TypedNames-F Noded (List NodedNames) NodedNames → NodedNames
typed_layer x = (x.names.names, x.type_expr)

unfoldable pub noded : TypeExpr → Noded
noded = fold-TypeExpr Noded (List NodedNames) NodedNames type_layer fields_layer typed_layer

unfoldable pub noded_names : TypedNames → NodedNames
noded_names = fold-TypedNames Noded (List NodedNames) NodedNames type_layer fields_layer typed_layer

-- the shapes of a type and of the types in it
abbrev pub nodes_of : Meanings → TypeExpr → List Shape
nodes_of known x = nodes known (noded x)

abbrev pub nodes_inside : Meanings → TypeExpr → List Shape
nodes_inside known x = (noded x).inside known

-- of the type of names
abbrev pub nodes_behind : Meanings → TypedNames → List Shape
nodes_behind known x = nodes known (noded_names x).1

-- of a type definition
abbrev pub nodes_defined : Meanings → TypeDef → List Shape
nodes_defined known d = nodes_of known d.type_expr

-- of the domain of names of `any`
abbrev pub domain_node : Meanings → AnyDom → Shape
domain_node known d = ordinal_node known d.domain

-- of the types that stand in a node of the tree, but for statements, clauses and bodies in it, which are visited by themselves
abbrev pub nodes_in : Meanings → Visited → List Shape
nodes_in known (Types defs) = flat_map (nodes_defined known) defs
nodes_in known (Variables vars) = flat_map (nodes_behind known) vars
nodes_in known (HeaderDeclared h) = flat_map (nodes_behind known) h.exports
nodes_in known (ClauseBegins c) = map (domain_node known) (domains_of c)
nodes_in known _ = []

abbrev pub nodes_seen : Meanings → Visit → List Shape
nodes_seen known v = nodes_in known v.node

abbrev pub required_shapes : List Shape
required_shapes = shape_of (whole host.Integer) ∷ shape_of (whole host.Boolean) ∷ shape_of (whole host.Char) ∷ []

-- the shapes of the required types integer, boolean and char, and then of all types of the text
abbrev pub shapes_of : Meanings → Spec → List Shape
shapes_of known tree = required_shapes ++ flat_map (nodes_seen known) (visits tree)
