-- One equation of the events for each type of node in types.
use Rattle.std.proofs.Common.{◌≡◌, ◌++◌, ◌∷◌, [], List, map, ap, ◌∙◌}
use Rattle.std.specs.List.{flat_map}
use Rattle.estelle_tree.specs.declared.span.Span.{Span}
use Rattle.estelle_tree.specs.declared.tree.type_expr.TypeExpr.{TypeExpr, out-TypeExpr, map-TypeExpr, fold_out-TypeExpr}
use Rattle.estelle_tree.specs.declared.tree.type_expr.TypeExpr.TheFolds.{fold_out-Fields, fold_out-TypedNames}
use Rattle.estelle_tree.specs.declared.tree.type_expr.Fields.{Fields, out-Fields}
use Rattle.estelle_tree.specs.declared.tree.type_expr.TypedNames.{TypedNames, out-TypedNames}
use Rattle.scope_rules.specs.declared.declaration.Denotes.TheVariants as d
use Rattle.scope_rules.specs.declared.event.ScopeForm.TheVariants as form
use Rattle.scope_rules.specs.declared.event.Event.TheVariants.{Open, Keep, Declare}
use Rattle.scope_rules.specs.TypeEvents.{Typed, Section, type_layer, fields_layer, typed_layer, typed, sections, section, record_events}
use Rattle.scope_names_events.proofs.WritingLemmas.{chain_map}

pub type_is : (x : TypeExpr) → typed x ≡ type_layer (map-TypeExpr TypeExpr Fields TypedNames Typed (List Section) Section typed sections section (out-TypeExpr x))
unfolding typed sections section
type_is x = fold_out-TypeExpr Typed (List Section) Section type_layer fields_layer typed_layer x

pub sections_is : (x : Fields) → sections x ≡ map section (out-Fields x).sections
unfolding typed sections section
sections_is x = fold_out-Fields Typed (List Section) Section type_layer fields_layer typed_layer x

pub section_is : (x : TypedNames) → section x ≡ ((out-TypedNames x).names, typed (out-TypedNames x).type_expr)
unfolding typed sections section
section_is x = fold_out-TypedNames Typed (List Section) Section type_layer fields_layer typed_layer x

-- the events of a record, by its sections
pub record_is : (at : Span) (xs : List TypedNames) → record_events at (map section xs) ≡ flat_map (λ x. (section x).1.1) xs ++ (Open form.Inner ∷ (flat_map (λ x. Declare (section x).0.names d.Field (section x).1.0 ∷ []) xs ++ Keep at ∷ []))
record_is at xs = ap (λ es. es ++ (Open form.Inner ∷ (flat_map (λ s. Declare s.0.names d.Field s.1.0 ∷ []) (map section xs) ++ Keep at ∷ []))) (chain_map (λ (s : Section). s.1.1) section xs) ∙ ap (λ es. flat_map (λ x. (section x).1.1) xs ++ (Open form.Inner ∷ (es ++ Keep at ∷ []))) (chain_map (λ (s : Section). Declare s.0.names d.Field s.1.0 ∷ []) section xs)

pub ruleset types = (type_is, sections_is, section_is, record_is)
