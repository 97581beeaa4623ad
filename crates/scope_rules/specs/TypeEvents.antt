-- What names, constants and types say of names.
use Rattle.std.specs.Prelude.{List, [], ◌∷◌, ◌++◌, drop}
use Rattle.std.specs.List.{flat_map}
use Rattle.estelle_tree.specs.declared.span.Span.{Span}
use Rattle.estelle_tree.specs.declared.tree.name.Name.{Name}
use Rattle.estelle_tree.specs.declared.tree.name.NameList.{NameList}
use Rattle.estelle_tree.specs.declared.tree.type_expr.Const.{Const}
use Rattle.estelle_tree.specs.declared.tree.type_expr.Const.TheVariants as const
use Rattle.estelle_tree.specs.declared.tree.type_expr.Ordinal.{Ordinal}
use Rattle.estelle_tree.specs.declared.tree.type_expr.Ordinal.TheVariants as ordinal
use Rattle.estelle_tree.specs.declared.tree.type_expr.TypeExpr.{TypeExpr}
use Rattle.estelle_tree.specs.declared.tree.type_expr.TypeExpr.TheOpen.{TypeExpr-F, Fields-F, TypedNames-F}
use Rattle.estelle_tree.specs.declared.tree.type_expr.TypeExpr.TheFolds.{fold-TypeExpr, fold-Fields, fold-TypedNames}
use Rattle.estelle_tree.specs.declared.tree.type_expr.Fields.{Fields}
use Rattle.estelle_tree.specs.declared.tree.type_expr.TypedNames.{TypedNames}
use Rattle.estelle_tree.specs.Spans.{of_ordinal}
use Rattle.scope_rules.specs.declared.declaration.Denotes.{Denotes}
use Rattle.scope_rules.specs.declared.declaration.Denotes.TheVariants as d
use Rattle.scope_rules.specs.declared.declaration.Need.{Need}
use Rattle.scope_rules.specs.declared.declaration.Need.TheVariants as need
use Rattle.scope_rules.specs.declared.declaration.Inside.{Inside}
use Rattle.scope_rules.specs.declared.declaration.Inside.TheVariants.{Nothing, At, Brought}
use Rattle.scope_rules.specs.declared.event.ScopeForm.TheVariants as form
use Rattle.scope_rules.specs.declared.event.Event.{Event}
use Rattle.scope_rules.specs.declared.event.Event.TheVariants.{Open, Keep, Array, Declare, Use}

abbrev pub Events : Type 0
Events = List Event

-- a name alone in use
abbrev pub use_alone : Need → Name → Events
use_alone n x = Use x n [] ∷ []

-- one name is declared
abbrev pub declare : Name → Denotes → Inside → Events
declare x k inside = Declare (x ∷ []) k inside ∷ []

-- what a type name brings behind a dot
abbrev pub of_type_name : Name → Inside
of_type_name t = Brought t.span

-- a constant uses the name that stands in it
abbrev pub const_events : Const → Events
const_events (const.Number sign value span) = []
const_events (const.Name sign x span) = use_alone need.Constant x
const_events (const.Char value span) = []

-- an enumerated type declares its values in the scope around it, as constants
abbrev pub ordinal_events : Ordinal → Events
ordinal_events (ordinal.Name x) = use_alone need.Type x
ordinal_events (ordinal.Enumeration names span) = Declare names.names d.Constant Nothing ∷ []
ordinal_events (ordinal.Subrange low high span) = const_events low ++ const_events high

-- what an ordinal type brings behind a dot: something only where it is the name of another type
abbrev pub inside_ordinal : Ordinal → Inside
inside_ordinal (ordinal.Name x) = of_type_name x
inside_ordinal (ordinal.Enumeration names span) = Nothing
inside_ordinal (ordinal.Subrange low high span) = Nothing

-- an array of several indices is an array of arrays (ISO 7185, 6.4.3.2); each inner one stands at its index type
abbrev pub array_events : Span → List Ordinal → Inside → Events
array_events at [] components = Array at components ∷ []
array_events at (i ∷ more) components = Array at (At (of_ordinal i)) ∷ array_events (of_ordinal i) more components

-- what a type brings behind a dot, and its events
abbrev pub Typed : Type 0
Typed = Inside × Events

-- the names of a section of a record, with their type
abbrev pub Section : Type 0
Section = NameList × Typed

-- the fields of a record are a scope that holds nothing else: what stands in their types belongs to the scope around the record
abbrev pub record_events : Span → List Section → Events
record_events at sections = flat_map (λ s. s.1.1) sections ++ (Open form.Inner ∷ (flat_map (λ s. Declare s.0.names d.Field s.1.0 ∷ []) sections ++ Keep at ∷ []))

abbrev pub type_layer : TypeExpr-F Typed (List Section) Section → Typed
type_layer (TypeExpr-F.Ordinal o) = (inside_ordinal o, ordinal_events o)
type_layer (TypeExpr-F.Array packed indices component span) = (At span, flat_map ordinal_events indices ++ (component.1 ++ array_events span (drop 1 indices) component.0))
type_layer (TypeExpr-F.Fields packed sections span) = (At span, record_events span sections)
type_layer (TypeExpr-F.Set packed base span) = (Nothing, ordinal_events base)

abbrev pub fields_layer : Fields-F Typed (List Section) Section → List Section
fields_layer fs = fs.sections

abbrev pub typed_layer : TypedNames-F Typed (List Section) Section → Section
typed_layer x = (x.names, x.type_expr)

unfoldable pub typed : TypeExpr → Typed
typed = fold-TypeExpr Typed (List Section) Section type_layer fields_layer typed_layer

unfoldable pub sections : Fields → List Section
sections = fold-Fields Typed (List Section) Section type_layer fields_layer typed_layer

unfoldable pub section : TypedNames → Section
section = fold-TypedNames Typed (List Section) Section type_layer fields_layer typed_layer

abbrev pub inside : TypeExpr → Inside
inside t = (typed t).0

abbrev pub type_events : TypeExpr → Events
type_events t = (typed t).1

-- `Names ":" Type`: the names are not visible in their type
abbrev pub typed_names : Denotes → TypedNames → Events
typed_names k x = (section x).1.1 ++ Declare (section x).0.names k (section x).1.0 ∷ []
