-- What types and constants denote and declare, and where rules speak of them.
use Rattle.std.specs.Prelude.{ℕ, suc, ◌-◌, length, Bool, false, List, [], ◌∷◌, ◌++◌, map, fold, Option, Some, pos}
use Rattle.std.specs.List.{flat_map, list_any}
use Rattle.estelle_tree.specs.declared.span.Span.{Span}
use Rattle.estelle_tree.specs.declared.tree.name.Name.{Name}
use Rattle.estelle_tree.specs.declared.tree.type_expr.Const.{Const}
use Rattle.estelle_tree.specs.declared.tree.type_expr.Ordinal.{Ordinal}
use Rattle.estelle_tree.specs.declared.tree.type_expr.Ordinal.TheVariants as ordinal
use Rattle.estelle_tree.specs.declared.tree.type_expr.TypeExpr.{TypeExpr}
use Rattle.estelle_tree.specs.declared.tree.type_expr.TypeExpr.TheOpen.{TypeExpr-F, Fields-F, TypedNames-F}
use Rattle.estelle_tree.specs.declared.tree.type_expr.TypeExpr.TheFolds.{fold-TypeExpr, fold-Fields, fold-TypedNames}
use Rattle.estelle_tree.specs.declared.tree.type_expr.Fields.{Fields}
use Rattle.estelle_tree.specs.declared.tree.type_expr.TypedNames.{TypedNames}
use Rattle.estelle_tree.specs.Spans.{of_const, of_ordinal}
use Rattle.type_rules.specs.declared.types.Host.TheVariants as host
use Rattle.type_rules.specs.declared.types.PascalType.{PascalType}
use Rattle.type_rules.specs.declared.types.PascalType.TheVariants as t
use Rattle.type_rules.specs.declared.types.Denoted.{Denoted}
use Rattle.type_rules.specs.declared.meanings.Meaning.{Meaning}
use Rattle.type_rules.specs.declared.meanings.Meaning.TheVariants.{Variable, ArrayType}
use Rattle.type_rules.specs.declared.meanings.Entity.{Entity}
use Rattle.type_rules.specs.declared.sites.Site.TheVariants.{ConstantAt, TypeAt}
use Rattle.type_rules.specs.Types.{simple, subrange, array_type, with_field, no_fields, record_type, set_type, is_no_subrange, is_no_base, is_no_index}
use Rattle.type_rules.specs.Meanings.{Env, known, Declaration, Declarations, type_denoted, valued, const_value}
use Rattle.type_rules.specs.Sites.{Sites}

-- a constant where it must have a value
abbrev pub const_site : Env → Const → Sites
const_site env c = ConstantAt (of_const c) (const_value env c) ∷ []

-- what is declared as this, without parameters
abbrev pub meaning_only : Meaning → Entity
meaning_only m = record { meaning = m; parameters = [] }

-- ---- ordinal types (6.4.2)

-- an enumeration with these values
abbrev pub enumeration : Span → List Name → Denoted
enumeration at values = simple (Some (t.Whole (host.Enumeration at))) (pos 0) (pos (length values - 1))

-- what an ordinal type denotes; a name denotes the type that it names
abbrev pub ordinal_type : Env → Ordinal → Denoted
ordinal_type env (ordinal.Name x) = type_denoted (known env x)
ordinal_type env (ordinal.Enumeration names span) = enumeration span names.names
ordinal_type env (ordinal.Subrange low high span) = subrange span (const_value env low) (const_value env high)

-- a value of an enumeration, by its ordinal
abbrev pub enumerated_value : Span → ℕ → Name → Declaration
enumerated_value at n x = record { at = x.span.start; says = λ env. meaning_only (valued (host.Enumeration at) (pos n)) }

-- the values of an enumeration have the ordinals 0, 1 and so on
abbrev pub enumerated : Span → ℕ → List Name → Declarations
enumerated at n [] = []
enumerated at n (x ∷ xs) = enumerated_value at n x ∷ enumerated at (suc n) xs

abbrev pub ordinal_declares : Ordinal → Declarations
ordinal_declares (ordinal.Name x) = []
ordinal_declares (ordinal.Enumeration names span) = enumerated span 0 names.names
ordinal_declares (ordinal.Subrange low high span) = []

-- where rules speak of an ordinal type: of the bounds of a subrange, and of the type itself
abbrev pub ordinal_sites : Env → Ordinal → Sites
ordinal_sites env (ordinal.Name x) = TypeAt x.span false (ordinal_type env (ordinal.Name x)) ∷ []
ordinal_sites env (ordinal.Enumeration names span) = TypeAt span false (ordinal_type env (ordinal.Enumeration names span)) ∷ []
ordinal_sites env (ordinal.Subrange low high span) = const_site env low ++ (const_site env high ++ TypeAt span (is_no_subrange (const_value env low) (const_value env high)) (ordinal_type env (ordinal.Subrange low high span)) ∷ [])

-- ---- types (6.4.3)

-- what a type expression denotes, what it declares, and where rules speak of it: of what stands in it, and of it
pub record Typing : Type 0 where
  pub denotes : Env → Denoted
  pub declares : Declarations
  pub sites : Env → Sites

-- the type that it denotes
abbrev pub type_in : Typing → Env → Option PascalType
type_in x env = (x.denotes env).type_

-- the names of a section of a record, with their type
abbrev pub Section : Type 0
Section = List Name × Typing

-- an array type that stands at a place, by its index and its components
abbrev pub array_at : Span → (Env → Option PascalType) → (Env → Option PascalType) → Declaration
array_at at index component = record { at = at.start; says = λ env. meaning_only (ArrayType (index env) (component env)) }

-- the type of an index
abbrev pub index_of : Ordinal → Env → Option PascalType
index_of i env = (ordinal_type env i).type_

-- the type of the components behind an index: where more indices follow, an array that is known by the next one
abbrev pub behind_index : List Ordinal → (Env → Option PascalType) → Env → Option PascalType
behind_index [] component env = component env
behind_index (i ∷ more) component env = Some (t.Array (of_ordinal i))

-- where the array of these indices is declared
abbrev pub array_place : Span → List Ordinal → Span
array_place at [] = at
array_place at (i ∷ more) = of_ordinal i

-- the array types of several indices, each inner one by its index
abbrev pub arrays : Span → List Ordinal → (Env → Option PascalType) → Declarations
arrays at [] component = []
arrays at (i ∷ more) component = array_at at (index_of i) (behind_index more component) ∷ arrays (array_place at more) more component

-- a name declared as a variable of a type
abbrev pub variable_of : (Env → Option PascalType) → Name → Declaration
variable_of u x = record { at = x.span.start; says = λ env. meaning_only (Variable (u env)) }

abbrev pub variables : (Env → Option PascalType) → List Name → Declarations
variables u = map (variable_of u)

abbrev pub section_declares : Section → Declarations
section_declares s = s.1.declares ++ variables (type_in s.1) s.0

-- the fields so far, with those of a section
abbrev pub with_section : Env → Denoted → Section → Denoted
with_section env d s = fold (λ so_far x. with_field so_far (s.1.denotes env)) d s.0

abbrev pub array_denotes : Span → List Ordinal → Typing → Env → Denoted
array_denotes span indices component env = array_type span (component.denotes env) (map (ordinal_type env) indices)

abbrev pub fields_denote : Span → List Section → Env → Denoted
fields_denote span sections env = record_type span (fold (with_section env) no_fields sections)

abbrev pub set_denotes : Span → Ordinal → Env → Denoted
set_denotes span base env = set_type span (ordinal_type env base)

-- one of these is no index
abbrev pub has_no_index : Env → List Ordinal → Bool
has_no_index env indices = list_any (λ i. is_no_index (ordinal_type env i)) indices

abbrev pub type_layer : TypeExpr-F Typing (List Section) Section → Typing
type_layer (TypeExpr-F.Ordinal o) = record { denotes = λ env. ordinal_type env o; declares = ordinal_declares o; sites = λ env. ordinal_sites env o }
type_layer (TypeExpr-F.Array packed indices component span) = record {
  denotes = array_denotes span indices component;
  declares = flat_map ordinal_declares indices ++ (component.declares ++ arrays span indices (type_in component));
  sites = λ env. flat_map (ordinal_sites env) indices ++ (component.sites env ++ TypeAt span (has_no_index env indices) (array_denotes span indices component env) ∷ []);
}
type_layer (TypeExpr-F.Fields packed sections span) = record {
  denotes = fields_denote span sections;
  declares = flat_map section_declares sections;
  sites = λ env. flat_map (λ s. s.1.sites env) sections ++ TypeAt span false (fields_denote span sections env) ∷ [];
}
type_layer (TypeExpr-F.Set packed base span) = record {
  denotes = set_denotes span base;
  declares = ordinal_declares base;
  sites = λ env. ordinal_sites env base ++ TypeAt span (is_no_base (ordinal_type env base)) (set_denotes span base env) ∷ [];
}

abbrev pub fields_layer : Fields-F Typing (List Section) Section → List Section
fields_layer fs = fs.sections

abbrev pub typed_layer : TypedNames-F Typing (List Section) Section → Section
typed_layer x = (x.names.names, x.type_expr)

unfoldable pub typing : TypeExpr → Typing
typing = fold-TypeExpr Typing (List Section) Section type_layer fields_layer typed_layer

unfoldable pub fields : Fields → List Section
fields = fold-Fields Typing (List Section) Section type_layer fields_layer typed_layer

unfoldable pub typed_names : TypedNames → Section
typed_names = fold-TypedNames Typing (List Section) Section type_layer fields_layer typed_layer
