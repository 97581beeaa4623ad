-- What type denoters denote and declare (ISO 7185, 6.4).
use Rattle.std.specs.Prelude.{ℕ, suc, ◌+◌, ◌-◌, List, [], ◌∷◌, ◌++◌, length, map, replicate, flat_map, ℤ, pos, unwrap_or, Result}
use Rattle.std.specs.Result.{result_ok}
use Rattle.pascal_values.specs.declared.value.Value.TheVariants as pascal
use Rattle.estelle_tree.specs.declared.tree.name.Name.{Name}
use Rattle.estelle_tree.specs.declared.tree.type_expr.Const.{Const}
use Rattle.estelle_tree.specs.declared.tree.type_expr.Ordinal.{Ordinal}
use Rattle.estelle_tree.specs.declared.tree.type_expr.Ordinal.TheVariants as ordinal
use Rattle.estelle_tree.specs.declared.tree.type_expr.TypeExpr.{TypeExpr}
use Rattle.estelle_tree.specs.declared.tree.type_expr.TypeExpr.TheOpen.{TypeExpr-F, Fields-F, TypedNames-F}
use Rattle.estelle_tree.specs.declared.tree.type_expr.TypeExpr.TheFolds.{fold-TypeExpr, fold-TypedNames}
use Rattle.estelle_tree.specs.declared.tree.type_expr.TypedNames.{TypedNames}
use Rattle.estelle_model.specs.declared.denoter.Host.{Host}
use Rattle.estelle_model.specs.declared.denoter.Host.TheVariants as host
use Rattle.estelle_model.specs.declared.denoter.Denoter.{Denoter}
use Rattle.estelle_model.specs.declared.denoter.Denoter.TheVariants as denoter
use Rattle.estelle_model.specs.Stops.{Stop}
use Rattle.estelle_model.specs.Types.{ordinal_of, whole, host_of, range_of}
use Rattle.estelle_model.specs.Operators.{◌>>>◌}
use Rattle.estelle_model.specs.declared.meaning.Meaning.{Meaning}
use Rattle.estelle_model.specs.declared.meaning.Meaning.TheVariants.{Constant, TypeName, Field}
use Rattle.estelle_model.specs.Meant.{Meanings}
use Rattle.estelle_model.specs.Constants.{constant_of, host_of_const}

-- what is declared together: for each name where it begins and what it means, in terms of what names mean there
pub record Declaration : Type 0 where
  pub says : Meanings → List (ℕ × Meaning)

abbrev pub Declarations : Type 0
Declarations = List Declaration

abbrev pub declare : Name → (Meanings → Meaning) → Declaration
declare x says = record { says = λ known. (x.span.start, says known) ∷ [] }

-- names declared one after another, with rising numbers
abbrev pub numbered : (ℕ → Meanings → Meaning) → ℕ → List Name → Declarations
numbered says n [] = []
numbered says n (x ∷ xs) = declare x (says n) ∷ numbered says (suc n) xs

-- ---- ordinal types (6.4.2)

abbrev pub type_of_meaning : Meaning → Denoter
type_of_meaning (TypeName t) = t
type_of_meaning _ = whole host.Integer

-- the type that a name names
abbrev pub named_type : Meanings → Name → Denoter
named_type known x = type_of_meaning (known x)

abbrev pub bound_at : Result ℤ Stop → ℤ
bound_at r = unwrap_or (result_ok r) (pos 0)

abbrev pub bound : Meanings → Const → ℤ
bound known c = bound_at (constant_of known c >>> ordinal_of)

abbrev pub enumeration : List Name → Host
enumeration names = host.Enumeration (length names - 1)

abbrev pub ordinal_type : Meanings → Ordinal → Denoter
ordinal_type known (ordinal.Name x) = named_type known x
ordinal_type known (ordinal.Enumeration names span) = whole (enumeration names.names)
ordinal_type known (ordinal.Subrange low high span) = denoter.Ordinal (host_of_const known low) (bound known low) (bound known high)

-- the values of an enumeration have the ordinals 0, 1 and so on
abbrev pub ordinal_declares : Ordinal → Declarations
ordinal_declares (ordinal.Enumeration names span) = numbered (λ n known. Constant (pascal.Enum n) (enumeration names.names)) 0 names.names
ordinal_declares _ = []

-- ---- types (6.4.3)

-- what a type expression denotes, and what is declared in it
pub record Typing : Type 0 where
  pub denotes : Meanings → Denoter
  pub declares : Declarations

-- names of one type
abbrev pub Section : Type 0
Section = List Name × Typing

-- what names with rising numbers mean
abbrev pub rising : (ℕ → Meaning) → ℕ → List Name → List (ℕ × Meaning)
rising mean n [] = []
rising mean n (x ∷ xs) = (x.span.start, mean n) ∷ rising mean (suc n) xs

-- the names of a section are declared together, with rising numbers
abbrev pub section_names : (Meanings → ℕ → Denoter → Meaning) → ℕ → Section → Declaration
section_names mean n s = record { says = λ known. rising (λ k. mean known k (s.1.denotes known)) n s.0 }

-- what the types of sections declare
abbrev pub types_declare : List Section → Declarations
types_declare = flat_map (λ s. s.1.declares)

-- the names of sections one after another, with rising numbers
abbrev pub sections_declare : (Meanings → ℕ → Denoter → Meaning) → ℕ → List Section → Declarations
sections_declare mean n [] = []
sections_declare mean n (s ∷ ss) = section_names mean n s ∷ sections_declare mean (n + length s.0) ss

-- the type of each name of sections, in order
abbrev pub section_types : Meanings → List Section → List Denoter
section_types known = flat_map (λ s. replicate (length s.0) (s.1.denotes known))

-- how many names sections have
abbrev pub count_names : List Section → ℕ
count_names [] = 0
count_names (s ∷ ss) = length s.0 + count_names ss

abbrev pub set_over : Denoter → Denoter
set_over base = denoter.Set (host_of base) (range_of base).0 (range_of base).1

-- an array of several indices is an array of arrays (6.4.3.2)
abbrev pub array_over : List Denoter → Denoter → Denoter
array_over [] item = item
array_over (i ∷ more) item = denoter.Array (range_of i).0 (range_of i).1 (array_over more item)

abbrev pub type_layer : TypeExpr-F Typing (List Section) Section → Typing
type_layer (TypeExpr-F.Ordinal o) = record { denotes = λ known. ordinal_type known o; declares = ordinal_declares o }
type_layer (TypeExpr-F.Array packed indices component span) = record {
  denotes = λ known. array_over (map (ordinal_type known) indices) (component.denotes known);
  declares = flat_map ordinal_declares indices ++ component.declares;
}
type_layer (TypeExpr-F.Fields packed sections span) = record {
  denotes = λ known. denoter.Fields (section_types known sections);
  declares = types_declare sections ++ sections_declare (λ known n t. Field n) 0 sections;
}
type_layer (TypeExpr-F.Set packed base span) = record { denotes = λ known. set_over (ordinal_type known base); declares = ordinal_declares base }

abbrev pub fields_layer : Fields-F Typing (List Section) Section → List Section
fields_layer fs = fs.sections

abbrev pub typed_layer : TypedNames-F Typing (List Section) Section → Section
typed_layer x = (x.names.names, x.type_expr)

unfoldable pub typing : TypeExpr → Typing
typing = fold-TypeExpr Typing (List Section) Section type_layer fields_layer typed_layer

-- the names of a variable declaration, with their type
unfoldable pub section : TypedNames → Section
section = fold-TypedNames Typing (List Section) Section type_layer fields_layer typed_layer

-- names of a type that is named
abbrev pub of_named_type : List Name → Name → Section
of_named_type xs u = (xs, record { denotes = λ known. named_type known u; declares = [] })
