-- What each name in use means: what its declaration says of it.
use Rattle.std.specs.Prelude.{ℕ, nat_eq, true, false, if◌then◌else◌, List, [], ◌∷◌, fold, map, Option, Some, None}
use Rattle.std.specs.Str.{bytes_eq}
use Rattle.std.specs.Map.{lookup}
use Rattle.pascal_values.specs.declared.value.Value.TheVariants as pascal
use Rattle.estelle_tree.specs.declared.span.Span.{Span}
use Rattle.estelle_tree.specs.declared.names.Use.{Use}
use Rattle.estelle_tree.specs.declared.required.RequiredIdentifier.{RequiredIdentifier}
use Rattle.estelle_tree.specs.declared.required.RequiredIdentifier.TheVariants as identifier
use Rattle.estelle_tree.specs.Required.{identifiers}
use Rattle.estelle_tree.specs.declared.tree.name.Name.{Name}
use Rattle.estelle_model.specs.declared.denoter.Host.TheVariants as host
use Rattle.estelle_model.specs.Types.{greatest, whole}
use Rattle.estelle_model.specs.declared.meaning.Meaning.{Meaning}
use Rattle.estelle_model.specs.declared.meaning.Meaning.TheVariants.{Constant, TypeName, RequiredFunction, Other}
use Rattle.estelle_model.specs.Meant.{Meanings}
use Rattle.estelle_model.specs.Denoted.{Declaration, Declarations}

-- what the required identifiers mean (ISO 7185, 6.3, 6.4.2.2 and 6.6.6)
abbrev pub meaning_of_required : RequiredIdentifier → Meaning
meaning_of_required identifier.Integer = TypeName (whole host.Integer)
meaning_of_required identifier.Boolean = TypeName (whole host.Boolean)
meaning_of_required identifier.Char = TypeName (whole host.Char)
meaning_of_required identifier.False = Constant (pascal.Bool false) host.Boolean
meaning_of_required identifier.True = Constant (pascal.Bool true) host.Boolean
meaning_of_required identifier.Maxint = Constant (pascal.Int (greatest host.Integer)) host.Integer
meaning_of_required (identifier.Function f) = RequiredFunction f

-- by their words
abbrev pub required : List (List ℕ × Meaning)
required = map (λ e. (e.0, meaning_of_required e.1)) identifiers

abbrev pub or_other : Option Meaning → Meaning
or_other None = Other
or_other (Some m) = m

abbrev pub required_meaning : List ℕ → Meaning
required_meaning w = or_other (lookup (bytes_eq w) required)

-- what is declared at each place, the latest first
abbrev pub Declared : Type 0
Declared = List (ℕ × Meaning)

-- what is declared at a place
abbrev pub at_place : Declared → ℕ → Meaning
at_place known place = or_other (lookup (nat_eq place) known)

-- the name in the declaration of a name in use
abbrev pub declaration_of : List Use → Name → Option Span
declaration_of [] x = None
declaration_of (u ∷ us) x = if nat_eq u.at.start x.span.start then Some u.decl else declaration_of us x

-- a required identifier is declared nowhere
abbrev pub meaning_at : Declared → Name → Option Span → Meaning
meaning_at known x None = Other
meaning_at known x (Some decl) = if nat_eq decl.end 0 then required_meaning x.word else at_place known decl.start

-- what the names in use mean, by what is declared
abbrev pub meant_by : List Use → Declared → Meanings
meant_by names known = λ x. meaning_at known x (declaration_of names x)

-- with one more declaration, which speaks of those before it
abbrev pub with_one : List Use → Declared → Declaration → Declared
with_one names known d = fold (λ k e. e ∷ k) known (d.says (meant_by names known))

abbrev pub with_all : List Use → Declared → Declarations → Declared
with_all names known ds = fold (with_one names) known ds

abbrev pub none_yet : Declared
none_yet = []

-- what is declared at each place
abbrev pub declared : List Use → Declarations → Declared
declared names ds = with_all names none_yet ds
