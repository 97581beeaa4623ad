-- What a name in use means: what its declaration says, in terms of the declarations before it.
use Rattle.std.specs.Prelude.{ℕ, nat_eq, Bool, true, false, if◌then◌else◌, List, [], ◌∷◌, ◌++◌, fold, map, Option, Some, None, ℤ, pos, neg_ℤ, int_lt}
use Rattle.std.specs.Option.{is_some}
use Rattle.std.specs.Map.{lookup}
use Rattle.std.specs.Str.{bytes_eq}
use Rattle.estelle_tree.specs.declared.span.Span.{Span}
use Rattle.estelle_tree.specs.declared.names.Use.{Use}
use Rattle.estelle_tree.specs.declared.tree.name.Name.{Name}
use Rattle.estelle_tree.specs.declared.required.RequiredIdentifier.{RequiredIdentifier}
use Rattle.estelle_tree.specs.declared.required.RequiredIdentifier.TheVariants as identifier
use Rattle.estelle_tree.specs.Required.{identifiers, maxint, least_integer}
use Rattle.estelle_tree.specs.declared.tree.type_expr.Sign.{Sign}
use Rattle.estelle_tree.specs.declared.tree.type_expr.Sign.TheVariants as sign
use Rattle.estelle_tree.specs.declared.tree.type_expr.Const.{Const}
use Rattle.estelle_tree.specs.declared.tree.type_expr.Const.TheVariants as const
use Rattle.type_rules.specs.declared.types.Host.{Host}
use Rattle.type_rules.specs.declared.types.Host.TheVariants as host
use Rattle.type_rules.specs.declared.types.PascalType.{PascalType}
use Rattle.type_rules.specs.declared.types.PascalType.TheVariants as t
use Rattle.type_rules.specs.declared.types.Value.{Value}
use Rattle.type_rules.specs.declared.types.Denoted.{Denoted}
use Rattle.type_rules.specs.declared.meanings.Parameter.{Parameter}
use Rattle.type_rules.specs.declared.meanings.Meaning.{Meaning}
use Rattle.type_rules.specs.declared.meanings.Meaning.TheVariants.{Nothing, Constant, TypeName, Variable, ArrayType, Procedure, Function, RequiredFunction, Body}
use Rattle.type_rules.specs.declared.meanings.Entity.{Entity}
use Rattle.type_rules.specs.Types.{at_fault, simple}

abbrev pub Parameters : Type 0
Parameters = List Parameter

-- what is known where declarations speak: for each place of a name in use the name in its declaration, and for each place of a declaration what it says
pub record Env : Type 0 where
  pub uses : List (ℕ × Span)
  pub places : List (ℕ × Entity)

-- ---- required identifiers (ISO 7185, 6.4.2.2, 6.6.6)

abbrev pub whole : Host → ℤ → ℤ → Meaning
whole h low high = TypeName (simple (Some (t.Whole h)) low high)

abbrev pub valued : Host → ℤ → Meaning
valued h n = Constant (Some h) (Some (record { host = h; ordinal = n }))

abbrev pub meaning_of_required : RequiredIdentifier → Meaning
meaning_of_required identifier.Integer = whole host.Integer least_integer maxint
meaning_of_required identifier.Boolean = whole host.Boolean (pos 0) (pos 1)
meaning_of_required identifier.Char = whole host.Char (pos 0) (pos 255)
meaning_of_required identifier.False = valued host.Boolean (pos 0)
meaning_of_required identifier.True = valued host.Boolean (pos 1)
meaning_of_required identifier.Maxint = valued host.Integer maxint
meaning_of_required (identifier.Function f) = RequiredFunction f

abbrev pub required : List (List ℕ × Meaning)
required = map (λ e. (e.0, meaning_of_required e.1)) identifiers

abbrev pub or_nothing : Option Meaning → Meaning
or_nothing None = Nothing
or_nothing (Some m) = m

unfoldable pub required_meaning : List ℕ → Meaning
required_meaning w = or_nothing (lookup (bytes_eq w) required)

-- ---- what a name means

-- what is declared nowhere
abbrev pub nothing_declared : Entity
nothing_declared = record { meaning = Nothing; parameters = [] }

abbrev pub or_undeclared : Option Entity → Entity
or_undeclared None = nothing_declared
or_undeclared (Some e) = e

-- what is declared at a place
unfoldable pub entity_at : Env → ℕ → Entity
entity_at env at = or_undeclared (lookup (nat_eq at) env.places)

-- the name in the declaration of a name in use
unfoldable pub declaration_of : Env → Name → Option Span
declaration_of env x = lookup (nat_eq x.span.start) env.uses

-- a required identifier is declared nowhere
abbrev pub meaning_by : Env → Name → Option Span → Meaning
meaning_by env x None = Nothing
meaning_by env x (Some decl) = if nat_eq decl.end 0 then required_meaning x.word else (entity_at env decl.start).meaning

unfoldable pub known : Env → Name → Meaning
known env x = meaning_by env x (declaration_of env x)

-- a body takes the parameters of its header
abbrev pub parameters_by : Env → Entity → Meaning → Parameters
parameters_by env e (Body header) = (entity_at env header).parameters
parameters_by env e m = e.parameters

abbrev pub parameters_at : Env → Option Span → Parameters
parameters_at env None = []
parameters_at env (Some decl) = if nat_eq decl.end 0 then [] else parameters_by env (entity_at env decl.start) (entity_at env decl.start).meaning

-- the parameters of what a name means
unfoldable pub parameters : Env → Name → Parameters
parameters env x = parameters_at env (declaration_of env x)

-- an array type is declared where it begins
unfoldable pub array_of : Env → PascalType → Meaning
array_of env (t.Array at) = (entity_at env at.start).meaning
array_of env u = Nothing

-- ---- declarations

-- a declaration, by where its name begins: what it says, in terms of what is known there. An array type is one too, by where it begins
pub record Declaration : Type 0 where
  pub at : ℕ
  pub says : Env → Entity

abbrev pub Declarations : Type 0
Declarations = List Declaration

-- with what stands at a place; the first stays
abbrev pub put_first : {A : Type 0} → ℕ → A → List (ℕ × A) → List (ℕ × A)
put_first at v es = if is_some (lookup (nat_eq at) es) then es else es ++ (at, v) ∷ []

-- with what is declared at a place
unfoldable pub with_entity : Env → ℕ → Entity → Env
with_entity env at e = record { uses = env.uses; places = put_first at e env.places }

-- with one more declaration, which speaks of those before it
unfoldable pub declare_one : Env → Declaration → Env
declare_one env d = with_entity env d.at (d.says env)

unfoldable pub declare_all : Env → Declarations → Env
declare_all = fold declare_one

-- with the declaration of one more name in use
abbrev pub with_use : List (ℕ × Span) → Use → List (ℕ × Span)
with_use uses u = put_first u.at.start u.decl uses

-- before any declaration
abbrev pub start : List Use → Env
start uses = record { uses = fold with_use [] uses; places = [] }

abbrev pub env_of : List Use → Declarations → Env
env_of uses ds = declare_all (start uses) ds

-- ---- what a meaning tells

abbrev pub type_denoted : Meaning → Denoted
type_denoted (TypeName d) = d
type_denoted m = at_fault

-- the type that a name of a type names
abbrev pub named_type : Env → Name → Option PascalType
named_type env x = (type_denoted (known env x)).type_

abbrev pub variable_type : Meaning → Option PascalType
variable_type (Variable u) = u
variable_type m = None

abbrev pub index_type : Meaning → Option PascalType
index_type (ArrayType index component) = index
index_type m = None

abbrev pub component_type : Meaning → Option PascalType
component_type (ArrayType index component) = component
component_type m = None

-- where the specification or body begins that declares a routine
abbrev pub body_of : Meaning → ℕ
body_of (Procedure body) = body
body_of (Function u body) = body
body_of m = 0

abbrev pub names_function : Meaning → Bool
names_function (Function u body) = true
names_function m = false

-- ---- constants (6.3)

abbrev pub constant_host : Meaning → Option Host
constant_host (Constant h v) = h
constant_host m = None

abbrev pub constant_value : Meaning → Option Value
constant_value (Constant h v) = v
constant_value m = None

abbrev pub is_integer_host : Host → Bool
is_integer_host host.Integer = true
is_integer_host h = false

-- only an integer has a sign
abbrev pub signed_host : Option Sign → Option Host → Option Host
signed_host None h = h
signed_host (Some s) None = None
signed_host (Some s) (Some h) = if is_integer_host h then Some h else None

-- the integer of the other sign; what is less than each integer, as no constant in a text is, has maxint
abbrev pub negated_number : ℤ → ℤ
negated_number n = if int_lt n least_integer then maxint else neg_ℤ n

abbrev pub signed_number : Option Sign → ℤ → ℤ
signed_number None n = n
signed_number (Some sign.Plus) n = n
signed_number (Some sign.Minus) n = negated_number n

abbrev pub with_host : Option Host → ℤ → Option Value
with_host None n = None
with_host (Some h) n = Some (record { host = h; ordinal = n })

abbrev pub signed_value : Option Sign → Option Value → Option Value
signed_value s None = None
signed_value s (Some v) = with_host (signed_host s (Some v.host)) (signed_number s v.ordinal)

-- the type of a constant
unfoldable pub const_host : Env → Const → Option Host
const_host env (const.Number s n span) = Some host.Integer
const_host env (const.Name s x span) = signed_host s (constant_host (known env x))
const_host env (const.Char c span) = Some host.Char

-- the value of a constant; one with a sign before a name that is no integer has none, and a name of `any` has none
unfoldable pub const_value : Env → Const → Option Value
const_value env (const.Number s n span) = Some (record { host = host.Integer; ordinal = signed_number s n })
const_value env (const.Name s x span) = signed_value s (constant_value (known env x))
const_value env (const.Char c span) = Some (record { host = host.Char; ordinal = pos c })

-- a constant as it is declared
abbrev pub constant : Option Value → Meaning
constant None = Constant None None
constant (Some v) = Constant (Some v.host) (Some v)
