-- What definitions, routines, blocks and headers declare (ISO 7185, 6.2 and 6.6; ISO/IEC 9074).
use Rattle.std.specs.Prelude.{ℕ, ◌+◌, not, if◌then◌else◌, List, [], ◌∷◌, ◌++◌, length, map, replicate, filter, flat_map, option_to_list, Option, Some, None}
use Rattle.std.specs.List.{list_any}
use Rattle.std.specs.Str.{bytes_eq}
use Rattle.estelle_tree.specs.declared.tree.name.Name.{Name}
use Rattle.estelle_tree.specs.declared.tree.declaration.ConstDef.{ConstDef}
use Rattle.estelle_tree.specs.declared.tree.declaration.TypeDef.{TypeDef}
use Rattle.estelle_tree.specs.declared.tree.declaration.BlockDecl.{BlockDecl}
use Rattle.estelle_tree.specs.declared.tree.declaration.BlockDecl.TheVariants as block_decl
use Rattle.estelle_tree.specs.declared.tree.declaration.Formal.{Formal}
use Rattle.estelle_tree.specs.declared.tree.declaration.Formals.{Formals}
use Rattle.estelle_tree.specs.declared.tree.declaration.Routine.{Routine as RoutineTree}
use Rattle.estelle_tree.specs.declared.tree.declaration.RoutineForm.{RoutineForm}
use Rattle.estelle_tree.specs.declared.tree.declaration.RoutineForm.TheVariants as form
use Rattle.estelle_tree.specs.declared.tree.clause.Block.{Block}
use Rattle.estelle_tree.specs.declared.tree.clause.AnyDom.{AnyDom}
use Rattle.estelle_tree.specs.declared.tree.clause.Clause.{Clause}
use Rattle.estelle_tree.specs.declared.tree.clause.Clause.TheVariants as clause
use Rattle.estelle_tree.specs.declared.tree.specification.Channel.{Channel as ChannelTree}
use Rattle.estelle_tree.specs.declared.tree.specification.InterGroup.{InterGroup}
use Rattle.estelle_tree.specs.declared.tree.specification.Inter.{Inter}
use Rattle.estelle_tree.specs.declared.tree.specification.Params.{Params}
use Rattle.estelle_model.specs.declared.denoter.Denoter.{Denoter}
use Rattle.estelle_model.specs.declared.meaning.Passing.{Passing}
use Rattle.estelle_model.specs.declared.meaning.Passing.TheVariants.{ByValue, ByPlace}
use Rattle.estelle_model.specs.declared.meaning.Meaning.{Meaning}
use Rattle.estelle_model.specs.declared.meaning.Meaning.TheVariants.{TypeName, Local, Var, Called, Channel, Role, Interaction}
use Rattle.estelle_model.specs.declared.meaning.Role.{Role as ChannelRole}
use Rattle.estelle_model.specs.declared.meaning.Role.TheVariants.{First, Second}
use Rattle.estelle_model.specs.declared.meaning.Senders.{Senders}
use Rattle.estelle_model.specs.Meant.{Meanings}
use Rattle.estelle_model.specs.Constants.{const_meaning}
use Rattle.estelle_model.specs.Denoted.{Declarations, declare, named_type, ordinal_declares, Section, types_declare, sections_declare, section_types, typing, section, of_named_type}

-- ---- constant and type definitions, and variables (ISO 7185, 6.3 to 6.5)

abbrev pub const_def : ConstDef → Declarations
const_def d = declare d.name (λ known. const_meaning known d.value) ∷ []

abbrev pub type_def : TypeDef → Declarations
type_def d = (typing d.type_expr).declares ++ declare d.name (λ known. TypeName ((typing d.type_expr).denotes known)) ∷ []

-- what a definition part declares, but for its variables themselves
abbrev pub definitions : BlockDecl → Declarations
definitions (block_decl.Const defs span) = flat_map const_def defs
definitions (block_decl.Types defs span) = flat_map type_def defs
definitions (block_decl.Var vars span) = types_declare (map section vars)

abbrev pub variables_of : BlockDecl → List Section
variables_of (block_decl.Var vars span) = map section vars
variables_of _ = []

abbrev pub local_variables : List BlockDecl → List Section
local_variables = flat_map variables_of

abbrev pub local : Meanings → ℕ → Denoter → Meaning
local known n t = Local n t

-- ---- routines (6.6.1, 6.6.2)

abbrev pub formals_of : Option Formals → List Formal
formals_of fs = flat_map (λ x. x.formals) (option_to_list fs)

abbrev pub formal_section : Formal → Section
formal_section f = of_named_type f.names.names f.type_name

abbrev pub value_formals : RoutineTree → List Section
value_formals r = map formal_section (filter (λ f. not f.is_var) (formals_of r.formals))

abbrev pub var_formals : RoutineTree → List Section
var_formals r = map formal_section (filter (λ f. f.is_var) (formals_of r.formals))

-- one for each name
abbrev pub passings : Meanings → Formal → List Passing
passings known f = replicate (length f.names.names) (if f.is_var then ByPlace else ByValue (named_type known f.type_name))

abbrev pub result_type : Meanings → RoutineForm → Option Denoter
result_type known form.Procedure = None
result_type known (form.Function x) = Some (named_type known x)

abbrev pub routine_meaning : RoutineTree → Meanings → Meaning
routine_meaning r known = Called (record {
  parameters = flat_map (passings known) (formals_of r.formals);
  locals = section_types known (local_variables r.decls);
  result = result_type known r.form;
  body = r.body;
})

-- the value parameters and the routine's own variables have rising numbers, and so have the var parameters
abbrev pub routine_declares : RoutineTree → Declarations
routine_declares r =
    flat_map definitions r.decls
    ++ sections_declare local 0 (value_formals r ++ local_variables r.decls)
    ++ sections_declare (λ known n t. Var n t) 0 (var_formals r)
    ++ declare r.name (routine_meaning r) ∷ []

-- ---- channels, headers and their parameters (ISO/IEC 9074)

abbrev pub parameter_sections : Option Params → List Section
parameter_sections ps = flat_map (λ x. map (λ g. of_named_type g.names.names g.type_name) x.groups) (option_to_list ps)

-- the other role of a channel
abbrev pub opposite : ChannelRole → ChannelRole
opposite First = Second
opposite Second = First

-- the role that a name means; what is none counts as the first
abbrev pub role_at : Meaning → ChannelRole
role_at (Role r) = r
role_at _ = First

-- the channel that a name means, by its place; what is none counts as the place 0
abbrev pub channel_at : Meaning → ℕ
channel_at (Channel at) = at
channel_at _ = 0

-- the roles behind `by`, of the two that the channel names
abbrev pub senders : ChannelTree → InterGroup → Senders
senders c g = record {
  first = list_any (λ x. bytes_eq x.word c.first_role.word) g.roles.names;
  second = list_any (λ x. bytes_eq x.word c.second_role.word) g.roles.names;
}

-- the parameters of an interaction are the first variables of the frame in which it is received
abbrev pub inter_declares : ℕ → Senders → Inter → Declarations
inter_declares channel by x =
    sections_declare local 0 (parameter_sections x.params)
    ++ declare x.name (λ known. Interaction (record { channel = channel; word = x.name.word; senders = by; parameters = section_types known (parameter_sections x.params) })) ∷ []

abbrev pub group_declares : ChannelTree → InterGroup → Declarations
group_declares c g = flat_map (inter_declares c.name.span.start (senders c g)) g.inters

-- a channel is known by the place of its name
abbrev pub channel_declares : ChannelTree → Declarations
channel_declares c =
    declare c.name (λ known. Channel c.name.span.start)
    ∷ declare c.first_role (λ known. Role First)
    ∷ declare c.second_role (λ known. Role Second)
    ∷ flat_map (group_declares c) c.groups

-- ---- blocks and clauses

abbrev pub types_received : Meaning → List Denoter
types_received (Interaction kind) = kind.parameters
types_received _ = []

-- the interaction of a `when` clause
abbrev pub interaction_of : Clause → List Name
interaction_of (clause.When ip x params span) = x ∷ []
interaction_of _ = []

-- the types of the parameters of the interaction that is received under these clauses
abbrev pub received : Meanings → List Clause → List Denoter
received known cs = flat_map (λ x. types_received (known x)) (flat_map interaction_of cs)

abbrev pub domains_of : Clause → List AnyDom
domains_of (clause.Any domains span) = domains
domains_of _ = []

-- the values of the enumerations in the domains of an `any` clause
abbrev pub clause_declares : Clause → Declarations
clause_declares c = flat_map (λ d. ordinal_declares d.domain) (domains_of c)

-- a block under these clauses: its own variables are numbered behind the parameters of the interaction
abbrev pub block_declares : List Clause → Block → Declarations
block_declares cs b =
    flat_map definitions b.decls
    ++ sections_declare (λ known n t. Local (length (received known cs) + n) t) 0 (local_variables b.decls)
