-- What the parts of a specification declare, and where rules speak of them (ISO 7185, 6.2 and 6.6; ISO/IEC 9074).
use Rattle.std.specs.Prelude.{ℕ, Bool, true, false, if◌then◌else◌, List, [], ◌∷◌, ◌++◌, map, Option, Some, None}
use Rattle.std.specs.List.{flat_map}
use Rattle.estelle_tree.specs.declared.span.Span.{Span}
use Rattle.estelle_tree.specs.declared.names.Names.{Names}
use Rattle.estelle_tree.specs.declared.tree.name.Name.{Name}
use Rattle.estelle_tree.specs.declared.tree.type_expr.TypedNames.{TypedNames}
use Rattle.estelle_tree.specs.declared.tree.declaration.ConstDef.{ConstDef}
use Rattle.estelle_tree.specs.declared.tree.declaration.TypeDef.{TypeDef}
use Rattle.estelle_tree.specs.declared.tree.declaration.BlockDecl.{BlockDecl}
use Rattle.estelle_tree.specs.declared.tree.declaration.BlockDecl.TheVariants as block_decl
use Rattle.estelle_tree.specs.declared.tree.declaration.Formal.{Formal}
use Rattle.estelle_tree.specs.declared.tree.declaration.Formals.{Formals}
use Rattle.estelle_tree.specs.declared.tree.declaration.Routine.{Routine}
use Rattle.estelle_tree.specs.declared.tree.declaration.RoutineForm.{RoutineForm}
use Rattle.estelle_tree.specs.declared.tree.declaration.RoutineForm.TheVariants as form
use Rattle.estelle_tree.specs.declared.tree.clause.Block.{Block}
use Rattle.estelle_tree.specs.declared.tree.clause.AnyDom.{AnyDom}
use Rattle.estelle_tree.specs.declared.tree.clause.DelayHigh.{DelayHigh}
use Rattle.estelle_tree.specs.declared.tree.clause.DelayHigh.TheVariants as delay_high
use Rattle.estelle_tree.specs.declared.tree.clause.Clause.{Clause}
use Rattle.estelle_tree.specs.declared.tree.clause.Clause.TheVariants as clause
use Rattle.estelle_tree.specs.declared.tree.clause.TransBody.{TransBody}
use Rattle.estelle_tree.specs.declared.tree.clause.TransBody.TheOpen.{TransBody-F, Group-F}
use Rattle.estelle_tree.specs.declared.tree.clause.TransBody.TheFolds.{fold-TransBody, fold-Group}
use Rattle.estelle_tree.specs.declared.tree.clause.Group.{Group}
use Rattle.estelle_tree.specs.declared.tree.specification.Spec.{Spec}
use Rattle.estelle_tree.specs.declared.tree.specification.Init.{Init}
use Rattle.estelle_tree.specs.declared.tree.specification.Parts.{Parts}
use Rattle.estelle_tree.specs.declared.tree.specification.Decl.{Decl}
use Rattle.estelle_tree.specs.declared.tree.specification.Decl.TheOpen.{Decl-F, Body-F, Parts-F}
use Rattle.estelle_tree.specs.declared.tree.specification.Decl.TheFolds.{fold-Decl, fold-Body, fold-Parts}
use Rattle.estelle_tree.specs.declared.tree.specification.Body.{Body}
use Rattle.estelle_tree.specs.declared.tree.specification.Channel.{Channel}
use Rattle.estelle_tree.specs.declared.tree.specification.InterGroup.{InterGroup}
use Rattle.estelle_tree.specs.declared.tree.specification.Inter.{Inter}
use Rattle.estelle_tree.specs.declared.tree.specification.Params.{Params}
use Rattle.estelle_tree.specs.declared.tree.specification.ParamGroup.{ParamGroup}
use Rattle.estelle_tree.specs.declared.tree.specification.Header.{Header}
use Rattle.estelle_tree.specs.declared.tree.specification.IpDecl.{IpDecl}
use Rattle.estelle_tree.specs.declared.tree.specification.ModvarDecl.{ModvarDecl}
use Rattle.estelle_tree.specs.Spans.{of_const}
use Rattle.type_rules.specs.declared.meanings.Parameter.{Parameter}
use Rattle.type_rules.specs.declared.meanings.Meaning.{Meaning}
use Rattle.type_rules.specs.declared.meanings.Meaning.TheVariants as meaning
use Rattle.type_rules.specs.declared.meanings.Entity.{Entity}
use Rattle.type_rules.specs.declared.sites.Wanted.TheVariants.{AnInteger}
use Rattle.type_rules.specs.declared.sites.Site.{Site}
use Rattle.type_rules.specs.declared.sites.Site.TheVariants.{PriorityAt, VarFormal, ResultAt}
use Rattle.type_rules.specs.declared.sites.Place.{Place}
use Rattle.type_rules.specs.Types.{host_in}
use Rattle.type_rules.specs.Meanings.{Parameters, Declaration, Declarations, Env, env_of, named_type, declaration_of, constant, const_host, const_value}
use Rattle.type_rules.specs.declared.sites.PlacedSite.{PlacedSite}
use Rattle.type_rules.specs.Sites.{Sites}
use Rattle.type_rules.specs.TypeSites.{const_site, meaning_only, ordinal_type, ordinal_declares, ordinal_sites, variables, section_declares, typing, typed_names}
use Rattle.type_rules.specs.StatementSites.{wanting, condition, stmts}

-- a part: what it declares, and where rules speak of it
pub record Part : Type 0 where
  pub declares : Declarations
  pub sites : Env → Sites

abbrev pub nothing : Part
nothing = record { declares = []; sites = λ env. [] }

abbrev pub all_of : List Part → Part
all_of ps = record { declares = flat_map (λ p. p.declares) ps; sites = λ env. flat_map (λ p. p.sites env) ps }

-- a name is declared
abbrev pub declare : Name → (Env → Entity) → Declaration
declare x says = record { at = x.span.start; says = says }

-- a name is declared as this, without parameters
abbrev pub declare_as : (Env → Meaning) → Name → Declaration
declare_as says x = declare x (λ env. meaning_only (says env))

-- ---- definitions (6.3, 6.4, 6.5)

abbrev pub const_def : ConstDef → Part
const_def x = record { declares = declare_as (λ env. constant (const_value env x.value)) x.name ∷ []; sites = λ env. const_site env x.value }

abbrev pub type_def : TypeDef → Part
type_def x = record { declares = (typing x.type_expr).declares ++ declare_as (λ env. meaning.TypeName ((typing x.type_expr).denotes env)) x.name ∷ []; sites = λ env. (typing x.type_expr).sites env }

abbrev pub var_decl : TypedNames → Part
var_decl x = record { declares = section_declares (typed_names x); sites = λ env. (typed_names x).1.sites env }

abbrev pub block_decl_part : BlockDecl → Part
block_decl_part (block_decl.Const defs span) = all_of (map const_def defs)
block_decl_part (block_decl.Types defs span) = all_of (map type_def defs)
block_decl_part (block_decl.Var vars span) = all_of (map var_decl vars)

-- ---- parameters (6.6.3)

-- parameters that are variables of a named type
abbrev pub named_variables : List Name → Name → Declarations
named_variables xs u = variables (λ env. named_type env u) xs

abbrev pub parameter : Env → Bool → Name → Parameter
parameter env is_var u = record { is_var = is_var; type_ = named_type env u }

-- one for each name
abbrev pub parameters : Env → Bool → List Name → Name → Parameters
parameters env is_var xs u = map (λ x. parameter env is_var u) xs

abbrev pub formals_of : Option Formals → List Formal
formals_of None = []
formals_of (Some x) = x.formals

abbrev pub formal_one : Env → Formal → Parameters
formal_one env f = parameters env f.is_var f.names.names f.type_name

abbrev pub formal_parameters : Env → Option Formals → Parameters
formal_parameters env fs = flat_map (formal_one env) (formals_of fs)

abbrev pub formal_variables : Formal → Declarations
formal_variables f = named_variables f.names.names f.type_name

abbrev pub groups_of : Option Params → List ParamGroup
groups_of None = []
groups_of (Some x) = x.groups

abbrev pub group_one : Env → ParamGroup → Parameters
group_one env g = parameters env false g.names.names g.type_name

abbrev pub value_parameters : Env → Option Params → Parameters
value_parameters env ps = flat_map (group_one env) (groups_of ps)

abbrev pub group_variables : ParamGroup → Declarations
group_variables g = named_variables g.names.names g.type_name

abbrev pub params_declare : Option Params → Declarations
params_declare ps = flat_map group_variables (groups_of ps)

-- ---- routines (6.6.1, 6.6.2)

-- a routine that is declared in the specification or body that begins there
abbrev pub routine_meaning : ℕ → RoutineForm → Env → Meaning
routine_meaning body form.Procedure env = meaning.Procedure body
routine_meaning body (form.Function result) env = meaning.Function (named_type env result) body

abbrev pub routine_says : ℕ → Routine → Env → Entity
routine_says body r env = record { meaning = routine_meaning body r.form env; parameters = formal_parameters env r.formals }

abbrev pub result_sites : Env → RoutineForm → Sites
result_sites env form.Procedure = []
result_sites env (form.Function result) = ResultAt result.span (named_type env result) ∷ []

abbrev pub var_formals : Formal → Sites
var_formals f = if f.is_var then VarFormal f.span ∷ [] else []

abbrev pub routine : ℕ → Routine → Part
routine body r = record {
  declares = declare r.name (routine_says body r) ∷ (flat_map formal_variables (formals_of r.formals) ++ (all_of (map block_decl_part r.decls)).declares);
  sites = λ env. flat_map var_formals (formals_of r.formals) ++ (result_sites env r.form ++ ((all_of (map block_decl_part r.decls)).sites env ++ stmts env r.body));
}

-- ---- blocks and clauses

abbrev pub block : Block → Part
block b = record {
  declares = (all_of (map block_decl_part b.decls)).declares;
  sites = λ env. (all_of (map block_decl_part b.decls)).sites env ++ stmts env b.body;
}

abbrev pub high_sites : Env → Option DelayHigh → Sites
high_sites env None = []
high_sites env (Some (delay_high.Expr e)) = wanting env AnInteger e
high_sites env (Some delay_high.Star) = []

-- a name of `any` is a constant of its domain's type, and has no value
abbrev pub chosen_name : AnyDom → Name → Declaration
chosen_name x = declare_as (λ env. meaning.Constant (host_in (ordinal_type env x.domain).type_) None)

abbrev pub chosen : AnyDom → Declarations
chosen x = map (chosen_name x) x.names.names

abbrev pub any_part : List AnyDom → Part
any_part domains = record { declares = flat_map (λ x. ordinal_declares x.domain) domains ++ flat_map chosen domains; sites = λ env. flat_map (λ x. ordinal_sites env x.domain) domains }

abbrev pub clause_part : Clause → Part
clause_part (clause.From states span) = nothing
clause_part (clause.To state span) = nothing
clause_part (clause.When ip interaction params span) = nothing
clause_part (clause.Provided e span) = record { declares = []; sites = λ env. condition env e }
clause_part (clause.Priority c span) = record { declares = []; sites = λ env. PriorityAt (of_const c) (const_host env c) ∷ [] }
clause_part (clause.Any domains span) = any_part domains
clause_part (clause.Delay low high span) = record { declares = []; sites = λ env. wanting env AnInteger low ++ high_sites env high }

abbrev pub trans_body_layer : TransBody-F Part Part → Part
trans_body_layer (TransBody-F.Block b) = block b
trans_body_layer (TransBody-F.Groups groups span) = all_of groups

abbrev pub group_layer : Group-F Part Part → Part
group_layer g = record { declares = (clause_part g.clause).declares ++ g.body.declares; sites = λ env. (clause_part g.clause).sites env ++ g.body.sites env }

unfoldable pub trans_body : TransBody → Part
trans_body = fold-TransBody Part Part trans_body_layer group_layer

unfoldable pub group : Group → Part
group = fold-Group Part Part trans_body_layer group_layer

-- ---- channels, headers and bodies

abbrev pub interaction_says : Inter → Env → Entity
interaction_says x env = record { meaning = meaning.Interaction; parameters = value_parameters env x.params }

abbrev pub inter : Inter → Declarations
inter x = declare x.name (interaction_says x) ∷ params_declare x.params

abbrev pub inter_group : InterGroup → Declarations
inter_group g = flat_map inter g.inters

abbrev pub channel : Channel → Declarations
channel c = flat_map inter_group c.groups

abbrev pub ip_decl : IpDecl → Declarations
ip_decl p = map (declare_as (λ env. meaning.Ip)) p.names.names

abbrev pub header_says : Header → Env → Entity
header_says h env = record { meaning = meaning.Header; parameters = value_parameters env h.params }

abbrev pub header : Header → Part
header h = record {
  declares = declare h.name (header_says h) ∷ (params_declare h.params ++ (flat_map ip_decl h.ips ++ (all_of (map var_decl h.exports)).declares));
  sites = (all_of (map var_decl h.exports)).sites;
}

abbrev pub modvar_decl : ModvarDecl → Declarations
modvar_decl m = map (declare_as (λ env. meaning.ModuleVariable)) m.names.names

abbrev pub place_or_none : Option Span → ℕ
place_or_none None = 0
place_or_none (Some decl) = decl.start

-- a body names its header
abbrev pub body_meaning : Name → Env → Meaning
body_meaning header env = meaning.Body (place_or_none (declaration_of env header))

abbrev pub body_name : Name → Name → Declaration
body_name name header = declare_as (body_meaning header) name

-- the parts of a specification or body, by where it begins: what they declare, and where rules speak of them
pub record PlacedPart : Type 0 where
  pub declares : ℕ → Declarations
  pub sites : Env → ℕ → List PlacedSite

-- in this body and in no routine
abbrev pub in_body : ℕ → Place
in_body body = record { body = body; routine = None }

abbrev pub is_function : RoutineForm → Bool
is_function form.Procedure = false
is_function (form.Function result) = true

-- in a routine of this body
abbrev pub in_routine : ℕ → Routine → Place
in_routine body r = record { body = body; routine = Some (record { span = r.span; name = r.name.span; is_function = is_function r.form }) }

abbrev pub placed_one : Place → Site → PlacedSite
placed_one place s = record { place = place; site = s }

abbrev pub placed : Place → Sites → List PlacedSite
placed place = map (placed_one place)

abbrev pub standing : Part → PlacedPart
standing p = record { declares = λ at. p.declares; sites = λ env at. placed (in_body at) (p.sites env) }

abbrev pub declaring : Declarations → PlacedPart
declaring ds = record { declares = λ at. ds; sites = λ env at. [] }

abbrev pub routine_standing : Routine → PlacedPart
routine_standing r = record { declares = λ at. (routine at r).declares; sites = λ env at. placed (in_routine at r) ((routine at r).sites env) }

abbrev pub decl_layer : Decl-F PlacedPart PlacedPart PlacedPart → PlacedPart
decl_layer (Decl-F.Const defs span) = standing (all_of (map const_def defs))
decl_layer (Decl-F.Types defs span) = standing (all_of (map type_def defs))
decl_layer (Decl-F.Channel c) = declaring (channel c)
decl_layer (Decl-F.Header h) = standing (header h)
decl_layer (Decl-F.Body b) = b
decl_layer (Decl-F.Ip ips span) = declaring (flat_map ip_decl ips)
decl_layer (Decl-F.Modvar ms span) = declaring (flat_map modvar_decl ms)
decl_layer (Decl-F.Var vars span) = standing (all_of (map var_decl vars))
decl_layer (Decl-F.State states span) = declaring []
decl_layer (Decl-F.Stateset sets span) = declaring []
decl_layer (Decl-F.Routine r) = routine_standing r

-- a body is one of those in which it stands, and what stands in it begins anew
abbrev pub body_layer : Body-F PlacedPart PlacedPart PlacedPart → PlacedPart
body_layer b = record {
  declares = λ at. body_name b.name b.header ∷ b.parts.declares b.span.start;
  sites = λ env at. b.parts.sites env b.span.start;
}

abbrev pub init_part : Option Init → Part
init_part None = nothing
init_part (Some x) = block x.block

abbrev pub parts_layer : Parts-F PlacedPart PlacedPart PlacedPart → PlacedPart
parts_layer ps = record {
  declares = λ at. flat_map (λ d. d.declares at) ps.decls ++ ((init_part ps.init).declares ++ flat_map (λ x. (trans_body x.body).declares) ps.trans);
  sites = λ env at. flat_map (λ d. d.sites env at) ps.decls ++ (placed (in_body at) ((init_part ps.init).sites env) ++ flat_map (λ x. placed (in_body at) ((trans_body x.body).sites env)) ps.trans);
}

unfoldable pub decl : Decl → PlacedPart
decl = fold-Decl PlacedPart PlacedPart PlacedPart decl_layer body_layer parts_layer

unfoldable pub body : Body → PlacedPart
body = fold-Body PlacedPart PlacedPart PlacedPart decl_layer body_layer parts_layer

unfoldable pub parts : Parts → PlacedPart
parts = fold-Parts PlacedPart PlacedPart PlacedPart decl_layer body_layer parts_layer

-- ---- the whole specification

-- what the names of a specification mean
unfoldable pub env : Spec → Names → Env
env s names = env_of names.uses ((parts s.parts).declares s.span.start)

-- where rules speak of it
unfoldable pub sites : Spec → Names → List PlacedSite
sites s names = (parts s.parts).sites (env s names) s.span.start
