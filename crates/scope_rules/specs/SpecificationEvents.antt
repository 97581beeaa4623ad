-- What channels, headers, bodies and a specification say of names.
use Rattle.std.specs.Prelude.{ℕ, Bool, true, false, List, [], ◌∷◌, ◌++◌, map, Option, Some, None}
use Rattle.std.specs.List.{flat_map}
use Rattle.std.specs.Option.{is_some}
use Rattle.estelle_tree.specs.declared.span.Span.{Span}
use Rattle.estelle_tree.specs.declared.tree.name.Name.{Name}
use Rattle.estelle_tree.specs.declared.tree.specification.Spec.{Spec}
use Rattle.estelle_tree.specs.declared.tree.specification.Parts.{Parts}
use Rattle.estelle_tree.specs.declared.tree.specification.Trans.{Trans}
use Rattle.estelle_tree.specs.declared.tree.specification.Init.{Init}
use Rattle.estelle_tree.specs.declared.tree.specification.Decl.{Decl}
use Rattle.estelle_tree.specs.declared.tree.specification.Decl.TheOpen.{Decl-F, Body-F, Parts-F}
use Rattle.estelle_tree.specs.declared.tree.specification.Decl.TheFolds.{fold-Decl, fold-Body, fold-Parts}
use Rattle.estelle_tree.specs.declared.tree.specification.Channel.{Channel}
use Rattle.estelle_tree.specs.declared.tree.specification.InterGroup.{InterGroup}
use Rattle.estelle_tree.specs.declared.tree.specification.Inter.{Inter}
use Rattle.estelle_tree.specs.declared.tree.specification.Params.{Params}
use Rattle.estelle_tree.specs.declared.tree.specification.ParamGroup.{ParamGroup}
use Rattle.estelle_tree.specs.declared.tree.specification.Header.{Header}
use Rattle.estelle_tree.specs.declared.tree.specification.IpDecl.{IpDecl}
use Rattle.estelle_tree.specs.declared.tree.specification.ModvarDecl.{ModvarDecl}
use Rattle.estelle_tree.specs.declared.tree.specification.StatesetDef.{StatesetDef}
use Rattle.estelle_tree.specs.declared.tree.specification.Body.{Body}
use Rattle.estelle_tree.specs.Spans.{nowhere}
use Rattle.estelle_tree.specs.declared.required.RequiredIdentifier.{RequiredIdentifier}
use Rattle.estelle_tree.specs.declared.required.RequiredIdentifier.TheVariants as identifier
use Rattle.estelle_tree.specs.Required.{identifiers}
use Rattle.scope_rules.specs.declared.declaration.Denotes.{Denotes}
use Rattle.scope_rules.specs.declared.declaration.Denotes.TheVariants as d
use Rattle.scope_rules.specs.declared.declaration.Need.TheVariants as need
use Rattle.scope_rules.specs.declared.declaration.Inside.TheVariants.{Nothing, At, Brought}
use Rattle.scope_rules.specs.declared.event.ScopeForm.TheVariants as scope
use Rattle.scope_rules.specs.declared.event.Step.TheVariants as step
use Rattle.scope_rules.specs.declared.event.Event.{Event}
use Rattle.scope_rules.specs.declared.event.Event.TheVariants.{Open, Close, Keep, Import, Declare, Use, By, States}
use Rattle.scope_rules.specs.TypeEvents.{Events, use_alone, declare, typed_names}
use Rattle.scope_rules.specs.ExpressionEvents.{optional}
use Rattle.scope_rules.specs.DeclarationEvents.{const_def, type_def, parameters, routine, routine_declared}
use Rattle.scope_rules.specs.ClauseEvents.{block, trans_body, any_of, body_states}

abbrev pub param_group : ParamGroup → Events
param_group g = parameters g.names g.type_name

abbrev pub params : Params → Events
params ps = flat_map param_group ps.groups

-- the parameters of an interaction are a scope
abbrev pub inter : Inter → Events
inter x = declare x.name d.Interaction (At x.name.span) ++ (Open scope.Inner ∷ (optional params x.params ++ Keep x.name.span ∷ []))

abbrev pub inter_group : InterGroup → Events
inter_group g = map By g.roles.names ++ flat_map inter g.inters

abbrev pub roles_declared : Name → Name → Event
roles_declared first second = Declare (first ∷ second ∷ []) d.Role Nothing

-- the roles and the interactions of a channel are a scope
abbrev pub channel : Channel → Events
channel c = declare c.name d.Channel (At c.name.span) ++ (Open scope.Inner ∷ roles_declared c.first_role c.second_role ∷ (flat_map inter_group c.groups ++ Keep c.name.span ∷ []))

-- ips bring the roles and the interactions of their channel behind a dot
abbrev pub ip_decl : IpDecl → Events
ip_decl p = Use p.channel need.Channel (step.Role p.role ∷ []) ∷ Declare p.names.names d.Ip (Brought p.channel.span) ∷ []

-- module variables bring the inside of their header behind a dot
abbrev pub modvar_decl : ModvarDecl → Events
modvar_decl m = use_alone need.Header m.header ++ Declare m.names.names d.ModuleVariable (Brought m.header.span) ∷ []

abbrev pub stateset_def : StatesetDef → Events
stateset_def s = flat_map (use_alone need.State) s.states.names ++ declare s.name d.StateSet Nothing

-- the parameters, ips and exported variables of a header are a scope
abbrev pub header : Header → Events
header h = declare h.name d.Header (At h.name.span) ++ (Open scope.Inner ∷ (optional params h.params ++ (flat_map ip_decl h.ips ++ (flat_map (typed_names d.Exported) h.exports ++ Keep h.name.span ∷ []))))

-- the name behind `to` is a state
abbrev pub first_state : Option Name → Events
first_state = optional (use_alone need.State)

abbrev pub init : Init → Events
init x = first_state x.to ++ block x.block

-- `initialize` stands there and has `to`
abbrev pub has_to : Option Init → Bool
has_to None = false
has_to (Some x) = is_some x.to

-- the ways of the transitions under one word `trans` are scopes inside the body's
abbrev pub trans : Trans → Events
trans t = Open scope.Inner ∷ (trans_body t.body ++ Close ∷ [])

-- a declaration: the routine that it declares, whether it declares states, and its events
pub record Declaring : Type 0 where
  pub routine : Events
  pub states : Bool
  pub events : Events

abbrev pub says : Events → Declaring
says es = record { routine = []; states = false; events = es }

-- the parts of a specification or body: what their `States` says, and their events
pub record Saying : Type 0 where
  pub declared : Bool
  pub initial : Bool
  pub transitions : Bool
  pub events : Events

abbrev pub states_of : Span → Saying → Events
states_of at p = States at p.declared p.initial p.transitions ∷ []

-- a body is a scope, to which the inside of its header belongs; its own name is visible in it, and it brings what is noted where its header is named
abbrev pub body_head : Name → Name → Span → Saying → Events
body_head name header span parts = declare name d.Body (At header.span) ++ (use_alone need.Header header ++ (states_of span parts ++ Open scope.Body ∷ Import header ∷ []))

abbrev pub body_layer : Body-F Declaring Events Saying → Events
body_layer b = body_head b.name b.header b.span b.parts ++ (b.parts.events ++ Close ∷ [])

abbrev pub decl_layer : Decl-F Declaring Events Saying → Declaring
decl_layer (Decl-F.Const defs span) = says (flat_map const_def defs)
decl_layer (Decl-F.Types defs span) = says (flat_map type_def defs)
decl_layer (Decl-F.Channel c) = says (channel c)
decl_layer (Decl-F.Header h) = says (header h)
decl_layer (Decl-F.Body b) = says b
decl_layer (Decl-F.Ip ips span) = says (flat_map ip_decl ips)
decl_layer (Decl-F.Modvar modvars span) = says (flat_map modvar_decl modvars)
decl_layer (Decl-F.Var vars span) = says (flat_map (typed_names d.Variable) vars)
decl_layer (Decl-F.State states span) = record { routine = []; states = true; events = Declare states.names d.State Nothing ∷ [] }
decl_layer (Decl-F.Stateset sets span) = says (flat_map stateset_def sets)
decl_layer (Decl-F.Routine r) = record { routine = routine_declared r; states = false; events = routine r }

-- a routine is visible in the whole body: it is declared before all else
abbrev pub parts_layer : Parts-F Declaring Events Saying → Saying
parts_layer ps = record {
  declared = any_of (λ x. x.states) ps.decls;
  initial = has_to ps.init;
  transitions = any_of (λ t. body_states t.body) ps.trans;
  events = flat_map (λ x. x.routine) ps.decls ++ (flat_map (λ x. x.events) ps.decls ++ (optional init ps.init ++ flat_map trans ps.trans));
}

unfoldable pub decl : Decl → Declaring
decl = fold-Decl Declaring Events Saying decl_layer body_layer parts_layer

unfoldable pub body : Body → Events
body = fold-Body Declaring Events Saying decl_layer body_layer parts_layer

unfoldable pub parts : Parts → Saying
parts = fold-Parts Declaring Events Saying decl_layer body_layer parts_layer

-- a required identifier stands nowhere
abbrev pub required : List ℕ → Name
required word = record { word = word; span = nowhere }

-- what a required identifier denotes
abbrev pub denotes_required : RequiredIdentifier → Denotes
denotes_required identifier.Integer = d.Type
denotes_required identifier.Boolean = d.Type
denotes_required identifier.Char = d.Type
denotes_required identifier.False = d.Constant
denotes_required identifier.True = d.Constant
denotes_required identifier.Maxint = d.Constant
denotes_required (identifier.Function f) = d.RequiredFunction

abbrev pub required_event : List ℕ → RequiredIdentifier → Event
required_event word means = Declare (required word ∷ []) (denotes_required means) Nothing

-- the required identifiers are declared one after another
abbrev pub required_events : Events
required_events = map (λ e. required_event e.0 e.1) identifiers

-- the required identifiers are the outermost scope, and the specification is the next one; its own name is in none
unfoldable pub events : Spec → Events
events s = Open scope.Inner ∷ (required_events ++ (states_of s.span (parts s.parts) ++ (Open scope.Body ∷ ((parts s.parts).events ++ Close ∷ Close ∷ []))))
