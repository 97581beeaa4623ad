-- What headers, interaction points and interactions are, by the place of their names (ISO/IEC 9074).
use Rattle.std.specs.Prelude.{ℕ, nat_eq, Bool, true, false, ◌||◌, ◌&&◌, List, [], ◌∷◌, ◌++◌, map, Option, Some, None, option_map}
use Rattle.std.specs.List.{flat_map, list_any}
use Rattle.place_table.specs.Latest.{latest}
use Rattle.estelle_tree.specs.declared.span.Span.{Span}
use Rattle.estelle_tree.specs.declared.names.Names.{Names}
use Rattle.estelle_tree.specs.declared.tree.name.Name.{Name}
use Rattle.estelle_tree.specs.declared.tree.specification.Spec.{Spec}
use Rattle.estelle_tree.specs.declared.tree.specification.Attr.{Attr}
use Rattle.estelle_tree.specs.declared.tree.specification.Channel.{Channel}
use Rattle.estelle_tree.specs.declared.tree.specification.InterGroup.{InterGroup}
use Rattle.estelle_tree.specs.declared.tree.specification.Inter.{Inter}
use Rattle.estelle_tree.specs.declared.tree.specification.Params.{Params}
use Rattle.estelle_tree.specs.declared.tree.specification.ParamGroup.{ParamGroup}
use Rattle.estelle_tree.specs.declared.tree.specification.Header.{Header}
use Rattle.estelle_tree.specs.declared.tree.specification.IpDecl.{IpDecl}
use Rattle.type_rules.specs.Meanings.{Env, declaration_of, start}
use Rattle.type_rules.specs.SpecificationSites.{groups_of, place_or_none}
use Rattle.tree_visits.specs.Visit.{Visited, HeaderDeclared, ChannelDeclared, Ips, Visit}
use Rattle.tree_visits.specs.Visits.{Visits, visits}
use Rattle.module_table.specs.declared.declared.Sender.{Sender}
use Rattle.module_table.specs.declared.declared.InteractionPoint.{InteractionPoint}
use Rattle.module_table.specs.declared.declared.Interaction.{Interaction}
use Rattle.module_table.specs.declared.declared.Declared.{Declared}
use Rattle.module_table.specs.declared.declared.Declared.TheVariants as declared

abbrev pub Declarations : Type 0
Declarations = List (ℕ × Declared)

-- what names mean: for each name in use the name in its declaration, and what is declared at places, in order
pub record Known : Type 0 where
  pub names : Env
  pub places : Declarations

-- where the name in the declaration of a name in use begins; 0 where it means nothing
abbrev pub place_of : Env → Name → ℕ
place_of names x = place_or_none (declaration_of names x)

-- ---- interaction points: a channel and one of its roles, each known by the place of its name

abbrev pub interaction_point : Env → Bool → IpDecl → InteractionPoint
interaction_point names external p = record { channel = place_of names p.channel; role = place_of names p.role; external = external }

abbrev pub ip_at : InteractionPoint → Name → ℕ × Declared
ip_at p x = (x.span.start, declared.Ip p)

abbrev pub ip_declares : Env → Bool → IpDecl → Declarations
ip_declares names external p = map (ip_at (interaction_point names external p)) p.names.names

-- ---- interactions: which of the channel's roles may send them, and their parameters

-- a role is one of those behind `by`
abbrev pub is_among : Env → List Name → Name → Bool
is_among names roles role = list_any (λ x. nat_eq (place_of names x) role.span.start) roles

abbrev pub sender : Env → List Name → Name → Sender
sender names roles role = record { role = role.span.start; may_send = is_among names roles role }

abbrev pub group_words : ParamGroup → List (List ℕ)
group_words g = map (λ x. x.word) g.names.names

abbrev pub parameter_words : Option Params → List (List ℕ)
parameter_words ps = flat_map group_words (groups_of ps)

abbrev pub inter_declares : Sender → Sender → Inter → Declarations
inter_declares first second x = (x.name.span.start, declared.Interaction (record { first = first; second = second; parameters = parameter_words x.params })) ∷ []

abbrev pub group_declares : Env → Channel → InterGroup → Declarations
group_declares names c g = flat_map (inter_declares (sender names g.roles.names c.first_role) (sender names g.roles.names c.second_role)) g.inters

-- ---- all together

abbrev pub header_declares : Env → Header → Declarations
header_declares names h = (h.name.span.start, declared.Header h.attr) ∷ flat_map (ip_declares names true) h.ips

abbrev pub node_declares : Env → Visited → Declarations
node_declares names (HeaderDeclared h) = header_declares names h
node_declares names (Ips ips) = flat_map (ip_declares names false) ips
node_declares names (ChannelDeclared c) = flat_map (group_declares names c) c.groups
node_declares names n = []

abbrev pub visit_declares : Env → Visit → Declarations
visit_declares names v = node_declares names v.node

-- with more declarations
abbrev pub declare_all : Known → Declarations → Known
declare_all known ds = record { names = known.names; places = known.places ++ ds }

-- what is known once all that a specification declares is declared
unfoldable pub known : Spec → Names → Known
known tree names = record { names = start names.uses; places = flat_map (visit_declares (start names.uses)) (visits tree) }

-- ---- what a name in use means

-- the latest declaration at a place counts
abbrev pub declared_there : Known → Option Span → Option Declared
declared_there k None = None
declared_there k (Some at) = latest at.start k.places

unfoldable pub declared_as : Known → Name → Option Declared
declared_as k x = declared_there k (declaration_of k.names x)

abbrev pub attribute_in : Option Declared → Option Attr
attribute_in (Some (declared.Header attribute)) = attribute
attribute_in d = None

-- the attribute of the header that a name means; none where it has none
abbrev pub attribute_of : Known → Name → Option Attr
attribute_of k x = attribute_in (declared_as k x)

abbrev pub ip_in : Option Declared → Option InteractionPoint
ip_in (Some (declared.Ip p)) = Some p
ip_in d = None

-- the interaction point that a name means
abbrev pub ip_of : Known → Name → Option InteractionPoint
ip_of k x = ip_in (declared_as k x)

abbrev pub interaction_in : Option Declared → Option Interaction
interaction_in (Some (declared.Interaction i)) = Some i
interaction_in d = None

-- the interaction that a name means
abbrev pub interaction_of : Known → Name → Option Interaction
interaction_of k x = interaction_in (declared_as k x)

-- a role may send an interaction
abbrev pub may_send : ℕ → Interaction → Bool
may_send role i = (nat_eq role i.first.role && i.first.may_send) || (nat_eq role i.second.role && i.second.may_send)

-- the role opposite to this one may send it
abbrev pub may_receive : ℕ → Interaction → Bool
may_receive role i = (nat_eq role i.first.role && i.second.may_send) || (nat_eq role i.second.role && i.first.may_send)
