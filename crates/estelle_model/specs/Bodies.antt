-- The bodies of a specification, and what is declared in each (ISO/IEC 9074).
use Rattle.std.specs.Prelude.{ℕ, suc, ◌+◌, Bool, true, false, List, [], ◌∷◌, ◌++◌, length, map, replicate, flat_map, option_to_list, option_map, Option, Some, None}
use Rattle.estelle_tree.specs.declared.tree.name.Name.{Name}
use Rattle.estelle_tree.specs.declared.tree.clause.Block.{Block}
use Rattle.estelle_tree.specs.declared.tree.clause.Clause.{Clause}
use Rattle.estelle_tree.specs.declared.tree.clause.TransBody.{TransBody}
use Rattle.estelle_tree.specs.declared.tree.clause.TransBody.TheOpen.{TransBody-F, Group-F}
use Rattle.estelle_tree.specs.declared.tree.clause.TransBody.TheFolds.{fold-TransBody}
use Rattle.estelle_tree.specs.declared.tree.specification.Disc.{Disc}
use Rattle.estelle_tree.specs.declared.tree.specification.Disc.TheVariants as disc
use Rattle.estelle_tree.specs.declared.tree.specification.Head.{Head}
use Rattle.estelle_tree.specs.declared.tree.specification.Head.TheVariants as head
use Rattle.estelle_tree.specs.declared.tree.specification.SysAttr.{SysAttr}
use Rattle.estelle_tree.specs.declared.tree.specification.SysAttr.TheVariants as system
use Rattle.estelle_tree.specs.declared.tree.specification.Attr.{Attr}
use Rattle.estelle_tree.specs.declared.tree.specification.Attr.TheVariants as attr
use Rattle.estelle_tree.specs.declared.tree.specification.Header.{Header as HeaderTree}
use Rattle.estelle_tree.specs.declared.tree.specification.IpDecl.{IpDecl}
use Rattle.estelle_tree.specs.declared.tree.specification.StatesetDef.{StatesetDef}
use Rattle.estelle_tree.specs.declared.tree.specification.Init.{Init}
use Rattle.estelle_tree.specs.declared.tree.specification.Trans.{Trans}
use Rattle.estelle_tree.specs.declared.tree.specification.Parts.{Parts}
use Rattle.estelle_tree.specs.declared.tree.specification.Decl.TheOpen.{Decl-F, Body-F, Parts-F}
use Rattle.estelle_tree.specs.declared.tree.specification.Decl.TheFolds.{fold-Parts}
use Rattle.estelle_tree.specs.declared.tree.specification.Spec.{Spec}
use Rattle.estelle_model.specs.declared.denoter.Denoter.{Denoter}
use Rattle.estelle_model.specs.declared.meaning.Attribute.{Attribute}
use Rattle.estelle_model.specs.declared.meaning.Attribute.TheVariants.{Systemprocess, Systemactivity, Process, Activity}
use Rattle.estelle_model.specs.declared.meaning.Heading.{Heading}
use Rattle.estelle_model.specs.declared.meaning.InteractionPoint.{InteractionPoint}
use Rattle.estelle_model.specs.declared.meaning.Meaning.{Meaning}
use Rattle.estelle_model.specs.declared.meaning.Meaning.TheVariants.{Own, Exported, Module, Ip, State, StateSet, Header, Body}
use Rattle.estelle_model.specs.Meant.{Meanings}
use Rattle.estelle_model.specs.Denoted.{Declaration, Declarations, declare, numbered, Section, types_declare, sections_declare, section_types, count_names, section}
use Rattle.estelle_model.specs.Definitions.{const_def, type_def, routine_declares, parameter_sections, channel_at, role_at, channel_declares, clause_declares, block_declares}

-- ---- the ways from `trans` to the blocks

-- a block, with the clauses on the way to it
pub record Way : Type 0 where
  pub clauses : List Clause
  pub block : Block

abbrev pub behind : Clause → Way → Way
behind c w = record { clauses = c ∷ w.clauses; block = w.block }

abbrev pub trans_body_layer : TransBody-F (List Way) (List Way) → List Way
trans_body_layer (TransBody-F.Block b) = record { clauses = []; block = b } ∷ []
trans_body_layer (TransBody-F.Groups groups span) = flat_map (λ ws. ws) groups

abbrev pub group_layer : Group-F (List Way) (List Way) → List Way
group_layer g = map (behind g.clause) g.body

-- in text order
unfoldable pub ways : TransBody → List Way
ways = fold-TransBody (List Way) (List Way) trans_body_layer group_layer

abbrev pub clauses_layer : TransBody-F (List Clause) (List Clause) → List Clause
clauses_layer (TransBody-F.Block b) = []
clauses_layer (TransBody-F.Groups groups span) = flat_map (λ cs. cs) groups

abbrev pub clause_group_layer : Group-F (List Clause) (List Clause) → List Clause
clause_group_layer g = g.clause ∷ g.body

-- the clauses in text order
unfoldable pub clauses : TransBody → List Clause
clauses = fold-TransBody (List Clause) (List Clause) clauses_layer clause_group_layer

-- ---- bodies as they stand

-- what a declaration brings to the body in which it stands
pub record Contribution : Type 0 where
  pub names : Declarations
  pub variables : List Section
  pub module_variables : List Name
  -- the header of each
  pub module_headers : List Name
  pub ips : List IpDecl
  pub states : List Name

abbrev pub nothing : Contribution
nothing = record { names = []; variables = []; module_variables = []; module_headers = []; ips = []; states = [] }

-- a specification or a body, without the bodies in it
pub record BodyAlone : Type 0 where
  -- none for the specification
  pub name : Option Name
  pub header : Option Name
  pub brought : List Contribution
  pub init : Option Init
  pub trans : List Trans

-- which queue an interaction point has: its own discipline, or else the specification's, or else its own queue
abbrev pub is_common : Bool → Option Disc → Bool
is_common by_default None = by_default
is_common by_default (Some (disc.Individual span)) = false
is_common by_default (Some (disc.Common span)) = true

abbrev pub default_of : List Head → Bool
default_of [] = false
default_of (head.Default d span ∷ more) = is_common false (Some d)
default_of (head.Timescale unit span ∷ more) = default_of more

-- each of the interaction points that are declared together
abbrev pub interaction_point : Meanings → Bool → Bool → IpDecl → InteractionPoint
interaction_point known by_default external d = record { channel = channel_at (known d.channel); role = role_at (known d.role); common = is_common by_default d.disc; external = external }

abbrev pub interaction_points : Meanings → Bool → Bool → List IpDecl → List InteractionPoint
interaction_points known by_default external = flat_map (λ d. replicate (length d.names.names) (interaction_point known by_default external d))

abbrev pub ip_names : List IpDecl → List Name
ip_names = flat_map (λ d. d.names.names)

abbrev pub export_sections : HeaderTree → List Section
export_sections h = map section h.exports

abbrev pub system_attribute : SysAttr → Attribute
system_attribute (system.Systemprocess span) = Systemprocess
system_attribute (system.Systemactivity span) = Systemactivity

abbrev pub attribute_of : Attr → Attribute
attribute_of (attr.SysAttr a) = system_attribute a
attribute_of (attr.Process span) = Process
attribute_of (attr.Activity span) = Activity

-- the parameters, the exported variables and the interaction points of a header are those of an instance of each of its bodies
abbrev pub header_declares : Bool → HeaderTree → Declarations
header_declares by_default h =
    types_declare (export_sections h)
    ++ sections_declare (λ known n t. Own n t) 0 (parameter_sections h.params)
    ++ sections_declare (λ known n t. Exported n t) (count_names (parameter_sections h.params)) (export_sections h)
    ++ numbered (λ n known. Ip n) 0 (ip_names h.ips)
    ++ declare h.name (λ known. Header (record {
      at = h.name.span.start;
      attribute = option_map attribute_of h.attr;
      parameters = section_types known (parameter_sections h.params);
      exports = section_types known (export_sections h);
      ips = interaction_points known by_default true h.ips;
    })) ∷ []

abbrev pub numbers_of : Meaning → List ℕ
numbers_of (State k) = k ∷ []
numbers_of (StateSet ks) = ks
numbers_of _ = []

-- the states that names of states and of state sets stand for
abbrev pub states_named : Meanings → List Name → List ℕ
states_named known = flat_map (λ x. numbers_of (known x))

abbrev pub stateset_declares : StatesetDef → Declaration
stateset_declares d = declare d.name (λ known. StateSet (states_named known d.states.names))

-- by_default : whether interaction points share the common queue where they name none
module _ (by_default : Bool) where
  abbrev pub decl_layer : Decl-F (Contribution × List BodyAlone) (List BodyAlone) (List BodyAlone) → Contribution × List BodyAlone
  decl_layer (Decl-F.Const defs span) = (record nothing { names = flat_map const_def defs }, [])
  decl_layer (Decl-F.Types defs span) = (record nothing { names = flat_map type_def defs }, [])
  decl_layer (Decl-F.Channel c) = (record nothing { names = channel_declares c }, [])
  decl_layer (Decl-F.Header h) = (record nothing { names = header_declares by_default h }, [])
  decl_layer (Decl-F.Body bodies) = (nothing, bodies)
  decl_layer (Decl-F.Ip ips span) = (record nothing { ips = ips }, [])
  decl_layer (Decl-F.Modvar ms span) = (record nothing { module_variables = flat_map (λ m. m.names.names) ms; module_headers = flat_map (λ m. replicate (length m.names.names) m.header) ms }, [])
  decl_layer (Decl-F.Var vars span) = (record nothing { names = types_declare (map section vars); variables = map section vars }, [])
  decl_layer (Decl-F.State states span) = (record nothing { states = states.names }, [])
  decl_layer (Decl-F.Stateset sets span) = (record nothing { names = map stateset_declares sets }, [])
  decl_layer (Decl-F.Routine r) = (record nothing { names = routine_declares r }, [])

  abbrev pub headed : Name → Name → List BodyAlone → List BodyAlone
  headed x h [] = []
  headed x h (b ∷ inner) = record b { name = Some x; header = Some h } ∷ inner

  abbrev pub body_layer : Body-F (Contribution × List BodyAlone) (List BodyAlone) (List BodyAlone) → List BodyAlone
  body_layer b = headed b.name b.header b.parts

  abbrev pub parts_layer : Parts-F (Contribution × List BodyAlone) (List BodyAlone) (List BodyAlone) → List BodyAlone
  parts_layer ps = record { name = None; header = None; brought = map (λ d. d.0) ps.decls; init = ps.init; trans = ps.trans } ∷ flat_map (λ d. d.1) ps.decls

  -- what stands between `specification` and its end: the specification itself, and then the bodies in it in text order
  unfoldable pub standings : Parts → List BodyAlone
  standings = fold-Parts (Contribution × List BodyAlone) (List BodyAlone) (List BodyAlone) decl_layer body_layer parts_layer

-- the specification has the number 0, and the bodies have the numbers from 1 on
abbrev pub bodies : Spec → List BodyAlone
bodies spec = standings (default_of spec.heads) spec.parts

-- ---- what is declared in a body

abbrev pub no_heading : Heading
no_heading = record { at = 0; attribute = None; parameters = []; exports = []; ips = [] }

abbrev pub heading_of : Meaning → Heading
heading_of (Header h) = h
heading_of _ = no_heading

-- the header of a body; the specification has none
abbrev pub heading : Meanings → Option Name → Heading
heading known None = no_heading
heading known (Some x) = heading_of (known x)

abbrev pub variables_in : BodyAlone → List Section
variables_in b = flat_map (λ d. d.variables) b.brought

abbrev pub module_variables_in : BodyAlone → List Name
module_variables_in b = flat_map (λ d. d.module_variables) b.brought

abbrev pub module_headers_in : BodyAlone → List Name
module_headers_in b = flat_map (λ d. d.module_headers) b.brought

abbrev pub states_in : BodyAlone → List Name
states_in b = flat_map (λ d. d.states) b.brought

abbrev pub ips_in : BodyAlone → List IpDecl
ips_in b = flat_map (λ d. d.ips) b.brought

-- the types of the variables of an instance: the header's parameters, its exported variables, then the body's own
abbrev pub variable_types : Meanings → BodyAlone → List Denoter
variable_types known b = (heading known b.header).parameters ++ (heading known b.header).exports ++ section_types known (variables_in b)

-- the interaction points of an instance: the external ones of the header, then the body's own
abbrev pub ips_of_body : Meanings → Bool → BodyAlone → List InteractionPoint
ips_of_body known by_default b = (heading known b.header).ips ++ interaction_points known by_default false (ips_in b)

-- the header of each module variable of an instance, by the place where it is declared
abbrev pub module_headers : Meanings → BodyAlone → List ℕ
module_headers known b = map (λ x. (heading_of (known x)).at) (module_headers_in b)

-- the number of the first variable that is the body's own
abbrev pub own_from : Meanings → BodyAlone → ℕ
own_from known b = length ((heading known b.header).parameters ++ (heading known b.header).exports)

-- the ways to the blocks behind each `trans`, in text order
abbrev pub ways_in : List Trans → List Way
ways_in = flat_map (λ t. ways t.body)

abbrev pub ways_of : BodyAlone → List Way
ways_of b = ways_in b.trans

abbrev pub clauses_in : BodyAlone → List Clause
clauses_in b = flat_map (λ t. clauses t.body) b.trans

abbrev pub name_declares : ℕ → Option Name → Declarations
name_declares k None = []
name_declares k (Some x) = declare x (λ known. Body k) ∷ []

-- what is declared in the body with a number
abbrev pub body_declares : ℕ → BodyAlone → Declarations
body_declares k b =
    numbered (λ n known. State n) 0 (states_in b)
    ++ flat_map (λ d. d.names) b.brought
    ++ sections_declare (λ known n t. Own (own_from known b + n) t) 0 (variables_in b)
    ++ numbered (λ n known. Module n) 0 (module_variables_in b)
    ++ numbered (λ n known. Ip (length (heading known b.header).ips + n)) 0 (ip_names (ips_in b))
    ++ flat_map (λ i. block_declares [] i.block) (option_to_list b.init)
    ++ flat_map clause_declares (clauses_in b)
    ++ flat_map (λ w. block_declares w.clauses w.block) (ways_of b)
    ++ name_declares k b.name

-- what is declared in bodies one after another, an outer one before those in it
abbrev pub bodies_declare : ℕ → List BodyAlone → Declarations
bodies_declare k [] = []
bodies_declare k (b ∷ bs) = body_declares k b ++ bodies_declare (suc k) bs
