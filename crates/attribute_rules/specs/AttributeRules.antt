-- The rules 10 to 14, on the attributes of modules (ISO/IEC 9074: module attributes).
use Rattle.std.specs.Prelude.{ℕ, Bool, true, false, ◌&&◌, List, [], ◌∷◌, ◌++◌, Option, Some, None, option_map, is_some, is_none}
use Rattle.std.specs.List.{flat_map}
use Rattle.estelle_tree.specs.declared.span.Span.{Span}
use Rattle.estelle_tree.specs.declared.names.Names.{Names}
use Rattle.estelle_tree.specs.declared.tree.name.Name.{Name}
use Rattle.estelle_tree.specs.declared.tree.specification.Spec.{Spec}
use Rattle.estelle_tree.specs.declared.tree.specification.ModvarDecl.{ModvarDecl}
use Rattle.estelle_tree.specs.declared.tree.specification.SysAttr.{SysAttr}
use Rattle.estelle_tree.specs.declared.tree.specification.SysAttr.TheVariants as system
use Rattle.estelle_tree.specs.declared.tree.specification.Attr.{Attr}
use Rattle.estelle_tree.specs.declared.tree.specification.Attr.TheVariants as attr
use Rattle.scope_rules.specs.declared.refusal.Breach.{Breach}
use Rattle.tree_visits.specs.Visit.{Visited, ModuleVariables, Transitions, Around, Visit}
use Rattle.scope_rules.specs.Least.{breach}
use Rattle.visit_rules.specs.Breaches.{Rules, Broken, breaches_at, where_}
use Rattle.module_table.specs.Known.{Known, known, attribute_of}
use Rattle.attribute_rules.specs.declared.rules.Matrix.{Matrix}
use Rattle.attribute_rules.specs.declared.rules.Matrix.TheVariants.{SystemInside, InnerOutside, UnattributedInside, ProcessInActivity}

-- ---- attributes

abbrev pub attribute_by : Known → Option SysAttr → Option Name → Option Attr
attribute_by k a None = option_map attr.SysAttr a
attribute_by k a (Some header) = attribute_of k header

-- the attribute of a specification or body: its own, or its header's
abbrev pub attribute_around : Known → Around → Option Attr
attribute_around k a = attribute_by k a.attr a.header

abbrev pub is_system : Option Attr → Bool
is_system (Some (attr.SysAttr a)) = true
is_system a = false

abbrev pub is_process : Option Attr → Bool
is_process (Some (attr.Process span)) = true
is_process a = false

abbrev pub is_inner : Option Attr → Bool
is_inner (Some (attr.Process span)) = true
is_inner (Some (attr.Activity span)) = true
is_inner a = false

-- inside, one of the instances at a time goes on
abbrev pub is_activity : Option Attr → Bool
is_activity (Some (attr.SysAttr (system.Systemactivity span))) = true
is_activity (Some (attr.Activity span)) = true
is_activity a = false

-- ---- the rules

-- a body with the one attribute may have no module variable of a header with the other
abbrev pub is_broken : Matrix → Option Attr → Option Attr → Bool
is_broken SystemInside body header = is_some body && is_system header
is_broken InnerOutside body header = is_none body && is_inner header
is_broken UnattributedInside body header = is_some body && is_none header
is_broken ProcessInActivity body header = is_activity body && is_process header

abbrev pub number_of : Matrix → ℕ
number_of SystemInside = 11
number_of InnerOutside = 12
number_of UnattributedInside = 13
number_of ProcessInActivity = 14

-- 10: a body of an unattributed header, or an unattributed specification, has transitions; at each word `trans`
abbrev pub unattributed_transitions : Known → Around → Visited → List Breach
unattributed_transitions k a (Transitions span) = where_ (is_none (attribute_around k a)) (breach 10 span ∷ [])
unattributed_transitions k a n = []

abbrev pub variable_breaches : Known → Option Attr → Matrix → ModvarDecl → List Breach
variable_breaches k body rule m = where_ (is_broken rule body (attribute_of k m.header)) (breaches_at (number_of rule) m.names.names)

-- 11 to 14: a body has a module variable that its attribute rules out; at the variable
abbrev pub ruled_out : Known → Matrix → Around → Visited → List Breach
ruled_out k rule a (ModuleVariables ms) = flat_map (variable_breaches k (attribute_around k a) rule) ms
ruled_out k rule a n = []

-- what a visit breaks, by what names mean
abbrev pub breaches : Known → Rules
breaches k v =
    unattributed_transitions k v.around v.node
    ++ (ruled_out k SystemInside v.around v.node ++ (ruled_out k InnerOutside v.around v.node
    ++ (ruled_out k UnattributedInside v.around v.node ++ ruled_out k ProcessInActivity v.around v.node)))

abbrev pub AttributeRuleBroken : Spec → Names → Breach → Type 0
AttributeRuleBroken tree names = Broken (breaches (known tree names)) tree
