-- What each declaration brings to the body in which it stands, by its kind.
use Rattle.std.specs.Prelude.{Bool, List, [], ◌∷◌, length, map, replicate, flat_map}
use Rattle.estelle_tree.specs.declared.tree.name.Name.{Name}
use Rattle.estelle_tree.specs.declared.tree.specification.IpDecl.{IpDecl}
use Rattle.estelle_tree.specs.declared.tree.specification.ModvarDecl.{ModvarDecl}
use Rattle.estelle_tree.specs.declared.tree.specification.Body.{Body}
use Rattle.estelle_tree.specs.declared.tree.specification.Parts.{Parts}
use Rattle.estelle_tree.specs.declared.tree.specification.Decl.{Decl, out-Decl}
use Rattle.estelle_tree.specs.declared.tree.specification.Decl.TheOpen.{Decl-F}
use Rattle.estelle_model.specs.Denoted.{Declarations, Section, section, types_declare}
use Rattle.estelle_model.specs.Definitions.{const_def, type_def, routine_declares, channel_declares}
use Rattle.estelle_model.specs.Bodies.{Contribution, header_declares, stateset_declares}

abbrev pub states_at : Decl-F Decl Body Parts → List Name
states_at (Decl-F.State states span) = states.names
states_at _ = []

abbrev pub states_of : Decl → List Name
states_of d = states_at (out-Decl d)

abbrev pub names_at : Bool → Decl-F Decl Body Parts → Declarations
names_at by_default (Decl-F.Const defs span) = flat_map const_def defs
names_at by_default (Decl-F.Types defs span) = flat_map type_def defs
names_at by_default (Decl-F.Channel c) = channel_declares c
names_at by_default (Decl-F.Header h) = header_declares by_default h
names_at by_default (Decl-F.Var vars span) = types_declare (map section vars)
names_at by_default (Decl-F.Stateset sets span) = map stateset_declares sets
names_at by_default (Decl-F.Routine r) = routine_declares r
names_at by_default _ = []

abbrev pub names_of : Bool → Decl → Declarations
names_of by_default d = names_at by_default (out-Decl d)

abbrev pub variables_at : Decl-F Decl Body Parts → List Section
variables_at (Decl-F.Var vars span) = map section vars
variables_at _ = []

abbrev pub variables_of : Decl → List Section
variables_of d = variables_at (out-Decl d)

abbrev pub modvar_names : ModvarDecl → List Name
modvar_names m = m.names.names

abbrev pub modules_at : Decl-F Decl Body Parts → List Name
modules_at (Decl-F.Modvar ms span) = flat_map modvar_names ms
modules_at _ = []

-- the header of each module variable
abbrev pub module_headers_at : Decl-F Decl Body Parts → List Name
module_headers_at (Decl-F.Modvar ms span) = flat_map (λ m. replicate (length m.names.names) m.header) ms
module_headers_at _ = []

abbrev pub modules_of : Decl → List Name
modules_of d = modules_at (out-Decl d)

abbrev pub ip_names_in : IpDecl → List Name
ip_names_in d = d.names.names

abbrev pub ips_at : Decl-F Decl Body Parts → List IpDecl
ips_at (Decl-F.Ip ips span) = ips
ips_at _ = []

abbrev pub ips_of : Decl → List IpDecl
ips_of d = ips_at (out-Decl d)

-- the names of the interaction points that it brings
abbrev pub ip_names_of : Decl → List Name
ip_names_of d = flat_map ip_names_in (ips_of d)

abbrev pub bodies_at : Decl-F Decl Body Parts → List Body
bodies_at (Decl-F.Body b) = b ∷ []
bodies_at _ = []

abbrev pub bodies_of : Decl → List Body
bodies_of d = bodies_at (out-Decl d)

abbrev pub brought_at : Bool → Decl-F Decl Body Parts → Contribution
brought_at by_default d = record { names = names_at by_default d; variables = variables_at d; module_variables = modules_at d; module_headers = module_headers_at d; ips = ips_at d; states = states_at d }

abbrev pub brought_of : Bool → Decl → Contribution
brought_of by_default d = brought_at by_default (out-Decl d)
