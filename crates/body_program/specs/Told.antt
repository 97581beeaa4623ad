-- Bodies, and what is told of them by the parts of the tree.
use Rattle.std.specs.Prelude.{Bool, false, not, List, ◌∷◌, ◌++◌, length, map, flat_map, option_map}
use Rattle.estelle_tree.specs.declared.tree.specification.Parts.{Parts, out-Parts}
use Rattle.estelle_tree.specs.declared.tree.specification.Spec.{Spec}
use Rattle.estelle_tree.specs.declared.tree.specification.Decl.{Decl}
use Rattle.estelle_model.specs.Denoted.{section_types}
use Rattle.estelle_model.specs.Bodies.{BodyAlone, no_heading, system_attribute, default_of, heading, interaction_points, variable_types, module_variables_in, module_headers, ips_of_body}
use Rattle.estelle_model.specs.Transitions.{flat}
use Rattle.estelle_model.specs.Subject.{of_init}
use Rattle.estelle_model.specs.Attributes.{is_empty}
use Rattle.meaning_table.specs.Known.{Known, meanings_of}
use Rattle.body_table.specs.Contributions.{variables_of, ips_of, bodies_of}
use Rattle.body_table.specs.Standings as stand
use Rattle.flat_transitions.specs.Flat.{with_chosen}
use Rattle.body_state.specs.declared.bodies.ModuleBody.{ModuleBody}
use Rattle.body_state.specs.Bodies.{initialization_of}
use Rattle.body_program.specs.declared.headings.HeaderPart.{HeaderPart}
use Rattle.body_program.specs.declared.flat.BodyTransitions.{BodyTransitions}
use Rattle.body_program.specs.Headings.{of_heading}
use Rattle.body_program.specs.Own.{headers_in}
use Rattle.body_program.specs.Chosen.{block_by, transitions_by}

abbrev pub has_some : BodyTransitions → Bool
has_some f = not (is_empty f.transitions)

-- what is told of a body by what it has of its header and by its parts
abbrev pub told : Known → Bool → HeaderPart → Bool → Parts → ModuleBody
told known by_default part has_transitions p = record {
  header = part.at;
  attribute = part.attribute;
  has_transitions = has_transitions;
  parameters = part.parameters;
  variables = part.variables ++ section_types (meanings_of known) (flat_map variables_of (out-Parts p).decls);
  module_variables = length (flat_map (headers_in (meanings_of known)) (out-Parts p).decls);
  module_headers = flat_map (headers_in (meanings_of known)) (out-Parts p).decls;
  ips = part.ips ++ flat_map (λ d. interaction_points (meanings_of known) by_default false (ips_of d)) (out-Parts p).decls;
  external = length part.ips;
  initialization = option_map initialization_of (option_map (of_init (meanings_of known)) (out-Parts p).init);
}

-- a body with the attribute of its header
unfoldable pub inner_body : Known → Bool → BodyAlone → ModuleBody
inner_body known by_default b = record {
  header = (heading (meanings_of known) b.header).at;
  attribute = (heading (meanings_of known) b.header).attribute;
  has_transitions = not (is_empty (flat (with_chosen known) b));
  parameters = (heading (meanings_of known) b.header).parameters;
  variables = variable_types (meanings_of known) b;
  module_variables = length (module_variables_in b);
  module_headers = module_headers (meanings_of known) b;
  ips = ips_of_body (meanings_of known) by_default b;
  external = length (heading (meanings_of known) b.header).ips;
  initialization = option_map initialization_of (option_map (of_init (meanings_of known)) b.init);
}

-- its transitions, with the block of each
unfoldable pub flat_at : Known → BodyAlone → BodyTransitions
flat_at known b = record { transitions = flat (with_chosen known) b; blocks = map (block_by known) (flat (with_chosen known) b) }

-- those that stand in a declaration
abbrev pub bodies_in : Known → Bool → Decl → List ModuleBody
bodies_in known by_default d = map (inner_body known by_default) (flat_map (stand.body by_default) (bodies_of d))

abbrev pub flats_in : Known → Bool → Decl → List BodyTransitions
flats_in known by_default d = map (flat_at known) (flat_map (stand.body by_default) (bodies_of d))

-- the specification has no header, and an attribute of its own
abbrev pub root_part : Spec → HeaderPart
root_part tree = record (of_heading no_heading) { attribute = option_map system_attribute tree.attr }

-- the specification, and then the bodies in it
abbrev pub all_told : Known → Spec → List ModuleBody
all_told known tree =
    told known (default_of tree.heads) (root_part tree) (has_some (transitions_by known (out-Parts tree.parts).trans)) tree.parts
    ∷ flat_map (bodies_in known (default_of tree.heads)) (out-Parts tree.parts).decls

-- and the transitions of each
abbrev pub all_flat : Known → Spec → List BodyTransitions
all_flat known tree = transitions_by known (out-Parts tree.parts).trans ∷ flat_map (flats_in known (default_of tree.heads)) (out-Parts tree.parts).decls
