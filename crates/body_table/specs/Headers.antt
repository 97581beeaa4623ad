-- The parts of what a header declares.
use Rattle.std.specs.Prelude.{Bool, true, ◌++◌, flat_map, option_map}
use Rattle.estelle_tree.specs.declared.tree.specification.Header.{Header as HeaderTree}
use Rattle.estelle_model.specs.declared.meaning.Meaning.{Meaning}
use Rattle.estelle_model.specs.declared.meaning.Meaning.TheVariants.{Header}
use Rattle.estelle_model.specs.Meant.{Meanings}
use Rattle.estelle_model.specs.Denoted.{Declarations, numbered, types_declare, sections_declare, section_types, count_names}
use Rattle.estelle_model.specs.Definitions.{parameter_sections}
use Rattle.estelle_model.specs.Bodies.{export_sections, interaction_points, attribute_of}
use Rattle.meaning_table.specs.Kinds.{variables, plainly}
use Rattle.meaning_table.specs.declared.kinds.VariableKind.TheVariants.{Own, Exported}
use Rattle.meaning_table.specs.declared.kinds.PlainKind.TheVariants.{Ip}
use Rattle.body_table.specs.Contributions.{ip_names_in}

-- the parameters, the exported variables and the interaction points
abbrev pub instance_declares : HeaderTree → Declarations
instance_declares h =
    types_declare (export_sections h)
    ++ sections_declare (variables Own) 0 (parameter_sections h.params)
    ++ sections_declare (variables Exported) (count_names (parameter_sections h.params)) (export_sections h)
    ++ numbered (plainly Ip) 0 (flat_map ip_names_in h.ips)

-- what its name means
abbrev pub header_means : Bool → HeaderTree → Meanings → Meaning
header_means by_default h known = Header (record {
  at = h.name.span.start;
  attribute = option_map attribute_of h.attr;
  parameters = section_types known (parameter_sections h.params);
  exports = section_types known (export_sections h);
  ips = interaction_points known by_default true h.ips;
})
