-- The parts of the definitions that have no name there.
use Rattle.estelle_tree.specs.declared.tree.specification.ParamGroup.{ParamGroup}
use Rattle.estelle_model.specs.Denoted.{Section, of_named_type}

-- the parameters of one type
abbrev pub group_section : ParamGroup → Section
group_section g = of_named_type g.names.names g.type_name
