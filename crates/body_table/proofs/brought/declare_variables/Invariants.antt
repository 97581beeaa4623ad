use Rattle.std.proofs.Common.{◌≡◌, drop}
use Rattle.std.specs.List.{flat_map}
use Rattle.std.specs.Option.{option_copied}
use Rattle.estelle_model.specs.Denoted.{sections_declare}
use Rattle.meaning_table.specs.Known.{declare_all}
use Rattle.meaning_table.specs.Kinds.{numbered_behind}
use Rattle.meaning_table.specs.declared.kinds.VariableKind.TheVariants.{Own}
use Rattle.body_table.specs.Contributions.{variables_of}
use Rattle.body_table.specs.Standings.{header_variables}
use Rattle.body_table.proofs.brought.declare_variables.Given as goal

abbrev pub invariant-loop-decl : goal.invariant-loop-decl
invariant-loop-decl l =
    declare_all l.table (sections_declare (numbered_behind Own (header_variables (option_copied l.base.header))) l.number (flat_map variables_of (drop l.decl-index l.decls)))
    ≡ declare_all l.initial.table (sections_declare (numbered_behind Own (header_variables (option_copied l.base.header))) 0 (flat_map variables_of l.decls))
