use Rattle.std.proofs.Common.{◌≡◌, ◌+◌, drop}
use Rattle.std.specs.List.{flat_map}
use Rattle.estelle_model.specs.Denoted.{sections_declare, count_names}
use Rattle.meaning_table.specs.Known.{declare_all}
use Rattle.meaning_table.specs.Kinds.{numbered_behind}
use Rattle.meaning_table.specs.declared.kinds.VariableKind.TheVariants.{Local}
use Rattle.body_table.specs.Formals.{value_section}
use Rattle.body_table.proofs.routines.declare_value_formals.Given as goal

abbrev pub invariant-loop-formal : goal.invariant-loop-formal
invariant-loop-formal l =
    (declare_all l.table (sections_declare (numbered_behind Local (λ m. 0)) l.number (flat_map value_section (drop l.formal-index l.formals)))
    ≡ declare_all l.initial.table (sections_declare (numbered_behind Local (λ m. 0)) 0 (flat_map value_section l.formals)))
    × (l.number + count_names (flat_map value_section (drop l.formal-index l.formals)) ≡ count_names (flat_map value_section l.formals))
