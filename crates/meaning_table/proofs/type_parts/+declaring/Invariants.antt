use Rattle.std.proofs.Common.{◌≡◌, take, map}
use Rattle.estelle_model.specs.Denoted.{types_declare, section}
use Rattle.meaning_table.specs.Known.{declare_all}
use Rattle.meaning_table.proofs.type_parts.+declaring.Given as goal

abbrev pub invariant-declare_types-loop-section : goal.invariant-declare_types-loop-section
invariant-declare_types-loop-section l = l.table ≡ declare_all l.initial.table (types_declare (map section (take l.section-index l.sections)))
