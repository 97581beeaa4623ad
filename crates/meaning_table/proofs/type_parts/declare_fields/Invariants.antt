use Rattle.std.proofs.Common.{◌≡◌, drop, map}
use Rattle.estelle_model.specs.declared.meaning.Meaning.TheVariants.{Field}
use Rattle.estelle_model.specs.Denoted.{sections_declare, section}
use Rattle.meaning_table.specs.Known.{declare_all}
use Rattle.meaning_table.proofs.type_parts.declare_fields.Given as goal

abbrev pub invariant-loop-section : goal.invariant-loop-section
invariant-loop-section l =
    declare_all l.table (sections_declare (λ known n t. Field n) l.number (map section (drop l.section-index l.sections)))
    ≡ declare_all l.initial.table (sections_declare (λ known n t. Field n) 0 (map section l.sections))
