use Rattle.std.proofs.Common.{◌≡◌, ◌+◌, drop, map}
use Rattle.estelle_model.specs.Denoted.{sections_declare, count_names}
use Rattle.meaning_table.specs.Known.{declare_all}
use Rattle.meaning_table.specs.Kinds.{numbered_behind}
use Rattle.meaning_table.proofs.sections.declare_sections.Given as goal

abbrev pub invariant-loop-section : goal.invariant-loop-section
invariant-loop-section g l =
    (declare_all l.table (sections_declare (numbered_behind l.kind (g.B.Base.base l.base)) l.number (map g.S.Section.section (drop l.section-index l.sections)))
    ≡ declare_all l.initial.table (sections_declare (numbered_behind l.kind (g.B.Base.base l.base)) l.first (map g.S.Section.section l.sections)))
    × (l.number + count_names (map g.S.Section.section (drop l.section-index l.sections)) ≡ l.first + count_names (map g.S.Section.section l.sections))
