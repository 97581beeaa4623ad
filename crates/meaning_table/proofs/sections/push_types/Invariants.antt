use Rattle.std.proofs.Common.{◌≡◌, ◌++◌, take, map}
use Rattle.estelle_model.specs.Denoted.{section_types}
use Rattle.meaning_table.specs.Known.{meanings_of}
use Rattle.meaning_table.proofs.sections.push_types.Given as goal

abbrev pub invariant-loop-section : goal.invariant-loop-section
invariant-loop-section g l = l.out ≡ l.initial.out ++ section_types (meanings_of l.table) (map g.S.Section.section (take l.section-index l.sections))
