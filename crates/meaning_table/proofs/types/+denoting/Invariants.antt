use Rattle.std.proofs.Common.{◌≡◌, take, map}
use Rattle.estelle_model.specs.Denoted.{section_types, section}
use Rattle.meaning_table.specs.Known.{meanings_of}
use Rattle.meaning_table.proofs.types.+denoting.Given as goal

abbrev pub invariant-denote_sections-loop-section : goal.invariant-denote_sections-loop-section
invariant-denote_sections-loop-section l = l.fields ≡ section_types (meanings_of l.table) (map section (take l.section-index l.sections))
