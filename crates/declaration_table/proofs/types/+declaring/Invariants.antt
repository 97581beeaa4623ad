use Rattle.std.proofs.Common.{◌≡◌, take}
use Rattle.std.specs.List.{flat_map}
use Rattle.type_rules.specs.Meanings.{declare_all}
use Rattle.type_rules.specs.TypeSites.{section_declares, typed_names}
use Rattle.declaration_table.proofs.types.+declaring.Given as goal

abbrev pub invariant-declare_sections-loop-section : goal.invariant-declare_sections-loop-section
invariant-declare_sections-loop-section l = l.table ≡ declare_all l.initial.table (flat_map (λ x. section_declares (typed_names x)) (take l.section-index l.sections))
