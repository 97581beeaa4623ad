use Rattle.std.proofs.Common.{◌≡◌, take}
use Rattle.std.specs.Prelude.{fold}
use Rattle.type_rules.specs.Types.{no_fields}
use Rattle.type_rules.specs.TypeSites.{with_section, typed_names}
use Rattle.declaration_table.proofs.types.+denoting.Given as goal

abbrev pub invariant-denote_sections-loop-section : goal.invariant-denote_sections-loop-section
invariant-denote_sections-loop-section l = l.fields ≡ fold (λ d x. with_section l.table d (typed_names x)) no_fields (take l.section-index l.sections)
