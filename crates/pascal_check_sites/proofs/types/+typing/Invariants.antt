use Rattle.std.proofs.Common.{◌≡◌, ◌++◌, take}
use Rattle.std.specs.Prelude.{fold}
use Rattle.std.specs.List.{flat_map}
use Rattle.type_rules.specs.Types.{no_fields}
use Rattle.type_rules.specs.TypeSites.{with_section, typed_names}
use Rattle.pascal_check_sites.proofs.types.+typing.Given as goal

abbrev pub invariant-sections-loop-section : goal.invariant-sections-loop-section
invariant-sections-loop-section l = record {
  denoted : l.fields ≡ fold (λ d x. with_section l.table d (typed_names x)) no_fields (take l.section-index l.sections);
  sites : l.out ≡ l.initial.out ++ flat_map (λ x. (typed_names x).1.sites l.table) (take l.section-index l.sections);
}
