use Rattle.std.proofs.Common.{◌≡◌, ◌++◌, take}
use Rattle.std.specs.List.{flat_map}
use Rattle.type_rules.specs.SpecificationSites.{decl}
use Rattle.pascal_check_sites.proofs.specification.+bodies.Given as goal

abbrev pub invariant-decls-loop-inner : goal.invariant-decls-loop-inner
invariant-decls-loop-inner l = l.out ≡ l.initial.out ++ flat_map (λ d. (decl d).sites l.table l.at) (take l.inner-index l.decls)
