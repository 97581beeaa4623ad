use Rattle.std.proofs.Common.{◌≡◌, ◌++◌, take}
use Rattle.std.specs.List.{flat_map}
use Rattle.type_rules.specs.SpecificationSites.{group}
use Rattle.pascal_check_sites.proofs.clauses.+groups.Given as goal

abbrev pub invariant-groups-loop-inner : goal.invariant-groups-loop-inner
invariant-groups-loop-inner l = l.out ≡ l.initial.out ++ flat_map (λ g. (group g).sites l.table) (take l.inner-index l.groups)
