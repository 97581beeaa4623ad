use Rattle.std.proofs.Common.{◌≡◌, take}
use Rattle.std.specs.List.{flat_map}
use Rattle.type_rules.specs.Meanings.{declare_all}
use Rattle.type_rules.specs.SpecificationSites.{group}
use Rattle.declaration_table.proofs.specification.+groups.Given as goal

abbrev pub invariant-declare_groups-loop-group : goal.invariant-declare_groups-loop-group
invariant-declare_groups-loop-group l = l.table ≡ declare_all l.initial.table (flat_map (λ g. (group g).declares) (take l.group-index l.groups))
