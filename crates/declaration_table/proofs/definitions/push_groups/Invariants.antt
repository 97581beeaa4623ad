use Rattle.std.proofs.Common.{◌≡◌, take, ◌++◌}
use Rattle.std.specs.List.{flat_map}
use Rattle.type_rules.specs.SpecificationSites.{group_one}
use Rattle.declaration_table.proofs.definitions.push_groups.Given as goal

abbrev pub invariant-loop-group : goal.invariant-loop-group
invariant-loop-group l = l.out ≡ l.initial.out ++ flat_map (group_one l.table) (take l.group-index l.groups)
