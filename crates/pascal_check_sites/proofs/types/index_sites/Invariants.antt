use Rattle.std.proofs.Common.{◌≡◌, ◌++◌, take}
use Rattle.std.specs.List.{flat_map}
use Rattle.type_rules.specs.TypeSites.{ordinal_sites}
use Rattle.pascal_check_sites.proofs.types.index_sites.Given as goal

abbrev pub invariant-loop-index : goal.invariant-loop-index
invariant-loop-index l = l.out ≡ l.initial.out ++ flat_map (ordinal_sites l.table) (take l.index-index l.indices)
