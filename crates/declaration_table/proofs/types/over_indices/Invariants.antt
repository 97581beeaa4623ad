use Rattle.std.proofs.Common.{◌≡◌, map, take}
use Rattle.std.specs.Prelude.{fold}
use Rattle.type_rules.specs.Types.{over_index}
use Rattle.type_rules.specs.TypeSites.{ordinal_type}
use Rattle.declaration_table.proofs.types.over_indices.Given as goal

abbrev pub invariant-loop-index : goal.invariant-loop-index
invariant-loop-index l = l.array ≡ fold over_index l.initial.array (map (ordinal_type l.table) (take l.index-index l.indices))
