use Rattle.std.proofs.Common.{◌≡◌, take, map}
use Rattle.std.specs.List.{flat_map}
use Rattle.meaning_table.specs.Known.{declare_all}
use Rattle.body_table.specs.Ways.{group_ways, way_declares}
use Rattle.body_table.proofs.ways.+ways.Given as goal

abbrev pub invariant-declare_groups-loop-group : goal.invariant-declare_groups-loop-group
invariant-declare_groups-loop-group l = l.table ≡ declare_all l.initial.table (flat_map (λ g. flat_map (way_declares (map (λ x. x.now) l.interactions)) (group_ways g)) (take l.group-index l.groups))
