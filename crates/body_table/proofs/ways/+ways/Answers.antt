use Rattle.std.proofs.Common.{arith, map}
use Rattle.std.specs.List.{flat_map}
use Rattle.meaning_table.proofs.Declarations.{declared_more}
use Rattle.body_table.specs.Ways.{group_ways, way_declares}
use Rattle.body_table.proofs.ways.+ways.Goals as goal

pub declare_groups-loop-group-preserved : goal.declare_groups-loop-group-preserved
declare_groups-loop-group-preserved t c =
    let e = declared_more (λ g. flat_map (way_declares (map (λ x. x.now) c.args.interactions.now)) (group_ways g)) c.args.groups.now c.loop-group.group-index c.group-item.result c.args.table.now c.loop-group-test.true c.group-item.is in
    grind (arith)
