use Rattle.std.proofs.Common.{arith}
use Rattle.type_rules.specs.SpecificationSites.{group}
use Rattle.declaration_table.proofs.Declaring.{chain_more}
use Rattle.declaration_table.proofs.specification.+groups.Goals as goal

pub declare_groups-loop-group-preserved : goal.declare_groups-loop-group-preserved
declare_groups-loop-group-preserved t c =
    let e = chain_more (λ g. (group g).declares) c.args.groups.now c.loop-group.group-index c.group-item.result c.args.table.now c.loop-group-test.true c.group-item.is in
    grind (arith)
