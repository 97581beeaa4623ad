use Rattle.std.proofs.Common.{arith}
use Rattle.estelle_model.specs.Definitions.{group_declares}
use Rattle.meaning_table.proofs.Declarations.{declared_more}
use Rattle.body_table.proofs.channels.declare_groups.Goals as goal

pub loop-group-preserved : goal.loop-group-preserved
loop-group-preserved c =
    let e = declared_more (group_declares c.args.channel.now) c.args.groups.now c.loop-group.group-index c.group-item.result c.args.table.now c.loop-group-test.true c.group-item.is in
    grind (arith)
