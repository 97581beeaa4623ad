use Rattle.std.proofs.Common.{arith}
use Rattle.visit_rules.proofs.NotedLaws.{chain_noted}
use Rattle.channel_roles.specs.ChannelRules.{group_roles}
use Rattle.channel_roles.proofs.roles.noted_groups.Goals as goal

pub loop-group-preserved : goal.loop-group-preserved
loop-group-preserved c =
    let e = chain_noted (group_roles c.args.table.now) c.args.groups.now c.loop-group.group-index c.group-item.result c.args.first c.loop-group-test.true c.group-item.is in
    grind (arith)
