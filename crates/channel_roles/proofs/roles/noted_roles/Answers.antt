use Rattle.std.proofs.Common.{arith}
use Rattle.visit_rules.proofs.NotedLaws.{chain_noted}
use Rattle.channel_roles.specs.ChannelRules.{unknown_role}
use Rattle.channel_roles.proofs.roles.noted_roles.Goals as goal

pub loop-role-preserved : goal.loop-role-preserved
loop-role-preserved c =
    let e = chain_noted (unknown_role c.args.table.now) c.args.roles.now c.loop-role.role-index c.role-item.result c.args.first c.loop-role-test.true c.role-item.is in
    grind (arith)
